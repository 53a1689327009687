-- What is made is the encoding of a good request.
use Rattle.std.proofs.Common.{◌≡◌, ℕ, ◌≤◌, Bool, true, List, [], ◌∷◌, ◌++◌, length, Option, Some, None, refl, ◌∙◌}
use Rattle.std.proofs.Common.{arith, lit<}
use Rattle.std.specs.Prelude.{IfSome}
use Rattle.der_core.specs.Contents.{is_oid, is_integer}
use Rattle.der_core.specs.Element.{len}
use Rattle.der_core.specs.Values.{HasLength, IsOid, IsInteger, IsOpaque, GoodAlgorithm}
use Rattle.digests.specs.declared.algorithm.Alg.{Alg}
use Rattle.digests.specs.declared.value.Digest.{Digest}
use Rattle.digests.specs.Algorithms.{contents_of, length_of}
use Rattle.digests.specs.Digests.{alg_of, octets_of}
use Rattle.tsp_types.specs.ImprintValue.{GoodImprint}
use Rattle.tsp_types.specs.RequestValue.{request_parts, EncodesRequest}
use Rattle.tsp_types.specs.Asked.{algorithm_asked, imprint_asked, asked}
use Rattle.digests.proofs.Lengths.{length_most}
use Rattle.digests.proofs.Named.{contents_formed, contents_short}
use Rattle.tsp_types.proofs.LengthsMade.{algorithm_parts_most, imprint_asked_length}

identifier_good : (a : Alg) → IsOid (contents_of a)
identifier_good a = (contents_formed a, omega (arith, contents_short a))

null_opaque : IsOpaque (5 ∷ 0 ∷ [])
unfolding len
null_opaque = (5, [], record { identifier = refl; size = lit< tt }, refl)

algorithm_good : (a : Alg) → GoodAlgorithm (algorithm_asked a)
algorithm_good a =
    record { oid = identifier_good a; parameters = null_opaque; size = omega (arith, algorithm_parts_most a) }

imprint_good : (d : Digest) → length (octets_of d) ≡ length_of (alg_of d) → GoodImprint (imprint_asked d)
imprint_good d count = record {
  algorithm = algorithm_good (alg_of d);
  digest = omega (arith, length_most (alg_of d), count);
  size = omega (arith, (imprint_asked_length d count).1);
}

policy_good : (o : Option (List ℕ)) → IfSome o (λ b. is_oid b ≡ true) → IfSome o (λ b. HasLength b) → IfSome o IsOid
policy_good None h k = tt
policy_good (Some b) h k = (h, k)

nonce_good : (o : Option (List ℕ)) → IfSome o (λ b. is_integer b ≡ true) → IfSome o (λ b. HasLength b)
    → IfSome o IsInteger
nonce_good None h k = tt
nonce_good (Some b) h k = (h, k)

-- the policy and the nonce that are asked for, if any, are an OBJECT IDENTIFIER and an INTEGER, each of a length that
-- can be stated
pub record AreGood (p n : Option (List ℕ)) : Type 0 where
  pub policy : IfSome p (λ b. is_oid b ≡ true)
  pub policy_fits : IfSome p (λ b. HasLength b)
  pub nonce : IfSome n (λ b. is_integer b ≡ true)
  pub nonce_fits : IfSome n (λ b. HasLength b)

pub request_made : (d : Digest) (p n : Option (List ℕ)) (c : Bool) (items : List ℕ)
    → length (octets_of d) ≡ length_of (alg_of d)
    → length (request_parts (asked d p n c)) ≤ 4294967295
    → items ≡ (48 ∷ len (length (request_parts (asked d p n c)))) ++ request_parts (asked d p n c) → AreGood p n
    → EncodesRequest items (asked d p n c)
request_made d p n c items count fits items-is good = (
  items-is ∙ refl,
  record {
    imprint = imprint_good d count;
    policy = policy_good p good.policy good.policy_fits;
    nonce = nonce_good n good.nonce good.nonce_fits;
    extensions = tt;
    size = omega (arith, fits);
  },
)
