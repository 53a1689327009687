-- Lengths of what is made.
use Rattle.std.proofs.Common.{◌≡◌, ℕ, ◌+◌, ◌<◌, ◌≤◌, Bool, true, false, cond, List, [], ◌∷◌, ◌++◌, length, Option, Some}
use Rattle.std.proofs.Common.{None, refl, ap, ◌∙◌, arith}
use Rattle.std.proofs.lemmas.List.{length-append}
use Rattle.der_core.specs.Element.{len, el}
use Rattle.der_core.specs.Values.{optional, flag, algorithm_parts, algorithm_element}
use Rattle.der_core.proofs.ReadLengths.{len_0}
use Rattle.digests.specs.declared.algorithm.Alg.{Alg}
use Rattle.digests.specs.declared.value.Digest.{Digest}
use Rattle.digests.specs.Algorithms.{contents_of, length_of}
use Rattle.digests.specs.Digests.{alg_of, octets_of}
use Rattle.digests.proofs.Lengths.{length_most}
use Rattle.digests.proofs.Named.{contents_short}
use Rattle.tsp_types.specs.ImprintValue.{ImprintValue, imprint_parts}
use Rattle.tsp_types.specs.RequestValue.{RequestValue, request_parts}
use Rattle.tsp_types.specs.Asked.{algorithm_asked, imprint_asked, flag_asked, asked}

pub length_el : (t : ℕ) (b : List ℕ) → length (el t b) ≡ 1 + length (len (length b)) + length b
length_el t b = omega (arith, length-append (len (length b)) b)

pub length_small : (t : ℕ) (b : List ℕ) → length b < 128 → length (el t b) ≡ 2 + length b
length_small t b h = let e = ap length (len_0 (length b) h) in omega (arith, e, length_el t b)

-- an imprint has two elements in it, both below 128 octets
pub imprint_length : (i : ImprintValue) → length (algorithm_parts i.algorithm) < 128 → length i.digest < 128
    → length (imprint_parts i) ≡ 2 + length (algorithm_parts i.algorithm) + 2 + length i.digest
imprint_length i h k =
    omega (
      arith,
      length-append (algorithm_element i.algorithm) (el 0x04 i.digest),
      length_small 48 (algorithm_parts i.algorithm) h,
      length_small 4 i.digest k,
    )

-- the parts of an algorithm are its identifier and NULL
pub algorithm_parts_length : (a : Alg) → length (algorithm_parts (algorithm_asked a)) ≡ 2 + length (contents_of a) + 2
algorithm_parts_length a = omega (
  arith,
  length-append (el 0x06 (contents_of a)) (5 ∷ 0 ∷ []),
  length_small 6 (contents_of a) (omega (arith, contents_short a)),
)

pub algorithm_parts_most : (a : Alg) → length (algorithm_parts (algorithm_asked a)) ≤ 13
algorithm_parts_most a = omega (arith, algorithm_parts_length a, contents_short a)

pub imprint_asked_length : (d : Digest) → length (octets_of d) ≡ length_of (alg_of d)
    → (length (imprint_parts (imprint_asked d))
    ≡ 2 + length (algorithm_parts (algorithm_asked (alg_of d))) + 2 + length (octets_of d))
    × (length (imprint_parts (imprint_asked d)) < 128)
imprint_asked_length d e =
    let a = algorithm_parts_most (alg_of d) in
    let b = length_most (alg_of d) in
    let n = imprint_length (imprint_asked d) (omega (arith, a)) (omega (arith, b, e)) in
    (n, omega (arith, n, a, b, e))

-- the sum that the code makes
pub imprint_sum : (d : Digest) (a : Alg) (x : ℕ) (octets : List ℕ) → a ≡ alg_of d
    → x ≡ length (algorithm_parts (algorithm_asked a))
    → octets ≡ octets_of d → length (octets_of d) ≡ length_of (alg_of d)
    → (2 + x + 2 + length octets ≡ length (imprint_parts (imprint_asked d))) × (2 + x + 2 + length octets < 128)
imprint_sum d a x octets same size is count =
    let k = imprint_asked_length d count in
    let size' : x ≡ length (algorithm_parts (algorithm_asked (alg_of d))) = size
    ∙ ap (λ (v : Alg). length (algorithm_parts (algorithm_asked v))) same in
    let is' = ap length is in
    (omega (arith, k.0, size', is'), omega (arith, k.0, k.1, size', is'))

-- ---- the whole request

pub length_optional : (t u : ℕ) (o : Option (List ℕ)) → length (optional t o) ≡ length (optional u o)
length_optional t u None = refl
length_optional t u (Some b) = refl

pub length_flag : (c : Bool) → length (flag (flag_asked c)) ≡ cond c 3 0
unfolding len
length_flag true = refl
length_flag false = refl

pub length_version : length (el 0x02 (1 ∷ [])) ≡ 3
unfolding len
length_version = refl

module _ (d : Digest) (p n : Option (List ℕ)) (c : Bool) where
  abbrev Asked : RequestValue
  Asked = asked d p n c

  abbrev behind_nonce : List ℕ
  behind_nonce = flag (flag_asked c) ++ []

  abbrev behind_policy : List ℕ
  behind_policy = optional 0x02 n ++ behind_nonce

  abbrev behind_imprint : List ℕ
  behind_imprint = optional 0x06 p ++ behind_policy

  abbrev behind_version : List ℕ
  behind_version = el 0x30 (imprint_parts (imprint_asked d)) ++ behind_imprint

  -- what the code adds up
  pub body_sum : (x a b f : ℕ) → x ≡ length (imprint_parts (imprint_asked d)) → x < 128 → a ≡ length (optional 0 p)
      → b ≡ length (optional 0 n) → f ≡ cond c 3 0
      → 3 + (2 + x) + a + b + f ≡ length (request_parts Asked)
  body_sum x a b f x-is small a-is b-is f-is =
      let i = length_small 48 (imprint_parts (imprint_asked d)) (omega (arith, x-is, small)) in
      omega (
        arith,
        x-is,
        a-is,
        b-is,
        f-is,
        i,
        length_version,
        length_flag c,
        length_optional 0 6 p,
        length_optional 0 2 n,
        length-append (el 0x02 (1 ∷ [])) behind_version,
        length-append (el 0x30 (imprint_parts (imprint_asked d))) behind_imprint,
        length-append (optional 0x06 p) behind_policy,
        length-append (optional 0x02 n) behind_nonce,
        length-append (flag (flag_asked c)) [],
      )
