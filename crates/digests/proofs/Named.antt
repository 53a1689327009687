-- What an AlgorithmIdentifier names; the object identifier of each algorithm is well formed, short, and that of no
-- other algorithm.
use Rattle.std.proofs.Common.{◌≡◌, ◌≢◌, ℕ, ◌≤◌, Bool, true, false, cond, List, [], ◌∷◌, length, Option, Some, None}
use Rattle.std.proofs.Common.{refl, sym, ap, subst, ◌∙◌, lit≤}
use Rattle.std.specs.Prelude.{◌↔◌, IsTrue, IfSome}
use Rattle.der_core.specs.Contents.{is_oid}
use Rattle.der_core.specs.Lists.{is_same}
use Rattle.der_core.specs.Values.{AlgorithmValue}
use Rattle.der_core.proofs.Encoded.{same}
use Rattle.digests.specs.Algorithms.{contents_of, IsPlain, Names}
use Rattle.digests.specs.Named.{is_plain, alg_identified, alg_named, is_alg}
use Rattle.digests.specs.declared.algorithm.Alg.{Alg}
use Rattle.digests.specs.declared.algorithm.Alg.TheVariants.{Sha1, Sha224, Sha256, Sha384, Sha512, Sha512_224}
use Rattle.digests.specs.declared.algorithm.Alg.TheVariants.{Sha512_256}
use Rattle.der_core.proofs.SameOctets.{same_again, is_then_same}

abbrev some : Alg → Option Alg
some alg = Some alg

one_alg : (a b : Alg) → some a ≡ some b → a ≡ b
one_alg a b e = cc

-- ---- parameters

plain_says : (o : Option (List ℕ)) → is_plain o ≡ true → IsPlain o
plain_says None e = tt
plain_says (Some p) e = same p (5 ∷ 0 ∷ []) e

plain_is : (o : Option (List ℕ)) → IsPlain o → is_plain o ≡ true
plain_is None e = refl
plain_is (Some p) e = is_then_same p (5 ∷ 0 ∷ []) e

-- ---- identifiers

-- one step: it is this algorithm, or the remaining steps find it
step : (id : List ℕ) (a alg : Alg) (rest : Option Alg) → (rest ≡ Some alg → id ≡ contents_of alg) → (b : Bool)
    → is_same id (contents_of a) ≡ b → cond b (Some a) rest ≡ Some alg → id ≡ contents_of alg
step id a alg rest next true e h = subst (λ (x : Alg). id ≡ contents_of x) (one_alg a alg h) (same id (contents_of a) e)
step id a alg rest next false e h = next h

-- the algorithm that is found has this object identifier
pub identified_says : (id : List ℕ) (alg : Alg) → alg_identified id ≡ Some alg → id ≡ contents_of alg
identified_says id alg e =
    step id Sha1 alg _
    (step id Sha224 alg _ (step id Sha256 alg _ (step id Sha384 alg _ (step id Sha512 alg _ (step id Sha512_224 alg
    _ (step id Sha512_256 alg None (λ h. absurd (let z : None ≡ some alg = h in cc)) _ refl) _ refl) _ refl) _ refl) _
    refl) _ refl) _ refl e

-- an algorithm is found by its object identifier
pub identified_is : (alg : Alg) → alg_identified (contents_of alg) ≡ Some alg
identified_is Sha1 = refl
identified_is Sha224 = refl
identified_is Sha256 = refl
identified_is Sha384 = refl
identified_is Sha512 = refl
identified_is Sha512_224 = refl
identified_is Sha512_256 = refl

-- each is contents of an OBJECT IDENTIFIER
pub contents_formed : (alg : Alg) → is_oid (contents_of alg) ≡ true
contents_formed Sha1 = refl
contents_formed Sha224 = refl
contents_formed Sha256 = refl
contents_formed Sha384 = refl
contents_formed Sha512 = refl
contents_formed Sha512_224 = refl
contents_formed Sha512_256 = refl

pub contents_short : (alg : Alg) → length (contents_of alg) ≤ 9
contents_short Sha1 = lit≤ tt
contents_short Sha224 = lit≤ tt
contents_short Sha256 = lit≤ tt
contents_short Sha384 = lit≤ tt
contents_short Sha512 = lit≤ tt
contents_short Sha512_224 = lit≤ tt
contents_short Sha512_256 = lit≤ tt

-- two algorithms have different object identifiers
pub contents_distinct : (a b : Alg) → contents_of a ≡ contents_of b → a ≡ b
contents_distinct a b e = one_alg a b (sym (identified_is a) ∙ ap alg_identified e ∙ identified_is b)

-- ---- names

-- an algorithm that `alg_named` gives is named by the object identifier and the parameters
pub named_says : (a : AlgorithmValue) (alg : Alg) → alg_named a ≡ Some alg → Names a.oid a.parameters alg
named_says a alg e = go (is_plain a.parameters) refl e
  where
    go : (b : Bool) → is_plain a.parameters ≡ b → cond b (alg_identified a.oid) None ≡ Some alg
        → Names a.oid a.parameters alg
    go true p h = record { contents = identified_says a.oid alg h; plain = plain_says a.parameters p }
    go false p h = absurd (let z : None ≡ some alg = h in cc)

-- and an algorithm that they name is the one that it gives
pub named_is : (a : AlgorithmValue) (alg : Alg) → Names a.oid a.parameters alg → alg_named a ≡ Some alg
named_is a alg n = rw (plain_is a.parameters n.plain) (ap alg_identified n.contents ∙ identified_is alg)

-- an object identifier with absent or NULL parameters names its algorithm
pub named_again : (alg : Alg) (parameters : Option (List ℕ)) → IsPlain parameters
    → alg_named (record { oid = contents_of alg; parameters = parameters }) ≡ Some alg
named_again alg parameters plain =
    named_is (record { oid = contents_of alg; parameters = parameters }) alg (record { contents = refl; plain = plain })

-- an algorithm that is found and is the only one is the one that is named
pub named_only : (a : AlgorithmValue) (named : Option Alg) → IfSome named (Names a.oid a.parameters)
    → ((alg : Alg) → Names a.oid a.parameters alg → named ≡ Some alg) → named ≡ alg_named a
named_only a (Some alg) found only = sym (named_is a alg found)
named_only a None found only = go (alg_named a) refl
  where
    go : (o : Option Alg) → alg_named a ≡ o → None ≡ o
    go None e = refl
    go (Some alg) e = only alg (named_says a alg e)

-- the algorithm that is named is found, and is the only one
pub named_found : (a : AlgorithmValue) (named : Option Alg) → named ≡ alg_named a
    → IfSome named (Names a.oid a.parameters)
named_found a None e = tt
named_found a (Some alg) e = named_says a alg (sym e)

-- with absent or NULL parameters it is the algorithm of the object identifier
pub plain_named : (octets oid : List ℕ) (parameters : Option (List ℕ)) (named : Option Alg) {b : Bool} → octets ≡ oid
    → IsTrue b ↔ IsPlain parameters → IsTrue b
    → IfSome named (λ alg. octets ≡ contents_of alg) → ((alg : Alg) → octets ≡ contents_of alg → named ≡ Some alg)
    → named ≡ alg_named (record { oid = oid; parameters = parameters })
plain_named octets oid parameters named e plain is found only =
    rw (plain_is parameters (plain.0 is)) (go named found only)
  where
    go : (o : Option Alg) → IfSome o (λ alg. octets ≡ contents_of alg)
        → ((alg : Alg) → octets ≡ contents_of alg → o ≡ Some alg) → o ≡ alg_identified oid
    go (Some alg) f t = sym (ap alg_identified (sym e ∙ f) ∙ identified_is alg)
    go None f t = last (alg_identified oid) refl
      where
        last : (r : Option Alg) → alg_identified oid ≡ r → None ≡ r
        last None h = refl
        last (Some alg) h = t alg (e ∙ identified_says oid alg h)

-- and with other parameters there is none
pub other_named : (oid : List ℕ) (parameters : Option (List ℕ)) (b : Bool) → IsTrue b ↔ IsPlain parameters
    → b ≡ false → None ≡ alg_named (record { oid = oid; parameters = parameters })
other_named oid parameters b plain not = go (is_plain parameters) refl
  where
    go : (p : Bool) → is_plain parameters ≡ p → None ≡ cond p (alg_identified oid) None
    go false e = refl
    go true e = let t : b ≡ true = plain.1 (plain_says parameters e) in let z : true ≡ false = sym t ∙ not in absurd cc

-- ---- the same algorithm

pub alg_itself : (a : Alg) → is_alg a a ≡ true
alg_itself a = same_again (contents_of a)

pub alg_is : (a b : Alg) → a ≡ b → is_alg a b ≡ true
alg_is a b e = subst (λ (x : Alg). is_alg a x ≡ true) e (alg_itself a)

pub alg_says : (a b : Alg) → is_alg a b ≡ true → a ≡ b
alg_says a b e = contents_distinct a b (same (contents_of a) (contents_of b) e)

pub alg_is_not : (a b : Alg) → a ≢ b → is_alg a b ≡ false
alg_is_not a b other = go (is_alg a b) refl
  where
    go : (t : Bool) → is_alg a b ≡ t → t ≡ false
    go true e = absurd (other (alg_says a b e))
    go false e = refl

pub alg_says_not : (a b : Alg) → is_alg a b ≡ false → a ≢ b
alg_says_not a b differs e = let z : true ≡ false = sym (alg_is a b e) ∙ differs in absurd cc
