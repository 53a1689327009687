-- The values that must be covered for data objects.
use Rattle.std.proofs.Common.{◌≡◌, ℕ, List, [], ◌∷◌, ◌++◌, length, map, Option, Some, None}
use Rattle.std.specs.List.{AllZip}
use Rattle.std.proofs.Common.{refl, sym, ap, arith}
use Rattle.digests.specs.Messages.{digest_of}
use Rattle.digests.specs.declared.algorithm.Alg.{Alg}
use Rattle.digests.specs.declared.selection.WantedDigests.{WantedDigests}
use Rattle.digests.specs.declared.value.Digest.{Digest}
use Rattle.evidence_types.specs.StampValue.{StampValue}
use Rattle.check_evidence.specs.Places.{last_of}
use Rattle.check_evidence.specs.Covering.{covered_of}
use Rattle.check_evidence.specs.CoveredValues.{value_of, IsValueOf}
use Rattle.judge_evidence.specs.Data.{AreOfData, IsOfChains}

abbrev Chains : Type 0
Chains = List (List StampValue)

-- the value of a data object is what must be covered of it
value_is : (alg : Alg) (earlier : Chains) (chains : Option Digest) → IsOfChains alg earlier chains
    → (octets : List ℕ) → covered_of alg earlier octets ≡ value_of alg chains octets
value_is alg [] None h octets = refl
value_is alg (c ∷ earlier) None h octets = absurd (let e : c ∷ earlier ≡ [] = h in cc)
value_is alg [] (Some d) h octets = absurd (h.0 refl)
value_is alg (c ∷ earlier) (Some d) h octets =
    ap (λ (x : List ℕ). digest_of alg (digest_of alg octets ++ x)) (sym h.1)

pub values_are : (alg : Alg) (earlier : Chains) (chains : Option Digest) → IsOfChains alg earlier chains
    → (digests : List WantedDigests) (ds : List (List ℕ)) → AreOfData digests ds
    → AllZip (IsValueOf alg chains) digests (map (covered_of alg earlier) ds)
values_are alg earlier chains of [] [] are = tt
values_are alg earlier chains of [] (d ∷ ds) are = absurd are
values_are alg earlier chains of (w ∷ digests) [] are = absurd are
values_are alg earlier chains of (w ∷ digests) (d ∷ ds) are = (
  record { data_object = d; are = are.0; is = value_is alg earlier chains of d },
  values_are alg earlier chains of digests ds are.1,
)

pub nil_of : {A : Type 0} (xs : List A) → length xs ≡ 0 → xs ≡ []
nil_of [] h = refl
nil_of (x ∷ xs) h = absurd (omega arith)

-- of no list that has a last element there is none
pub no_last : (l : List StampValue) → last_of l ≡ None → l ≡ []
no_last [] h = refl
no_last (s ∷ l) h = absurd (some_last s l h)
  where
    some_last : (s : StampValue) (l : List StampValue) → last_of (s ∷ l) ≡ None → ⊥
    some_last s [] h = cc
    some_last s (t ∷ l) h = some_last t l h
