-- Going over the values that must be covered: what is asked of all is asked of those that are left.
use Rattle.std.proofs.Common.{◌≡◌, ℕ, Bool, true, false, ◌&&◌, ◌||◌, List, [], ◌∷◌, Option, Bor}
use Rattle.std.proofs.Common.{refl, sym, ap, ◌∙◌, subst}
use Rattle.std.specs.List.{AllZip, list_all, list_any}
use Rattle.digests.specs.Digests.{octets_of}
use Rattle.digests.specs.declared.algorithm.Alg.{Alg}
use Rattle.digests.specs.declared.selection.WantedDigests.{WantedDigests}
use Rattle.digests.specs.declared.value.Digest.{Digest}
use Rattle.check_evidence.specs.CoveredValues.{IsValueOf, AreValues}
use Rattle.check_evidence.specs.declared.covered.Covered.{Covered}
use Rattle.check_evidence.specs.declared.covered.Covered.TheVariants as covered

abbrev Values : Type 0
Values = List (List ℕ)

-- values that are left, of which the question has the answer that it has of all
pub record IsLeft (alg : Alg) (left : Covered) (asks : Values → Bool) (due : Values) : Type 0 where
  pub rest : Values
  pub are : AreValues alg left rest
  pub same : asks due ≡ asks rest

-- the same whatever the values are
abbrev pub StaysAsked : Alg → (all left : Covered) → (asks : Values → Bool) → Type 0
StaysAsked alg all left asks = (due : Values) → AreValues alg all due → IsLeft alg left asks due

pub all_left : (alg : Alg) (all : Covered) (asks : Values → Bool) → StaysAsked alg all all asks
all_left alg all asks due are = record { rest = due; are = are; same = refl }

-- one more value was passed
abbrev pub PassesOne : Alg → (left : Covered) → (v : List ℕ) → (others : Covered) → Type 0
PassesOne alg left v others = (values : Values) → AreValues alg left values
    → (rest : Values) × (values ≡ v ∷ rest) × AreValues alg others rest

module _ (alg : Alg) (all left : Covered) (asks : Values → Bool) (stays : StaysAsked alg all left asks) where
  -- of which the question is passed on
  pub one_fewer : (v : List ℕ) (others : Covered) → PassesOne alg left v others
      → ((rest : Values) → asks (v ∷ rest) ≡ asks rest) → StaysAsked alg all others asks
  one_fewer v others passes on due are =
      let h = stays due are in
      let p = passes h.rest h.are in
      record { rest = p.0; are = p.2; same = h.same ∙ ap asks p.1 ∙ on p.0 }

  -- which settles it
  pub settled : (v : List ℕ) (others : Covered) (b : Bool) → PassesOne alg left v others
      → ((rest : Values) → asks (v ∷ rest) ≡ b) → (due : Values) → AreValues alg all due → b ≡ asks due
  settled v others b passes is due are =
      let h = stays due are in
      let p = passes h.rest h.are in
      sym (h.same ∙ ap asks p.1 ∙ is p.0)

  -- none is left
  pub none_left : ((values : Values) → AreValues alg left values → values ≡ []) → (due : Values)
      → AreValues alg all due → asks [] ≡ asks due
  none_left ends due are =
      let h = stays due are in
      sym (h.same ∙ ap asks (ends h.rest h.are))

-- ---- the first

-- of the values of data objects: that of the first, and those of the others
pub first_value : (alg : Alg) (all : Covered) (chains : Option Digest) (digests : Bor (List WantedDigests))
    (d : WantedDigests) (others : List WantedDigests) (v : Digest) → all ≡ covered.Each chains digests
    → digests.now ≡ d ∷ others → ((value : List ℕ) → IsValueOf alg chains d value → value ≡ octets_of v)
    → (values : Values) → AreValues alg all values
    → (rest : Values) × (values ≡ octets_of v ∷ rest) × AllZip (IsValueOf alg chains) others rest
first_value alg all chains digests d others v e cut says values are =
    go values (subst (λ (ds : List WantedDigests). AllZip (IsValueOf alg chains) ds values) cut
    (subst (λ (x : Covered). AreValues alg x values) e are))
  where
    go : (values : Values) → AllZip (IsValueOf alg chains) (d ∷ others) values
        → (rest : Values) × (values ≡ octets_of v ∷ rest) × AllZip (IsValueOf alg chains) others rest
    go [] h = absurd h
    go (x ∷ rest) h = (rest, ap (λ (y : List ℕ). y ∷ rest) (says x h.0), h.1)

-- ---- questions

pub all_on : (test : List ℕ → Bool) (v : List ℕ) → test v ≡ true → (rest : Values)
    → list_all test (v ∷ rest) ≡ list_all test rest
all_on test v e rest = ap (λ (b : Bool). b && list_all test rest) e

pub all_off : (test : List ℕ → Bool) (v : List ℕ) → test v ≡ false → (rest : Values)
    → list_all test (v ∷ rest) ≡ false
all_off test v e rest = ap (λ (b : Bool). b && list_all test rest) e

pub any_on : (test : List ℕ → Bool) (v : List ℕ) → test v ≡ false → (rest : Values)
    → list_any test (v ∷ rest) ≡ list_any test rest
any_on test v e rest = ap (λ (b : Bool). b || list_any test rest) e

pub any_off : (test : List ℕ → Bool) (v : List ℕ) → test v ≡ true → (rest : Values)
    → list_any test (v ∷ rest) ≡ true
any_off test v e rest = ap (λ (b : Bool). b || list_any test rest) e
