-- Marks of values of a list: each that has one is among those that were passed.
use Rattle.std.proofs.Common.{◌≡◌, ℕ, zero, suc, ◌+◌, ◌<◌, Bool, true, false, List, [], ◌∷◌, length, get_or, set, drop}
use Rattle.std.proofs.Common.{replicate, refl, sym, ap, ◌∙◌, arith, subst, ◌⊎◌, inl, inr, true≢false, length-drop, ◌||◌}
use Rattle.std.specs.List.{list_all}
use Rattle.std.proofs.lemmas.Bool.{cases_eq}
use Rattle.std.proofs.lemmas.List.{drop_more, get_or-set_other}
use Rattle.std.proofs.lemmas.List.Elements.{All-tail}
use Rattle.der_core.specs.Lists.{is_same}
use Rattle.der_core.proofs.SameOctets.{same_again}
use Rattle.digests.specs.declared.algorithm.Alg.{Alg}
use Rattle.check_evidence.specs.CoveredValues.{AreValues}
use Rattle.check_evidence.specs.ListTests.{is_among, IsSearchable, AreMarked}
use Rattle.check_evidence.specs.declared.covered.Covered.{Covered}
use Rattle.check_evidence.proofs.Ascending.{tail_ascends}
use Rattle.check_evidence.proofs.Going.{PassesOne, any_off, all_on, all_off}

abbrev Values : Type 0
Values = List (List ℕ)

-- ---- the values that must be covered: those that are left are among all

pub record IsWithin (alg : Alg) (left : Covered) (due : Values) : Type 0 where
  pub rest : Values
  pub are : AreValues alg left rest
  pub within : (v : List ℕ) → is_among rest v ≡ true → is_among due v ≡ true

abbrev pub StaysWithin : Alg → (all left : Covered) → Type 0
StaysWithin alg all left = (due : Values) → AreValues alg all due → IsWithin alg left due

pub all_within : (alg : Alg) (all : Covered) → StaysWithin alg all all
all_within alg all due are = record { rest = due; are = are; within = λ v h. h }

among_own : (v : List ℕ) (rest : Values) → is_among (v ∷ rest) v ≡ true
among_own v rest = any_off (is_same v) v (same_again v) rest

among_more : (v w : List ℕ) (rest : Values) → is_among rest w ≡ true → is_among (v ∷ rest) w ≡ true
among_more v w rest h = go (is_same w v)
  where
    go : (b : Bool) → (b || is_among rest w) ≡ true
    go true = refl
    go false = h

module _ (alg : Alg) (all left : Covered) (stays : StaysWithin alg all left) (v : List ℕ) (others : Covered)
    (passes : PassesOne alg left v others) where
  -- the first of them is among all
  pub first_within : (due : Values) → AreValues alg all due → is_among due v ≡ true
  first_within due are =
      let h = stays due are in
      let p = passes h.rest h.are in
      h.within v (subst (λ (vs : Values). is_among vs v ≡ true) (sym p.1) (among_own v p.0))

  -- and so are the others
  pub others_within : StaysWithin alg all others
  others_within due are =
      let h = stays due are in
      let p = passes h.rest h.are in
      record {
        rest = p.0;
        are = p.2;
        within = λ w is. h.within w
            (subst (λ (vs : Values). is_among vs w ≡ true) (sym p.1) (among_more v w p.0 is));
      }

-- ---- marks

none_at : (count k : ℕ) → get_or (replicate count false) k false ≡ false
none_at zero k = refl
none_at (suc count) zero = refl
none_at (suc count) (suc k) = none_at count k

pub none_marked : (due values : Values) (count : ℕ) → AreMarked due values (replicate count false)
none_marked due values count k is = absurd (true≢false (sym is ∙ none_at count k))

-- one more value has a mark, which is one of these
pub one_marked : (due values : Values) (marks : List Bool) (place : ℕ) (v : List ℕ) → place < length marks
    → get_or values place [] ≡ v → is_among due v ≡ true → AreMarked due values marks
    → AreMarked due values (set marks place true)
one_marked due values marks place v below is among old k marked = go (cases_eq k place)
  where
    go : (k ≡ place) ⊎ (k ≡ place → ⊥) → is_among due (get_or values k []) ≡ true
    go (inl e) = ap (λ (n : ℕ). is_among due (get_or values n [])) e ∙ ap (is_among due) is ∙ among
    go (inr other) = old k (sym (get_or-set_other marks place k true false other) ∙ marked)

-- ---- the list

-- the value at a place, and those behind it
pub value_there : (values left : Values) (place : ℕ) (v : List ℕ) (others : Values) → left ≡ drop place values
    → left ≡ v ∷ others → (get_or values place [] ≡ v) × (others ≡ drop (place + 1) values)
value_there values left place v others e cut =
    let some = ap length (sym e ∙ cut) in
    let below : place < length values = omega (arith, some, length-drop place values) in
    let is : get_or values place [] ∷ drop (place + 1) values ≡ v ∷ others =
    sym (drop_more values place [] below) ∙ sym e ∙ cut in
    (cc, cc)

pub others_searchable : (size : ℕ) (left : Values) (v : List ℕ) (others : Values) → left ≡ v ∷ others
    → IsSearchable size left → IsSearchable size others
others_searchable size left v others e h = go (subst (IsSearchable size) e h)
  where
    go : IsSearchable size (v ∷ others) → IsSearchable size others
    go k = (All-tail (λ x. length x ≡ size) v others k.0, tail_ascends v others k.1)

-- of those that are left the first is one of these, so all are exactly if the others are
pub passed_one : (these values left : Values) (v : List ℕ) (others : Values) → left ≡ v ∷ others
    → is_among these v ≡ true → list_all (is_among these) values ≡ list_all (is_among these) left
    → list_all (is_among these) values ≡ list_all (is_among these) others
passed_one these values left v others e is same =
    same ∙ ap (list_all (is_among these)) e ∙ all_on (is_among these) v is others

-- it is none of these, so not all are
pub stopped_at : (these values left : Values) (v : List ℕ) (others : Values) → left ≡ v ∷ others
    → is_among these v ≡ false → list_all (is_among these) values ≡ list_all (is_among these) left
    → list_all (is_among these) values ≡ false
stopped_at these values left v others e is same =
    same ∙ ap (list_all (is_among these)) e ∙ all_off (is_among these) v is others
