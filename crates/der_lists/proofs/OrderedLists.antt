-- Lists of elements with one identifier, in ascending order.
use Rattle.std.proofs.Common.{◌≡◌, ℕ, ◌+◌, ◌-◌, ◌<◌, ◌^◌, true, false, not, cond, eqb, List, [], ◌∷◌, ◌++◌, length, map}
use Rattle.std.proofs.Common.{Result, Ok, Err, refl, sym, ap, subst}
use Rattle.std.proofs.Common.{◌∙◌, arith, inl, inr}
use Rattle.std.specs.List.{flat_map, AllByRecursion}
use Rattle.std.proofs.lemmas.Bool.{and_parts, not-true}
use Rattle.der_core.specs.declared.fault.Fault.{Fault}
use Rattle.der_core.specs.declared.fault.Kind.TheVariants.{Order, Tag}
use Rattle.der_core.specs.Element.{is_tag, el, IsElement, IsBytes}
use Rattle.der_core.specs.Form.{Form, Ordered, full, may_stand, Element, last_of}
use Rattle.der_core.specs.Encoding.{next}
use Rattle.der_core.specs.Faults.{Place, place, stays, Fact, FaultFrom}
use Rattle.der_core.specs.Grammar.{ordered}
use Rattle.der_core.specs.Lists.{is_less}
use Rattle.der_core.specs.Reading.{fault, Spot, spot, Taken, next_at, is_other, expect_at, enter_at, within}
use Rattle.der_core.specs.Results.{◌>>=◌}
use Rattle.der_core.specs.Standing.{Enters}
use Rattle.der_core.proofs.ReadLengths.{chosen, ok_is}
use Rattle.der_core.proofs.Headers.{fails, err_is, fact_is}
use Rattle.der_core.proofs.Elements.{next_fault}
use Rattle.der_core.proofs.Results.{bind_ok, bind_err}
use Rattle.der_core.proofs.Moved.{expect_is, expect_again}
use Rattle.der_core.proofs.Readers.{Body, IsBody, swapped, took, enter_ok, within_ok, within_again, fault_inside}
use Rattle.der_core.proofs.Readers.{fault_behind}
use Rattle.der_core.proofs.PartReaders.{alike_body}
use Rattle.der_lists.specs.Items.{front_at}
use Rattle.der_lists.specs.Checked.{rank_at, ordered_in}
use Rattle.der_lists.specs.Ranks.{AscendsFrom, Ascending}
use Rattle.der_lists.proofs.CheckedLists.{AllFrom, IsListed, checked_body}
use Rattle.der_lists.proofs.OpaqueLists.{Last, last_is}

abbrev Step : Type 0
Step = Result (Taken × Spot) Fault

abbrev Checked : Type 0
Checked = Result (List ℕ) Fault

abbrev ranked_ok : List ℕ → Checked
ranked_ok w = Ok w

refuses : (tag n : ℕ) (xs : List ℕ) (form : Form) (ps : List Element) → is_other tag xs ≡ true
    → Fact Tag (place n xs (ordered tag form) ps) n
refuses tag n [] form ps h = absurd cc
refuses tag n (t ∷ xs) form ps h =
    let p = and_parts (is_tag t) (not (eqb t tag)) h in
    let none : may_stand (ordered tag form) t ≡ false = rw (swapped tag t (not-true (eqb t tag) p.1)) refl in
    (t, xs, ((tt, refl), p.0), none, refl)

expect_fault : (tag : ℕ) (s : Spot) (f : Fault) → IsBytes s.rest → (s.rest ≡ [] → ⊥) → expect_at tag s ≡ Err f
    → (form : Form) (ps : List Element)
    → FaultFrom (place s.pos s.rest (ordered tag form) ps) f
unfolding expect_at
expect_fault tag s f fits some e form ps =
    let p : Place = place s.pos s.rest (ordered tag form) ps in
    let other : Step = Err (fault Tag s.pos) in
    elim (chosen (is_other tag s.rest) other (next_at s) (fails f) e) [
      | inl h ↦ (p, stays, fact_is p (fault Tag s.pos) f (err_is _ _ h.1) (refuses tag s.pos s.rest form ps h.0))
      | inr h ↦ (p, stays, next_fault s f p fits refl refl tt (λ none. absurd (some none)) h.1)
    ]

module _ {A : Type 0} (tag : ℕ) (id : is_tag tag ≡ true) (inside : Body A) (enc : A → List ℕ) (Good : A → Type 0)
    (form : Form)
    (law : IsBody inside enc Good form) where
  abbrev due : Form
  due = ordered tag form

  abbrev pub element : A → List ℕ
  element x = el tag (enc x)

  abbrev Inside : A → Type 0
  Inside x = Good x × (length (enc x) < 2 ^ 32)

  abbrev Ranked : List ℕ → A → Type 0
  Ranked last x = Inside x × (is_less (element x) last ≡ false)

  -- the element that was expected is the one that was entered
  expected : (s c s' : Spot) (x : Taken × Spot) → IsBytes s.rest → expect_at tag s ≡ Ok x → enter_at tag s ≡ Ok (c, s')
      → (x.0.whole ≡ el tag c.rest)
  unfolding enter_at
  expected s c s' x fits e entered =
      let here : enter_at tag s ≡ Ok (spot (x.1.pos - length x.0.body) x.0.body, x.1) = rw e refl in
      let is : (spot (x.1.pos - length x.0.body) x.0.body, x.1) ≡ (c, s') = ok_is _ _ (sym here ∙ entered) in
      let k = expect_is tag s x fits e in
      k.1.whole ∙ ap (λ (t : ℕ). el t x.0.body) k.0 ∙ ap (λ (z : Spot × Spot). el tag z.0.rest) is

  -- what the check and the reading say of the element at the front
  both : (last w : List ℕ) (s : Spot) (y : A × Spot) → IsBytes s.rest → rank_at (front_at tag) last s ≡ Ok w
      → within tag inside s ≡ Ok y
      → (c : Spot) × Enters tag s c y.1 × Ranked last y.0 × (c.rest ≡ enc y.0) × (w ≡ element y.0)
  unfolding rank_at front_at
  both last w s y fits checked e =
      let k = within_ok tag id inside enc Good form law s y fits e in
      let a = bind_ok (enter_at tag s) (λ x. inside x.0 >>= λ v. Ok (v, x.1)) y e in
      let b = bind_ok (expect_at tag s >>= λ x. Ok x.0.whole)
      (λ v. cond (is_less v last) (Err (fault Order s.pos)) (ranked_ok v)) w checked in
      let x = bind_ok (expect_at tag s) (λ x. Ok x.0.whole) b.0 b.1 in
      let less : Checked = Err (fault Order s.pos) in
      let r = chosen (is_less b.0 last) less (ranked_ok b.0) (Ok w) b.2 in
      let whole-is : x.0.0.whole ≡ b.0 = ok_is x.0.0.whole b.0 x.2 in
      elim r [
        | inl h ↦ absurd (let z = h.1 in cc)
        | inr h ↦
            let w-is : b.0 ≡ w = ok_is b.0 w h.1 in
            let again = bind_ok (inside a.0.0) (λ v. Ok (v, a.0.1)) y a.2 in
            let inside-is : enc again.0 ≡ a.0.0.rest =
            sym (law.takes a.0.0 again.0 (enter_ok tag s a.0 fits a.1).fits again.1).1 in
            let same : again.0 ≡ y.0 = ap (λ (z : A × Spot). z.0) (ok_is (again.0, a.0.1) y again.2) in
            let element-is : x.0.0.whole ≡ element y.0 = expected s a.0.0 a.0.1 x.0 fits x.1 a.1
            ∙ ap (λ (v : List ℕ). el tag v)
            (sym inside-is ∙ ap enc same) in
            let w-whole : w ≡ element y.0 = sym w-is ∙ sym whole-is ∙ element-is in (
              k.0,
              k.1,
              (
                (k.2, subst (λ (v : List ℕ). length v < 2 ^ 32) k.3 k.1.element.size),
                subst (λ (v : List ℕ). is_less v last ≡ false) (w-is ∙ w-whole) h.0,
              ),
              k.3,
              w-whole,
            )
      ]

  check_fault : (last : List ℕ) (s : Spot) (f : Fault) (ps : List Element) → Last ps last → IsBytes s.rest
      → (s.rest ≡ [] → ⊥)
      → rank_at (front_at tag) last s ≡ Err f → FaultFrom (place s.pos s.rest due ps) f
  unfolding rank_at front_at
  check_fault last s f ps was fits some e =
      elim (bind_err (expect_at tag s >>= λ x. Ok x.0.whole)
      (λ v. cond (is_less v last) (Err (fault Order s.pos)) (ranked_ok v)) f e) [
        | inl a ↦ elim (bind_err (expect_at tag s) (λ x. Ok x.0.whole) f a) [
          | inl b ↦ expect_fault tag s f fits some b form ps
          | inr b ↦ absurd (let z = b.2 in cc)
        ]
        | inr a ↦
            let x = bind_ok (expect_at tag s) (λ x. Ok x.0.whole) a.0 a.1 in
            let k = expect_is tag s x.0 fits x.1 in
            let less : Checked = Err (fault Order s.pos) in
            let p : Place = place s.pos s.rest due ps in
            let whole-is : a.0 ≡ el tag x.0.0.body = sym (ok_is x.0.0.whole a.0 x.2) ∙ k.1.whole
            ∙ ap (λ (t : ℕ). el t x.0.0.body) k.0 in
            elim (chosen (is_less a.0 last) less (ranked_ok a.0) (fails f) a.2) [
              | inr h ↦ absurd (let z = h.1 in cc)
              | inl h ↦
                  let early : is_less (el tag x.0.0.body) (last_of ps) ≡ true =
                  subst (λ (v : List ℕ). is_less (el tag x.0.0.body) v ≡ true) (sym was)
                  (subst (λ (v : List ℕ). is_less v last ≡ true) whole-is h.0) in (
                    p,
                    stays,
                    fact_is p (fault Order s.pos) f (err_is _ _ h.1) (
                      tag,
                      x.0.0.body,
                      (
                        subst (λ (t : ℕ). IsElement t x.0.0.body) k.0 k.1.element,
                        took tag form full,
                        x.0.1.rest,
                        k.1.parts ∙ ap (λ (t : ℕ). el t x.0.0.body ++ x.0.1.rest) k.0,
                      ),
                      early,
                      refl,
                    ),
                  )
            ]
      ]

  read_fault : (last w : List ℕ) (s : Spot) (f : Fault) (ps : List Element) → IsBytes s.rest → (s.rest ≡ [] → ⊥)
      → within tag inside s ≡ Err f
      → FaultFrom (place s.pos s.rest due ps) f
  unfolding enter_at
  read_fault last w s f ps fits some e =
      elim (bind_err (enter_at tag s) (λ x. inside x.0 >>= λ v. Ok (v, x.1)) f e) [
        | inl a ↦ elim (bind_err (expect_at tag s) (λ x. Ok (spot (x.1.pos - length x.0.body) x.0.body, x.1)) f a) [
          | inl b ↦ expect_fault tag s f fits some b form ps
          | inr b ↦ absurd (let z = b.2 in cc)
        ]
        | inr a ↦
            let k = enter_ok tag s a.0 fits a.1 in
            elim (bind_err (inside a.0.0) (λ v. Ok (v, a.0.1)) f a.2) [
              | inl b ↦ fault_inside Ordered tag s a.0.0 a.0.1 form full ps f k (law.faults a.0.0 f k.fits b)
              | inr b ↦ absurd (let z = b.2 in cc)
            ]
      ]

  listed : IsListed (rank_at (front_at tag)) (within tag inside) element Ranked element Last due
  unfolding rank_at front_at
  listed = record {
    takes = λ last w s y fits c e.
        let k = both last w s y fits c e in (
          k.2,
          record {
            parts = k.1.parts ∙ ap (λ (v : List ℕ). el tag v ++ y.1.rest) k.3;
            moved = k.1.moved ∙ ap (λ (v : List ℕ). s.pos + length (el tag v)) k.3;
          },
          k.4,
        );
    some = λ last x good. omega arith;
    checks =
        λ last x n r good. rw (expect_again tag n (enc x) r (record { identifier = id; size = good.0.1 }), good.1) refl;
    again = λ last x n r good. within_again tag id inside enc Good form law x n r good.0;
    refuses = check_fault;
    faults = λ last w s f ps was fits some c e. read_fault last w s f ps fits some e;
    goes = λ last w s y f ps was fits c e h.
        let k = both last w s y fits c e in
        let element-is : w ≡ el tag k.0.rest = k.4 ∙ ap (λ (v : List ℕ). el tag v) (sym k.3) in
        fault_behind Ordered tag s k.0 y.1 form full ps f k.1
        (h (ps ++ (tag, k.0.rest) ∷ [])
        (subst (Last (ps ++ (tag, k.0.rest) ∷ [])) (sym element-is) (last_is ps tag k.0.rest)));
    encodes = λ last x r ps was good more.
        next tag (enc x) r refl (record { identifier = id; size = good.0.1 }) (took tag form full)
        (subst (λ (v : List ℕ). is_less (element x) v ≡ false) (sym was) good.1) refl (law.encodes x good.0.0)
        (more (ps ++ (tag, enc x) ∷ []) (last_is ps tag (enc x)));
  }

  abbrev pub InOrder : List A → Type 0
  InOrder xs = AllByRecursion Inside xs × Ascending (map element xs)

  ranked_good : (last : List ℕ) (xs : List A) → AllFrom Ranked element last xs
      → AllByRecursion Inside xs × AscendsFrom last (map element xs)
  ranked_good last [] h = (tt, tt)
  ranked_good last (x ∷ xs) h = let m = ranked_good (element x) xs h.1 in ((h.0.0, m.0), (h.0.1, m.1))

  good_ranked : (last : List ℕ) (xs : List A) → AllByRecursion Inside xs × AscendsFrom last (map element xs)
      → AllFrom Ranked element last xs
  good_ranked last [] h = tt
  good_ranked last (x ∷ xs) h = ((h.0.0, h.1.0), good_ranked (element x) xs (h.0.1, h.1.1))

  -- a body that is such a list in ascending order
  pub ordered_body :
      IsBody (ordered_in (front_at tag) (within tag inside)) (flat_map element) InOrder (ordered tag form)
  ordered_body =
      alike_body (flat_map element) (flat_map element) _ InOrder (λ xs. refl) (ranked_good []) (good_ranked [])
      (ordered_in (front_at tag) (within tag inside)) due
      (checked_body (rank_at (front_at tag))
      (within tag inside) element Ranked element Last due listed refl refl refl refl)
