-- A part that has the one identifier or the other, each with contents of its own form.
use Rattle.std.proofs.Common.{◌≡◌, ℕ, ◌+◌, ◌-◌, ◌<◌, ◌^◌, Bool, true, false, not, ◌||◌, eqb, List, [], ◌∷◌, ◌++◌}
use Rattle.std.proofs.Common.{length, Result, Ok, Err, refl, sym, ap, subst}
use Rattle.std.proofs.Common.{◌∙◌, inl, inr, ◌⊎◌}
use Rattle.std.proofs.lemmas.Bool.{eq-eqb, and_parts, not-true}
use Rattle.der_core.specs.declared.fault.Fault.{Fault}
use Rattle.der_core.specs.declared.fault.Kind.TheVariants.{Tag}
use Rattle.der_core.specs.Element.{is_tag, el, IsBytes, has_tag}
use Rattle.der_core.specs.Encoding.{Encodes, next}
use Rattle.der_core.specs.Form.{Form, One, part, takes, inside_of, behind, may_stand, body_of, passed_by, Element}
use Rattle.der_core.specs.Faults.{Place, place, stays, passes, enters, Fact, FaultFrom}
use Rattle.der_core.specs.Reading.{fault, Spot, spot, Taken, next_at, is_other, expect_at, enter_at, within, either}
use Rattle.der_core.specs.Results.{◌>>=◌}
use Rattle.der_core.specs.Standing.{Enters}
use Rattle.der_core.proofs.ReadLengths.{chosen, ok_is}
use Rattle.der_core.proofs.Headers.{fails, err_is, fact_is}
use Rattle.der_core.proofs.Elements.{next_fault}
use Rattle.der_core.proofs.Results.{bind_ok, bind_err}
use Rattle.der_core.proofs.Readers.{Body, Anything, IsReader, IsBody, swapped, enter_ok, within_ok, within_again}
use Rattle.der_core.proofs.PartReaders.{Always}

-- ---- faults in and after an element that the first due part takes

pub fault_in : (due : Form) (tag : ℕ) (s c s' : Spot) (ps : List Element) (f : Fault) → takes due tag ≡ true
    → Enters tag s c s'
    → FaultFrom (place c.pos c.rest (body_of (inside_of due tag)) []) f → FaultFrom (place s.pos s.rest due ps) f
fault_in due tag s c s' ps f took k h =
    let q = subst (λ (m : ℕ). FaultFrom (place m c.rest (body_of (inside_of due tag)) []) f) k.begin h in
    subst (λ (xs : List ℕ). FaultFrom (place s.pos xs due ps) f) (sym k.parts)
    (q.0, enters tag c.rest s'.rest k.element took q.1, q.2)

pub fault_after : (due : Form) (tag : ℕ) (s c s' : Spot) (ps : List Element) (f : Fault) → takes due tag ≡ true
    → Enters tag s c s'
    → FaultFrom (place s'.pos s'.rest (behind due c.rest) (passed_by due ps (tag, c.rest))) f
    → FaultFrom (place s.pos s.rest due ps) f
fault_after due tag s c s' ps f took k h =
    let q = subst
    (λ (m : ℕ). FaultFrom (place m s'.rest (behind due c.rest) (passed_by due ps (tag, c.rest))) f) k.moved h in
    subst (λ (xs : List ℕ). FaultFrom (place s.pos xs due ps) f) (sym k.parts)
    (q.0, passes tag c.rest s'.rest k.element took q.1, q.2)

not_nil : (t : ℕ) (xs : List ℕ) → has_tag t xs ≡ true → xs ≡ [] → ⊥
not_nil t [] h g = cc
not_nil t (x ∷ xs) h g = cc

not_both : (t : ℕ) (xs : List ℕ) → has_tag t xs ≡ true → is_other t xs ≡ true → ⊥
not_both t [] h g = cc
not_both t (x ∷ xs) h g = let p = and_parts (is_tag x) (not (eqb x t)) g in let q = not-true (eqb x t) p.1 in cc

abbrev Step : Type 0
Step = Result (Taken × Spot) Fault

module _ {A B : Type 0} (tag : ℕ) (id : is_tag tag ≡ true) (read : Body A) (enc : A → List ℕ) (Good : A → Type 0)
    (form : Form)
    (law : IsBody read enc Good form)
    (tag' : ℕ) (id' : is_tag tag' ≡ true) (read' : Body B) (enc' : B → List ℕ) (Good' : B → Type 0) (form' : Form)
    (law' : IsBody read' enc' Good' form')
    (inside : ℕ → Form) (is : inside tag ≡ form) (is' : inside tag' ≡ form') (apart : eqb tag' tag ≡ false) where
  abbrev pub enc_either : A ⊎ B → List ℕ
  enc_either (inl x) = el tag (enc x)
  enc_either (inr y) = el tag' (enc' y)

  abbrev pub GoodEither : A ⊎ B → Type 0
  GoodEither (inl x) = Good x × (length (enc x) < 2 ^ 32)
  GoodEither (inr y) = Good' y × (length (enc' y) < 2 ^ 32)

  abbrev due : Form → Form
  due after = part One (tag ∷ tag' ∷ []) inside after

  abbrev Part : Type 0
  Part = Result ((A ⊎ B) × Spot) Fault

  abbrev first : Spot → Part
  first s = within tag read s >>= λ x. Ok (inl x.0, x.1)

  abbrev second : Spot → Part
  second s = within tag' read' s >>= λ x. Ok (inr x.0, x.1)

  takes_first : (after : Form) → takes (due after) tag ≡ true
  takes_first after = rw (eq-eqb tag tag refl) refl

  or_right : (a b : Bool) → b ≡ true → (a || b) ≡ true
  or_right true b e = refl
  or_right false b e = e

  takes_second : (after : Form) → takes (due after) tag' ≡ true
  takes_second after = or_right (eqb tag tag') (eqb tag' tag' || false) (rw (eq-eqb tag' tag' refl) refl)

  -- what the element is that was read
  record Was (s : Spot) (y : (A ⊎ B) × Spot) : Type 0 where
    t : ℕ
    c : Spot
    entered : Enters t s c y.1
    takes_it : (after : Form) → takes (due after) t ≡ true
    good : GoodEither y.0
    spelled : el t c.rest ≡ enc_either y.0

  was : (s : Spot) (y : (A ⊎ B) × Spot) → IsBytes s.rest → either tag read tag' read' s ≡ Ok y → Was s y
  was s y fits e =
      elim (chosen (has_tag tag s.rest) (first s) (second s) (Ok y) e) [
        | inl h ↦
            let b = bind_ok (within tag read s) (λ x. Ok (inl x.0, x.1)) y h.1 in
            let w = within_ok tag id read enc Good form law s b.0 fits b.1 in
            let made : Was s (inl b.0.0, b.0.1) = record {
              t = tag;
              c = w.0;
              entered = w.1;
              takes_it = takes_first;
              good = (w.2, subst (λ (x : List ℕ). length x < 2 ^ 32) w.3 w.1.element.size);
              spelled = ap (λ (x : List ℕ). el tag x) w.3;
            } in
            subst (λ (z : (A ⊎ B) × Spot). Was s z) (ok_is (inl b.0.0, b.0.1) y b.2) made
        | inr h ↦
            let b = bind_ok (within tag' read' s) (λ x. Ok (inr x.0, x.1)) y h.1 in
            let w = within_ok tag' id' read' enc' Good' form' law' s b.0 fits b.1 in
            let made : Was s (inr b.0.0, b.0.1) = record {
              t = tag';
              c = w.0;
              entered = w.1;
              takes_it = takes_second;
              good = (w.2, subst (λ (x : List ℕ). length x < 2 ^ 32) w.3 w.1.element.size);
              spelled = ap (λ (x : List ℕ). el tag' x) w.3;
            } in
            subst (λ (z : (A ⊎ B) × Spot). Was s z) (ok_is (inr b.0.0, b.0.1) y b.2) made
      ]

  either_again : (x : A ⊎ B) (n : ℕ) (r : List ℕ) → GoodEither x
      → either tag read tag' read' (spot n (enc_either x ++ r)) ≡ Ok (x, spot (n + length (enc_either x)) r)
  either_again (inl x) n r h = let e : eqb tag tag ≡ true = eq-eqb tag tag refl in
      rw (e, within_again tag id read enc Good form law x n r h) refl
  either_again (inr y) n r h = rw (apart, within_again tag' id' read' enc' Good' form' law' y n r h) refl

  refuses : (n : ℕ) (xs : List ℕ) (after : Form) → has_tag tag xs ≡ false → is_other tag' xs ≡ true
      → Fact Tag (place n xs (due after) []) n
  refuses n [] after h g = absurd cc
  refuses n (t ∷ xs) after h g =
      let p = and_parts (is_tag t) (not (eqb t tag')) g in
      let none : may_stand (due after) t ≡ false =
      rw (swapped tag t h, swapped tag' t (not-true (eqb t tag') p.1)) refl in
      (t, xs, ((tt, refl), p.0), none, refl)

  first_fault : (s : Spot) (f : Fault) → IsBytes s.rest → has_tag tag s.rest ≡ true → within tag read s ≡ Err f
      → (after : Form)
      → FaultFrom (place s.pos s.rest (due after) []) f
  unfolding enter_at expect_at
  first_fault s f fits there e after =
      let p : Place = place s.pos s.rest (due after) [] in
      let other : Step = Err (fault Tag s.pos) in
      elim (bind_err (enter_at tag s) (λ x. read x.0 >>= λ v. Ok (v, x.1)) f e) [
        | inl a ↦ elim (bind_err (expect_at tag s) (λ x. Ok (spot (x.1.pos - length x.0.body) x.0.body, x.1)) f a) [
          | inr b ↦ absurd (let z = b.2 in cc)
          | inl b ↦ elim (chosen (is_other tag s.rest) other (next_at s) (fails f) b) [
            | inl h ↦ absurd (not_both tag s.rest there h.0)
            | inr h ↦
                (p, stays, next_fault s f p fits refl refl tt (λ none. absurd (not_nil tag s.rest there none)) h.1)
          ]
        ]
        | inr a ↦
            let k = enter_ok tag s a.0 fits a.1 in
            elim (bind_err (read a.0.0) (λ v. Ok (v, a.0.1)) f a.2) [
              | inl b ↦ fault_in (due after) tag s a.0.0 a.0.1 [] f (takes_first after) k
                  (subst (λ (g : Form). FaultFrom (place a.0.0.pos a.0.0.rest (body_of g) []) f) (sym is)
                  (law.faults a.0.0 f k.fits b))
              | inr b ↦ absurd (let z = b.2 in cc)
            ]
      ]

  second_fault : (s : Spot) (f : Fault) → IsBytes s.rest → has_tag tag s.rest ≡ false → within tag' read' s ≡ Err f
      → (after : Form)
      → FaultFrom (place s.pos s.rest (due after) []) f
  unfolding enter_at expect_at
  second_fault s f fits there e after =
      let p : Place = place s.pos s.rest (due after) [] in
      let other : Step = Err (fault Tag s.pos) in
      elim (bind_err (enter_at tag' s) (λ x. read' x.0 >>= λ v. Ok (v, x.1)) f e) [
        | inl a ↦ elim (bind_err (expect_at tag' s) (λ x. Ok (spot (x.1.pos - length x.0.body) x.0.body, x.1)) f a) [
          | inr b ↦ absurd (let z = b.2 in cc)
          | inl b ↦ elim (chosen (is_other tag' s.rest) other (next_at s) (fails f) b) [
            | inl h ↦ (p, stays, fact_is p (fault Tag s.pos) f (err_is _ _ h.1) (refuses s.pos s.rest after there h.0))
            | inr h ↦ (p, stays, next_fault s f p fits refl refl tt (λ _. (tt, refl)) h.1)
          ]
        ]
        | inr a ↦
            let k = enter_ok tag' s a.0 fits a.1 in
            elim (bind_err (read' a.0.0) (λ v. Ok (v, a.0.1)) f a.2) [
              | inl b ↦ fault_in (due after) tag' s a.0.0 a.0.1 [] f (takes_second after) k
                  (subst (λ (g : Form). FaultFrom (place a.0.0.pos a.0.0.rest (body_of g) []) f) (sym is')
                  (law'.faults a.0.0 f k.fits b))
              | inr b ↦ absurd (let z = b.2 in cc)
            ]
      ]

  either_fault : (s : Spot) (f : Fault) → IsBytes s.rest → either tag read tag' read' s ≡ Err f → (after : Form)
      → FaultFrom (place s.pos s.rest (due after) []) f
  either_fault s f fits e after =
      elim (chosen (has_tag tag s.rest) (first s) (second s) (fails f) e) [
        | inl h ↦ elim (bind_err (within tag read s) (λ x. Ok (inl x.0, x.1)) f h.1) [
          | inl b ↦ first_fault s f fits h.0 b after
          | inr b ↦ absurd (let z = b.2 in cc)
        ]
        | inr h ↦ elim (bind_err (within tag' read' s) (λ x. Ok (inr x.0, x.1)) f h.1) [
          | inl b ↦ second_fault s f fits h.0 b after
          | inr b ↦ absurd (let z = b.2 in cc)
        ]
      ]

  either_encodes : (x : A ⊎ B) (r : List ℕ) (after : Form) → GoodEither x → Encodes [] after r
      → Encodes [] (due after) (enc_either x ++ r)
  either_encodes (inl x) r after h m = next tag (enc x) r refl (record { identifier = id; size = h.1 })
      (takes_first after) refl refl (subst (λ (g : Form). Encodes [] g (enc x)) (sym is) (law.encodes x h.0)) m
  either_encodes (inr y) r after h m = next tag' (enc' y) r refl (record { identifier = id'; size = h.1 })
      (takes_second after) refl refl (subst (λ (g : Form). Encodes [] g (enc' y)) (sym is') (law'.encodes y h.0)) m

  pub either_reader : IsReader (either tag read tag' read') enc_either GoodEither due Always Anything
  either_reader = record {
    plain = λ after. refl;
    takes = λ s y fits e. let w = was s y fits e in (
      w.good,
      record {
        parts = w.entered.parts ∙ ap (λ (x : List ℕ). x ++ y.1.rest) w.spelled;
        moved = w.entered.moved ∙ ap (λ (x : List ℕ). s.pos + length x) w.spelled;
      },
    );
    again = λ x n r h l. either_again x n r h;
    faults = λ s f fits e after b. either_fault s f fits e after;
    goes = λ s y fits e after f h. let w = was s y fits e in
        fault_after (due after) w.t s w.c y.1 [] f (w.takes_it after) w.entered h;
    encodes = either_encodes;
  }
