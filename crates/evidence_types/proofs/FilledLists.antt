-- Elements that must have a member: one that must be there, and lists of them.
use Rattle.std.proofs.Common.{◌≡◌, ℕ, zero, suc, ◌+◌, ◌<◌, ◌≤◌, ◌^◌, true, false, eqb, List, [], ◌∷◌, ◌++◌, length}
use Rattle.std.proofs.Common.{Result, Ok, Err, refl, sym, ap, subst, ◌∙◌, arith, inl, inr}
use Rattle.std.specs.List.{flat_map, AllByRecursion}
use Rattle.std.proofs.lemmas.Bool.{eqb-true, eqb-false, ne_eqb}
use Rattle.std.proofs.lemmas.List.{nil_from_length, length-append}
use Rattle.std.proofs.lemmas.List.Concat.{flat_map-cons}
use Rattle.der_core.specs.declared.fault.Fault.{Fault}
use Rattle.der_core.specs.declared.fault.Kind.TheVariants.{Empty}
use Rattle.der_core.specs.Element.{is_tag, len, el, IsElement, IsBytes}
use Rattle.der_core.specs.Form.{Count, One, Many, Form, full, filled, body_of, Element}
use Rattle.der_core.specs.Encoding.{Encodes, ended, next, absent, has}
use Rattle.der_core.specs.Faults.{Place, place, stays, FaultFrom}
use Rattle.der_core.specs.Grammar.{one, list}
use Rattle.der_core.specs.Reading.{fault, Spot, spot, enter_at, filled_in, many_from, many_in}
use Rattle.der_core.specs.Results.{◌>>=◌}
use Rattle.der_core.specs.Standing.{Enters}
use Rattle.der_core.proofs.ReadLengths.{chosen, ok_is}
use Rattle.der_core.proofs.Headers.{fails, err_is, fact_is}
use Rattle.der_core.proofs.Results.{bind_ok, bind_err}
use Rattle.der_core.proofs.Readers.{Reader, Body, Follows, IsReader, IsBody, Anything, single, took, enter_ok}
use Rattle.der_core.proofs.Readers.{enter_again, enter_fault, fault_inside, fault_behind}
use Rattle.der_core.proofs.PartReaders.{Always}
use Rattle.der_core.proofs.FilledReaders.{entered_filled, filled_there}
use Rattle.der_core.proofs.Lists.{at_list, list_enter_fault, members_body}
use Rattle.evidence_types.specs.FilledReading.{within_filled}

-- elements of a list that has some have octets
pub some_octets : {A : Type 0} (tag : ℕ) (enc : A → List ℕ) (xs : List A) → (xs ≡ [] → ⊥)
    → flat_map (λ x. el tag (enc x)) xs ≡ [] → ⊥
some_octets tag enc [] some e = some refl
some_octets tag enc (x ∷ xs) some e = let z = sym (flat_map-cons (λ y. el tag (enc y)) x xs) ∙ e in cc

module _ {A : Type 0} (tag : ℕ) (id : is_tag tag ≡ true) (read : Body A) (enc : A → List ℕ) (Good : A → Type 0)
    (form : Form)
    (law : IsBody read enc Good form) (plain : body_of form ≡ form) where
  -- good, and with contents of at least one octet
  abbrev pub Inside : A → Type 0
  Inside x = (Good x × (length (enc x) < 2 ^ 32)) × (enc x ≡ [] → ⊥)

  abbrev pub items : List A → List ℕ
  items xs = flat_map (λ x. el tag (enc x)) xs

  filled_within : (s : Spot) (y : A × Spot) → IsBytes s.rest → within_filled tag read s ≡ Ok y
      → (c : Spot) × Enters tag s c y.1 × Good y.0 × (c.rest ≡ enc y.0) × (c.rest ≡ [] → ⊥)
  filled_within s y fits e = entered_filled tag id read enc Good form law plain s.pos s y fits e

  filled_takes : (s : Spot) (y : A × Spot) → IsBytes s.rest → within_filled tag read s ≡ Ok y
      → Inside y.0 × Follows s (el tag (enc y.0)) y.1
  filled_takes s y fits e =
      let w = filled_within s y fits e in
      let some : enc y.0 ≡ [] → ⊥ = λ nil. w.4 (w.3 ∙ nil) in (
        ((w.2, subst (λ (b : List ℕ). length b < 2 ^ 32) w.3 w.1.element.size), some),
        subst (λ (b : List ℕ). Follows s (el tag b) y.1) w.3 (record { parts = w.1.parts; moved = w.1.moved }),
      )

  filled_again : (x : A) (n : ℕ) (r : List ℕ) → Inside x
      → within_filled tag read (spot n (el tag (enc x) ++ r)) ≡ Ok (x, spot (n + length (el tag (enc x))) r)
  filled_again x n r h = filled_there tag id read enc Good form law plain x n r h

  -- a fault of the contents, or that there are none
  inner_fault : (count : Count) (s c t : Spot) (f : Fault) (after : Form) (ps : List Element) → Enters tag s c t
      → filled_in s.pos read c ≡ Err f
      → FaultFrom (place s.pos s.rest (single count tag (filled form) after) ps) f
  inner_fault count s c t f after ps k e =
      let empty : Result A Fault = Err (fault Empty s.pos) in
      let p : Place = place s.pos s.rest (single count tag (filled form) after) ps in
      elim (chosen (eqb (length c.rest) 0) empty (read c) (fails f) e) [
        | inl h ↦
            let nil : c.rest ≡ [] = nil_from_length c.rest (eqb-true _ _ h.0) in
            let here = subst (λ (b : List ℕ). IsElement tag b × (s.rest ≡ el tag b ++ t.rest)) nil
            (k.element, k.parts) in (
              p,
              stays,
              fact_is p (fault Empty s.pos) f (err_is _ _ h.1)
                  (tag, (here.0, took tag (filled form) after, t.rest, here.1), refl, refl),
            )
        | inr h ↦ fault_inside count tag s c t (filled form) after ps f k
            (subst (λ (g : Form). FaultFrom (place c.pos c.rest g []) f) plain (law.faults c f k.fits h.1))
      ]

  filled_fault : (s : Spot) (f : Fault) → IsBytes s.rest → within_filled tag read s ≡ Err f → (after : Form)
      → FaultFrom (place s.pos s.rest (one tag (filled form) after) []) f
  filled_fault s f fits e after =
      elim (bind_err (enter_at tag s) (λ x. filled_in s.pos read x.0 >>= λ v. Ok (v, x.1)) f e) [
        | inl a ↦ enter_fault tag s f fits a (filled form) after
        | inr a ↦ elim (bind_err (filled_in s.pos read a.0.0) (λ v. Ok (v, a.0.1)) f a.2) [
          | inl b ↦ inner_fault One s a.0.0 a.0.1 f after [] (enter_ok tag s a.0 fits a.1) b
          | inr b ↦ absurd (let z = b.2 in cc)
        ]
      ]

  -- such an element
  pub within_filled_reader : IsReader (within_filled tag read) (λ x. el tag (enc x)) Inside
      (λ after. one tag (filled form) after) Always Anything
  within_filled_reader = record {
    plain = λ after. refl;
    takes = filled_takes;
    again = λ x n r h l. filled_again x n r h;
    faults = λ s f fits e after b. filled_fault s f fits e after;
    goes = λ s y fits e after f h. let k = filled_within s y fits e in
        fault_behind One tag s k.0 y.1 (filled form) after [] f k.1 h;
    encodes = λ x r after h m. next tag (enc x) r refl (record { identifier = id; size = h.0.1 })
        (took tag (filled form) after) refl refl (has h.1 (law.encodes x h.0.0)) m;
  }

  -- ---- a list of them

  member_takes : (s : Spot) (y : A × Spot) → IsBytes s.rest → within_filled tag read s ≡ Ok y
      → (c : Spot) × Enters tag s c y.1 × Inside y.0 × (c.rest ≡ enc y.0)
  member_takes s y fits e =
      let w = filled_within s y fits e in (w.0, w.1, (filled_takes s y fits e).0, w.3)

  member_fault : (s : Spot) (f : Fault) (ps : List Element) → IsBytes s.rest → (s.rest ≡ [] → ⊥)
      → within_filled tag read s ≡ Err f
      → FaultFrom (at_list tag (filled form) s ps) f
  member_fault s f ps fits some e =
      elim (bind_err (enter_at tag s) (λ x. filled_in s.pos read x.0 >>= λ v. Ok (v, x.1)) f e) [
        | inl b ↦ list_enter_fault tag s f fits some b (filled form) ps
        | inr b ↦ elim (bind_err (filled_in s.pos read b.0.0) (λ v. Ok (v, b.0.1)) f b.2) [
          | inl c ↦ inner_fault Many s b.0.0 b.0.1 f full ps (enter_ok tag s b.0 fits b.1) c
          | inr c ↦ absurd (let z = c.2 in cc)
        ]
      ]

  -- a body that is a list of such elements
  pub filled_many_body :
      IsBody (many_in (within_filled tag read)) items (AllByRecursion Inside) (list tag (filled form))
  filled_many_body = members_body tag (within_filled tag read) enc Inside (filled form) (record {
    takes = member_takes;
    again = filled_again;
    faults = member_fault;
    encodes = λ x h. (record { identifier = id; size = h.0.1 }, has h.1 (law.encodes x h.0.0));
  })
