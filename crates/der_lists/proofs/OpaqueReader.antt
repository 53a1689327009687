-- One element of any kind.
use Rattle.std.proofs.Common.{◌≡◌, ℕ, ◌+◌, List, [], ◌++◌, length, Ok, Err, refl, sym, ap, subst, ◌∙◌, inl, inr}
use Rattle.der_core.specs.declared.fault.Fault.{Fault}
use Rattle.der_core.specs.Element.{el, IsElement, IsBytes}
use Rattle.der_core.specs.Form.{Form, One, full, opaques}
use Rattle.der_core.specs.Encoding.{anything, next}
use Rattle.der_core.specs.Faults.{place, stays, FaultFrom}
use Rattle.der_core.specs.Reading.{Spot, spot, next_at}
use Rattle.der_core.specs.Values.{IsOpaque}
use Rattle.der_core.proofs.ReadLengths.{ok_is}
use Rattle.der_core.proofs.Elements.{next_takes, next_again, next_fault}
use Rattle.der_core.proofs.Results.{bind_ok, bind_err}
use Rattle.der_core.proofs.Readers.{IsReader, IsBody, Anything, whole_body}
use Rattle.der_core.proofs.PartReaders.{Always}
use Rattle.der_lists.specs.Items.{opaque_item, explicit_opaque_in}
use Rattle.der_lists.proofs.OpaqueLists.{stands_on}

-- what was there, if an element of any kind was read
abbrev Was : Spot → List ℕ × Spot → Type 0
Was s y = (t : ℕ) × (b : List ℕ) × IsElement t b × (y.0 ≡ el t b) × (s.rest ≡ el t b ++ y.1.rest)
    × (y.1.pos ≡ s.pos + length (el t b))

was : (s : Spot) (y : List ℕ × Spot) → IsBytes s.rest → opaque_item s ≡ Ok y → Was s y
unfolding opaque_item
was s y fits e =
    let b = bind_ok (next_at s) (λ x. Ok (x.0.whole, x.1)) y e in
    let k = next_takes s b.0 fits b.1 in
    let made : Was s (b.0.0.whole, b.0.1) = (b.0.0.tag, b.0.0.body, k.element, k.whole, k.parts, k.moved) in
    subst (Was s) (ok_is (b.0.0.whole, b.0.1) y b.2) made

again : (x : List ℕ) (n : ℕ) (r : List ℕ) → IsOpaque x → opaque_item (spot n (x ++ r)) ≡ Ok (x, spot (n + length x) r)
unfolding opaque_item
again x n r h =
    let one : opaque_item (spot n (el h.0 h.1 ++ r)) ≡ Ok (el h.0 h.1, spot (n + length (el h.0 h.1)) r) =
    rw (next_again n h.0 h.1 r h.2) refl in
    subst (λ (w : List ℕ). opaque_item (spot n (w ++ r)) ≡ Ok (w, spot (n + length w) r)) (sym h.3) one

faulty : (s : Spot) (f : Fault) → IsBytes s.rest → opaque_item s ≡ Err f → (after : Form)
    → FaultFrom (place s.pos s.rest (opaques One after) []) f
unfolding opaque_item
faulty s f fits e after =
    elim (bind_err (next_at s) (λ x. Ok (x.0.whole, x.1)) f e) [
      | inr b ↦ absurd (let z = b.2 in cc)
      | inl b ↦ (
        place s.pos s.rest (opaques One after) [],
        stays,
        next_fault s f (place s.pos s.rest (opaques One after) []) fits refl refl tt (λ none. (tt, refl)) b,
      )
    ]

pub opaque_reader : IsReader opaque_item (λ x. x) IsOpaque (opaques One) Always Anything
opaque_reader = record {
  plain = λ after. refl;
  takes = λ s y fits e.
      let w = was s y fits e in (
        (w.0, w.1, w.2, w.3),
        record {
          parts = w.4 ∙ ap (λ (v : List ℕ). v ++ y.1.rest) (sym w.3);
          moved = w.5 ∙ ap (λ (v : List ℕ). s.pos + length v) (sym w.3);
        },
      );
  again = λ x n r h l. again x n r h;
  faults = λ s f fits e after b. faulty s f fits e after;
  goes = λ s y fits e after f h. let w = was s y fits e in
      stands_on (opaques One after) s y.1 w.0 w.1 [] f w.2 w.4 w.5 w.2.identifier h;
  encodes = λ x r after h m. next h.0 h.1 r (ap (λ (v : List ℕ). v ++ r) h.3) h.2 h.2.identifier refl refl anything m;
}

-- a body that is one
pub explicit_opaque_body : IsBody explicit_opaque_in (λ x. x) IsOpaque (opaques One full)
unfolding explicit_opaque_in
explicit_opaque_body = whole_body _ _ _ _ _ _ opaque_reader tt tt
