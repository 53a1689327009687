use Rattle.std.proofs.Common.{length, ap, sym, ◌∙◌, arith, List, ℕ}
use Rattle.std.proofs.lemmas.Bool.{eqb-true, eq-eqb}
use Rattle.std.proofs.lemmas.List.{nil_from_length}
use Rattle.der_core.specs.Reading.{Spot, element_at}
use Rattle.evidence_making.proofs.Sequences.{one_sequence, nothing_behind, never_fault}
use Rattle.evidence_making.proofs.making.is_sequence.Goals as goal

pub returns-in-Ok : goal.returns-in-Ok
returns-in-Ok c =
    let octets : List ℕ = c.args.octets.now in
    let s : Spot = c.element.new.self in
    let x : List ℕ = c.in-Ok.field-0.now in
    let read = sym (ap (λ (t : Spot). element_at 0x30 t) c.new-input.ensures) ∙ c.in-Ok.ensures in
    let n = c.is_empty.ensures in (
      λ t. one_sequence octets x s (λ i. omega (arith, c.type_inv.octets i)) read
          (nil_from_length s.rest (eqb-true (length s.rest) 0 (sym n ∙ t))),
      λ h. n ∙ eq-eqb (length s.rest) 0 (ap (λ (l : List ℕ). length l) (nothing_behind octets x s read h)),
    )

pub returns-in-Err : goal.returns-in-Err
returns-in-Err c = (
  λ t. absurd (let z = t in cc),
  λ h. absurd (never_fault c.args.octets.now c.in-Err.field-0
      (sym (ap (λ (t : Spot). element_at 0x30 t) c.new-input.ensures) ∙ c.in-Err.ensures.0) h),
)
