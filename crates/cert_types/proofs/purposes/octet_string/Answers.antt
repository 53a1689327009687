use Rattle.std.proofs.Common.{◌∙◌, ◌==◌, ℕ, List, [], length, sym, ap}
use Rattle.std.proofs.lemmas.List.{append-nil}
use Rattle.der_core.specs.Element.{el}
use Rattle.cert_types.proofs.purposes.octet_string.Goals as goal

pub returns-in_default-clause-only : goal.returns-in_default-clause-only
returns-in_default-clause-only c k good e =
    let w =
    c.in_default.ensures.only k [] good (ap (λ s. s.rest) c.new-input.ensures ∙ e ∙ sym (append-nil (el 0x04 k))) in
    let impossible = w.1 in absurd cc

pub returns-else-is_empty-clause-only : goal.returns-else-is_empty-clause-only
returns-else-is_empty-clause-only c k good e =
    let w = c.in-Ok.ensures.only k [] good (ap (λ s. s.rest) c.new-input.ensures ∙ e ∙ sym (append-nil (el 0x04 k))) in
    let impossible = c.if-is_empty.ensures ∙ ap (λ (r : List ℕ). length r == 0) w.0.1 in absurd cc
