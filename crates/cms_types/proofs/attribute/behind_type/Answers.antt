use Rattle.std.proofs.Common.{ℕ, List, sym, ap, ◌∙◌}
use Rattle.der_core.specs.Lists.{is_same}
use Rattle.der_core.specs.Reading.{spot}
use Rattle.cms_types.proofs.OfType.{type_is, type_there}
use Rattle.cms_types.proofs.attribute.behind_type.Goals as goal

pub returns-in_default : goal.returns-in_default
returns-in_default c = λ a read. absurd
    (type_there c.args.parts.now c.in_default.field-0 a (rw (← c.again-ahead.ensures) c.in_default.ensures.0) read)

pub returns-then-is_same : goal.returns-then-is_same
returns-then-is_same c = λ a read.
    let at = type_is c.args.parts.now (spot c.in-Ok.field-0-1 c.in-Ok.found.now, c.contents.new.self) a
    (rw (← c.again-ahead.ensures) c.in-Ok.ensures) read in
    (ap (λ (b : List ℕ). is_same b c.args.id.now) at.0 ∙ sym c.is_same.ensures ∙ c.if-is_same.true, at.1)

pub returns-else-is_same : goal.returns-else-is_same
returns-else-is_same c = λ a read.
    let at = type_is c.args.parts.now (spot c.in-Ok.field-0-1 c.in-Ok.found.now, c.contents.new.self) a
    (rw (← c.again-ahead.ensures) c.in-Ok.ensures) read in
    ap (λ (b : List ℕ). is_same b c.args.id.now) at.0 ∙ sym c.is_same.ensures ∙ c.if-is_same.false
