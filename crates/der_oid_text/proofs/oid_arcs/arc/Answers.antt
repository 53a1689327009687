use Rattle.std.proofs.Common.{◌≡◌, ◌∙◌, sym, ap, subst, IfSome}
use Rattle.std.specs.Fmt.{decimal}
use Rattle.der_oid_text.specs.OidSteps.{is_decimal}
use Rattle.der_oid_text.proofs.DecimalTexts.{arc_spelled, arc_refused, arc_other}
use Rattle.der_oid_text.proofs.oid_arcs.arc.Goals as goal

pub returns-then-is_decimal-clause-spelled : goal.returns-then-is_decimal-clause-spelled
returns-then-is_decimal-clause-spelled c =
    let plain = ap is_decimal (sym c.as_bytes.ensures.value) ∙ sym c.is_decimal.ensures ∙ c.if-is_decimal.true in
    subst (λ o. IfSome o (λ n. c.args.part.now ≡ decimal n)) (sym c.ok.ensures.value)
    (arc_spelled c.args.part.now c.parse.result c.parse.ensures.value.0 plain)

pub returns-then-is_decimal-clause-refused : goal.returns-then-is_decimal-clause-refused
returns-then-is_decimal-clause-refused c =
    λ none. arc_refused c.args.part.now c.parse.result c.parse.ensures.value.0 (sym c.ok.ensures.value ∙ none)

pub returns-else-is_decimal-clause-refused : goal.returns-else-is_decimal-clause-refused
returns-else-is_decimal-clause-refused c =
    let other = ap is_decimal (sym c.as_bytes.ensures.value) ∙ sym c.is_decimal.ensures ∙ c.if-is_decimal.false in
    λ none. arc_other c.args.part.now other
