use Rattle.std.proofs.Common.{ℕ, List, Option, ◌∷◌, sym, ap, ◌∙◌}
use Rattle.std.specs.Option.{option_and_then}
use Rattle.der_core.specs.Lists.{only}
use Rattle.cms_types.specs.AttributeValue.{AttributeValue}
use Rattle.check_fit.proofs.OneType.{none_occurs, first_occurs, has_none, has_more}
use Rattle.check_fit.proofs.attribute_values.single_value.Goals as goal

abbrev value_of : Option AttributeValue → Option (List ℕ)
value_of o = option_and_then (λ a. only a.values) o

pub returns-in_err-value : goal.returns-in_err-value
returns-in_err-value c =
    rw (none_occurs c.args.attributes.now c.args.id.now c.in_err-value.ensures) c.from_residual.ensures

pub returns-then-has : goal.returns-then-has
returns-then-has c =
    let first = c.in_ok-value.ensures in
    rw (first_occurs c.args.attributes.now c.args.id.now first.0 c.in_ok-value.others first.1)
    (ap value_of (sym (has_more c.in_ok-value.others c.args.id.now first.0 (sym c.has.ensures ∙ c.if-has.true))))

pub returns : goal.returns
returns c =
    let first = c.in_ok-value.ensures in
    rw (first_occurs c.args.attributes.now c.args.id.now first.0 c.in_ok-value.others first.1)
    (first.2 ∙ sym (ap (λ (xs : List AttributeValue). value_of (only (first.0 ∷ xs)))
    (has_none c.in_ok-value.others c.args.id.now (sym c.has.ensures ∙ c.if-has.false))))
