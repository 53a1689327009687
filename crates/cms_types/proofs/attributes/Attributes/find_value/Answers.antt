use Rattle.cms_types.proofs.OfType.{passes_one, passes_found}
use Rattle.cms_types.proofs.attributes.Attributes.find_value.Goals as goal

pub returns-in-Some-behind_type : goal.returns-in-Some-behind_type
returns-in-Some-behind_type c =
    let entered = c.in-Some.ensures in
    let at = c.in-Some-behind_type.ensures entered.0 entered.2 in (
      entered.0,
      passes_found c.args.id.now c.args.self.now c.loop-parts.left c.in-Some.others entered.0 entered.1 at.0
          c.loop-parts.invariant,
      c.only_value.ensures entered.0 at.1,
    )

pub loop-parts-preserved : goal.loop-parts-preserved
loop-parts-preserved c =
    let entered = c.in-Some.ensures in
    passes_one c.args.id.now c.args.self.now c.loop-parts.left c.in-Some.others entered.0 entered.1
    (c.in_default-behind_type.ensures entered.0 entered.2) c.loop-parts.invariant
