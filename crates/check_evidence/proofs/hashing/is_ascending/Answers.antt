use Rattle.std.proofs.Common.{◌∙◌, sym}
use Rattle.check_evidence.proofs.Joining.{ascending, ascends_if}
use Rattle.check_evidence.proofs.hashing.is_ascending.Goals as goal

pub returns : goal.returns
returns c = (
  λ h. ascending c.args.values.now (sym c.test_order.ensures ∙ h),
  λ h. c.test_order.ensures ∙ ascends_if c.args.values.now h,
)
