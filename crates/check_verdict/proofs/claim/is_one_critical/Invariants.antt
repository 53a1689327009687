use Rattle.std.proofs.Common.{◌≡◌, length}
use Rattle.der_core.specs.Lists.{some}
use Rattle.check_verdict.specs.TokenRules.{is_critical}
use Rattle.check_verdict.proofs.claim.is_one_critical.Given as goal

-- one of those that are left is critical exactly where one of all is
abbrev pub invariant-loop-extension : goal.invariant-loop-extension
invariant-loop-extension l = some is_critical l.left ≡ some is_critical l.extensions

abbrev pub decreases-loop-extension : goal.decreases-loop-extension
decreases-loop-extension l = length l.left
