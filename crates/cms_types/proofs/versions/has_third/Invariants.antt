use Rattle.std.proofs.Common.{◌≡◌, length}
use Rattle.der_core.specs.Lists.{some}
use Rattle.cms_types.specs.Versions.{is_third}
use Rattle.cms_types.proofs.versions.has_third.Given as goal

-- one of the signers that are left states the version exactly when one of all does
abbrev pub invariant-loop-signer : goal.invariant-loop-signer
invariant-loop-signer l = some is_third l.left ≡ some is_third l.signers

abbrev pub decreases-loop-signer : goal.decreases-loop-signer
decreases-loop-signer l = length l.left
