use Rattle.std.specs.Prelude.{◌≡◌, length, slice_get}
use Rattle.der_lists.specs.Numbers.{of_number}
use Rattle.cms_types.proofs.signers.Signers.get.Given as goal

abbrev pub invariant-loop-signer : goal.invariant-loop-signer
invariant-loop-signer l = slice_get l.left l.before ≡ of_number l.fn.self l.fn.number

abbrev pub decreases-loop-signer : goal.decreases-loop-signer
decreases-loop-signer l = length l.left
