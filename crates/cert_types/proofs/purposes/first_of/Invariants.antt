use Rattle.std.proofs.Common.{◌≡◌, length, find}
use Rattle.der_core.specs.Lists.{is_same}
use Rattle.cert_types.proofs.purposes.first_of.Given as goal

-- the extensions passed are of other kinds, so the first of this kind among those that are left is the first of all
abbrev pub invariant-loop-first : goal.invariant-loop-first
invariant-loop-first l = find (λ e. is_same e.id l.id) l.left ≡ find (λ e. is_same e.id l.id) l.fn.extensions

abbrev pub decreases-loop-first : goal.decreases-loop-first
decreases-loop-first l = length l.left
