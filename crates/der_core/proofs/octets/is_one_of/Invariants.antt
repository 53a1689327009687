use Rattle.std.proofs.Common.{◌≡◌, ◌==◌, drop}
use Rattle.der_core.specs.Lists.{some}
use Rattle.der_core.proofs.octets.is_one_of.Given as goal

-- it is one of those that are left exactly when it is one of all
abbrev pub invariant-loop-other : goal.invariant-loop-other
invariant-loop-other l = some (λ u. u == l.octet) (drop l.other-index l.octets) ≡ some (λ u. u == l.octet) l.octets
