use Rattle.std.proofs.Common.{◌≡◌, drop}
use Rattle.der_core.specs.Contents.{are_subidentifiers}
use Rattle.der_core.proofs.oid.are_more_subidentifiers.Given as goal

-- the octets that are left are subidentifiers, the first of them begun or not, exactly when all the octets are
abbrev pub invariant-loop-b : goal.invariant-loop-b
invariant-loop-b l = are_subidentifiers l.begins (drop l.b-index l.body) ≡ are_subidentifiers l.initial.begins l.body
