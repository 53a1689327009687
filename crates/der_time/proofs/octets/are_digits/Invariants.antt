use Rattle.std.proofs.Common.{◌≡◌, drop}
use Rattle.der_core.specs.Lists.{every}
use Rattle.der_core.specs.Times.{is_digit}
use Rattle.der_time.proofs.octets.are_digits.Given as goal

-- the octets that are left are digits exactly when all are
abbrev pub invariant-loop-octet : goal.invariant-loop-octet
invariant-loop-octet l = every is_digit (drop l.octet-index l.octets) ≡ every is_digit l.octets
