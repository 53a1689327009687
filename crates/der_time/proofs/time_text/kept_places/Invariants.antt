use Rattle.std.proofs.Common.{◌≡◌, ◌==◌, ◌≤◌, true, drop, length}
use Rattle.der_core.specs.Lists.{every}
use Rattle.der_time.proofs.time_text.kept_places.Given as goal

abbrev pub invariant-loop-kept : goal.invariant-loop-kept
invariant-loop-kept l = record {
  within : l.kept ≤ length l.digits;
  zeros : every (λ d. d == 48) (drop l.kept l.digits) ≡ true;
}

abbrev pub decreases-loop-kept : goal.decreases-loop-kept
decreases-loop-kept l = l.kept
