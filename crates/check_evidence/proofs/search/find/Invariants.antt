use Rattle.std.proofs.Common.{◌≡◌, ◌≤◌, ◌<◌, ◌-◌, ℕ, true, false, get_or, [], length}
use Rattle.der_core.specs.Lists.{is_less}
use Rattle.check_evidence.proofs.search.find.Given as goal

-- those before `low` are before the value, and those from `high` on aren't
abbrev pub invariant-loop-low : goal.invariant-loop-low
invariant-loop-low l = record {
  ends : l.low ≤ l.high;
  within : l.high ≤ length l.values;
  before : (k : ℕ) → k < l.low → is_less (get_or l.values k []) l.wanted ≡ true;
  after : (k : ℕ) → l.high ≤ k → k < length l.values → is_less (get_or l.values k []) l.wanted ≡ false;
}

abbrev pub decreases-loop-low : goal.decreases-loop-low
decreases-loop-low l = l.high - l.low
