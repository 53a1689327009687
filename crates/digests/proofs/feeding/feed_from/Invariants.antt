use Rattle.std.proofs.Common.{◌≡◌, ◌^◌, List, ℕ, length, ◌+◌, ◌-◌, ◌≤◌}
use Rattle.digests.proofs.Turns.{SoFar}
use Rattle.digests.proofs.feeding.feed_from.Given as goal

-- what was fed is what the source gave, and no failure has been counted
abbrev pub invariant-loop-count : goal.invariant-loop-count
invariant-loop-count g l = record {
  room : length l.room ≡ 65536;
  short : l.total ≤ 2 ^ 40;
  failures : g.S.Source.failures l.source ≡ g.S.Source.failures l.initial.source;
  telling : g.S.Source.tells l.initial.source → g.S.Source.tells l.source;
  kept : g.F.Feed.set l.hashers ≡ g.F.Feed.set l.initial.hashers;
  given : (given : List ℕ) × SoFar g.F.Feed.fed l.initial.hashers l.hashers (g.S.Source.tells l.initial.source)
      (g.S.Source.rest l.initial.source)
      (g.S.Source.rest l.source) l.total given;
}

abbrev pub decreases-loop-count : goal.decreases-loop-count
decreases-loop-count g l = 2 ^ 40 + 1 - l.total
