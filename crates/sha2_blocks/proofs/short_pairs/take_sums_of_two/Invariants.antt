use Rattle.std.proofs.Common.{ℕ, ◌*◌, List}
use Rattle.sha2.specs.Sha256.{rounds}
use Rattle.sha2_blocks.specs.Pairs.{AreBoth, HoldTwice}
use Rattle.sha2_blocks.specs.Sums.{AreShortSums}
use Rattle.sha2_blocks.proofs.short_pairs.take_sums_of_two.Given as goal

abbrev pub invariant-turns : goal.invariant-turns
invariant-turns l = (ws : List ℕ) → AreShortSums l.sums ws 64
    → AreBoth HoldTwice l.v (rounds l.fn.first ws (8 * l.turn)) (rounds l.fn.second ws (8 * l.turn))
