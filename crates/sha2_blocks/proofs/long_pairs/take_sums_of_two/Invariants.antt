use Rattle.std.proofs.Common.{ℕ, ◌*◌, List}
use Rattle.sha2.specs.Sha512.{rounds}
use Rattle.sha2_blocks.specs.Pairs.{AreBoth, HoldOnce}
use Rattle.sha2_blocks.specs.Sums.{AreLongSums}
use Rattle.sha2_blocks.proofs.long_pairs.take_sums_of_two.Given as goal

abbrev pub invariant-turns : goal.invariant-turns
invariant-turns l = (ws : List ℕ) → AreLongSums l.sums ws 80
    → AreBoth HoldOnce l.v (rounds l.fn.first ws (8 * l.turn)) (rounds l.fn.second ws (8 * l.turn))
