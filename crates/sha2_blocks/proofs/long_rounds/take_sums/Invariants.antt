use Rattle.std.proofs.Common.{◌≡◌, ℕ, ◌*◌, List}
use Rattle.sha2.specs.Sha512.{rounds}
use Rattle.sha2_blocks.specs.Sums.{AreLongSums}
use Rattle.sha2_blocks.proofs.long_rounds.take_sums.Given as goal

abbrev pub invariant-turns : goal.invariant-turns
invariant-turns l = (ws : List ℕ) → AreLongSums l.sums ws 80 → l.v ≡ rounds l.fn.hash ws (8 * l.turn)
