use Rattle.std.proofs.Common.{arith}
use Rattle.sha2.specs.Sha256.{compress}
use Rattle.sha2_blocks.proofs.Both.{both_done, both_eight, both_none}
use Rattle.sha2_blocks.proofs.Words.{short}
use Rattle.sha2_blocks.proofs.short_pairs.take_sums_of_two.Goals as goal

pub turns-init : goal.turns-init
turns-init c = λ ws sums. both_none short c.args.first.now c.args.second.now ws c.begin_pair-v.ensures

pub turns-preserved : goal.turns-preserved
turns-preserved c = λ ws sums.
    let g = c.args.first.now in
    let h = c.args.second.now in
    both_eight short g h ws _ c.turns.turn (omega arith) sums (c.four_rounds-v.ensures g h ws)
    (c.four_rounds-v-in-turns.ensures g h ws) (c.turns.invariant ws sums)

pub returns-clause-first : goal.returns-clause-first
unfolding compress
returns-clause-first c = λ b sums.
    c.add_pair.ensures.first _ _ (both_done short c.args.first.now c.args.second.now b _ c.turns.turn
    (omega (arith, c.turns.auto.turn-end)) c.turns.invariant sums)

pub returns-clause-second : goal.returns-clause-second
unfolding compress
returns-clause-second c = λ b sums.
    c.add_pair.ensures.second _ _ (both_done short c.args.first.now c.args.second.now b _ c.turns.turn
    (omega (arith, c.turns.auto.turn-end)) c.turns.invariant sums)
