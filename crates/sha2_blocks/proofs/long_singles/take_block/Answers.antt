use Rattle.std.proofs.Common.{◌≡◌, ◌+◌, ◌*◌, refl, ap, ◌∙◌, arith}
use Rattle.sha2.specs.Sha512.{add_state, compress, rounds}
use Rattle.sha2_blocks.proofs.LongSchedules.{come_at}
use Rattle.sha2_blocks.proofs.long_singles.take_block.Goals as goal

pub turns-init : goal.turns-init
unfolding rounds
turns-init c = record { words = c.sixteen_first.ensures; variables = refl }

pub turns-preserved : goal.turns-preserved
turns-preserved c =
    let b = c.args.block.now in
    let h = c.args.hash.now in
    let s1 = c.eight_further-stage.ensures h b c.turns.invariant in
    come_at _ h b _ (16 * (c.turns.turn + 1)) (omega arith) (c.eight_further-stage-in-turns.ensures h b s1)

pub returns : goal.returns
unfolding compress
returns c =
    let b = c.args.block.now in
    let h = c.args.hash.now in
    let done : 16 * c.turns.turn ≡ 64 = omega (arith, c.turns.auto.turn-end) in
    c.add_variables.ensures ∙ ap (add_state h) (c.last_rounds.ensures h b (come_at _ h b _ 64 done c.turns.invariant))
