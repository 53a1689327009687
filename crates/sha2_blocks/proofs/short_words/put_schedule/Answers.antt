use Rattle.std.proofs.Common.{ℕ, ◌+◌, ◌*◌, arith}
use Rattle.sha2.specs.Sha256.{schedule}
use Rattle.sha2_blocks.proofs.ShortSchedules.{sixteen_at, sixteen_more}
use Rattle.sha2_blocks.proofs.Sums.{fewer_short}
use Rattle.sha2_blocks.proofs.short_words.put_schedule.Goals as goal

pub turns-init : goal.turns-init
turns-init c = record { words = c.sixteen_first-w.ensures; sums = c.put_sixteen.ensures _ c.sixteen_first-w.ensures }

pub turns-preserved : goal.turns-preserved
turns-preserved c =
    let ws = schedule c.args.block.now 48 in
    let next : ℕ = 16 * (c.turns.turn + 1) in
    let more = sixteen_more _ _ _ _ _ c.args.block.now (16 * c.turns.turn) c.four_more-w.ensures
    c.four_more-w-in-turns.ensures c.four_more-w-in-turns-2.ensures c.four_more-w-in-turns-3.ensures
    c.turns.invariant.words c.turns.invariant.sums in
    record {
      words = sixteen_at _ ws _ next (omega arith) more.words;
      sums = fewer_short _ ws _ (next + 16) (omega arith) more.fourth;
    }

pub returns : goal.returns
returns c =
    fewer_short _ (schedule c.args.block.now 48) _ 64 (omega (arith, c.turns.auto.turn-end)) c.turns.invariant.sums
