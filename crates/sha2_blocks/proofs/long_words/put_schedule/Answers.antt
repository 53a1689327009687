use Rattle.std.proofs.Common.{ℕ, ◌+◌, ◌*◌, arith}
use Rattle.sha2.specs.Sha512.{schedule}
use Rattle.sha2_blocks.proofs.LongSchedules.{sixteen_at}
use Rattle.sha2_blocks.proofs.Sums.{fewer_long}
use Rattle.sha2_blocks.proofs.long_words.put_schedule.Goals as goal

pub turns-init : goal.turns-init
turns-init c = record { words = c.sixteen_first-w.ensures; sums = c.put_sixteen.ensures _ c.sixteen_first-w.ensures }

pub turns-preserved : goal.turns-preserved
turns-preserved c =
    let b = c.args.block.now in
    let ws = schedule b 64 in
    let t : ℕ = 16 * c.turns.turn in
    let next : ℕ = 16 * (c.turns.turn + 1) in
    let i = c.turns.invariant in
    let w1 = c.eight_more-w.ensures.words b i.words in
    let s1 = fewer_long _ ws _ (t + 8 + 16) (omega arith) (c.eight_more-w.ensures.sums b i.words i.sums) in
    record {
      words = sixteen_at _ ws _ next (omega arith) (c.eight_more-w-in-turns.ensures.words b w1);
      sums = fewer_long _ ws _ (next + 16) (omega arith) (c.eight_more-w-in-turns.ensures.sums b w1 s1);
    }

pub returns : goal.returns
returns c =
    fewer_long _ (schedule c.args.block.now 64) _ 80 (omega (arith, c.turns.auto.turn-end)) c.turns.invariant.sums
