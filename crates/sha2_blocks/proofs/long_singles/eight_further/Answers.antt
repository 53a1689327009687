use Rattle.std.proofs.Common.{ℕ, ◌+◌, arith}
use Rattle.sha2_blocks.proofs.LongSchedules.{come_at}
use Rattle.sha2_blocks.proofs.long_singles.eight_further.Goals as goal

pub returns : goal.returns
returns c = λ h b came.
    let t : ℕ = c.args.t in
    let s1 = c.two_further-stage.ensures h b came in
    let s2 = come_at _ h b _ (t + 4) (omega arith) (c.two_further-stage-2.ensures h b s1) in
    let s3 = come_at _ h b _ (t + 6) (omega arith) (c.two_further-stage-3.ensures h b s2) in
    come_at _ h b _ (t + 8) (omega arith) (c.two_further.ensures h b s3)
