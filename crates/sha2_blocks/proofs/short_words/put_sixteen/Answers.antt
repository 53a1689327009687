use Rattle.std.proofs.Common.{arith}
use Rattle.sha2_blocks.proofs.short_words.put_sixteen.Goals as goal

pub returns : goal.returns
returns c = λ ws w.
    let s0 = c.put_sums.ensures ws w.first (λ k below. absurd (omega arith)) in
    let s1 = c.put_sums-2.ensures ws w.second s0 in
    let s2 = c.put_sums-3.ensures ws w.third s1 in
    c.put_sums-4.ensures ws w.fourth s2
