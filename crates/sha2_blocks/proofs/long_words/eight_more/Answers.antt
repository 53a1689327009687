use Rattle.std.proofs.Common.{ℕ, ◌+◌, arith}
use Rattle.sha2.specs.Sha512.{schedule}
use Rattle.sha2_blocks.proofs.LongSchedules.{sixteen_at}
use Rattle.sha2_blocks.proofs.Sums.{fewer_long}
use Rattle.sha2_blocks.proofs.long_words.eight_more.Goals as goal

pub returns-clause-words : goal.returns-clause-words
returns-clause-words c = λ b w.
    let ws = schedule b 64 in
    let t : ℕ = c.args.t in
    let w1 = c.two_more-w.ensures.words b w in
    let w2 = sixteen_at _ ws _ (t + 4) (omega arith) (c.two_more-w-2.ensures.words b w1) in
    let w3 = sixteen_at _ ws _ (t + 6) (omega arith) (c.two_more-w-3.ensures.words b w2) in
    sixteen_at _ ws _ (t + 8) (omega arith) (c.two_more.ensures.words b w3)

pub returns-clause-sums : goal.returns-clause-sums
returns-clause-sums c = λ b w sums.
    let ws = schedule b 64 in
    let t : ℕ = c.args.t in
    let w1 = c.two_more-w.ensures.words b w in
    let w2 = sixteen_at _ ws _ (t + 4) (omega arith) (c.two_more-w-2.ensures.words b w1) in
    let w3 = sixteen_at _ ws _ (t + 6) (omega arith) (c.two_more-w-3.ensures.words b w2) in
    let s1 = fewer_long _ ws _ (t + 2 + 16) (omega arith) (c.two_more-w.ensures.sums b w sums) in
    let s2 = fewer_long _ ws _ (t + 4 + 16) (omega arith) (c.two_more-w-2.ensures.sums b w1 s1) in
    let s3 = fewer_long _ ws _ (t + 6 + 16) (omega arith) (c.two_more-w-3.ensures.sums b w2 s2) in
    fewer_long _ ws _ (t + 24) (omega arith) (c.two_more.ensures.sums b w3 s3)
