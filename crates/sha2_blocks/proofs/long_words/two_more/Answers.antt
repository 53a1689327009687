use Rattle.std.proofs.Common.{◌+◌, arith}
use Rattle.sha2.specs.Sha512.{schedule}
use Rattle.sha2_blocks.proofs.LongSchedules.{at_place}
use Rattle.sha2_blocks.proofs.Sums.{fewer_long}
use Rattle.sha2_blocks.proofs.long_words.two_more.Goals as goal

pub returns-clause-words : goal.returns-clause-words
returns-clause-words c = λ b w. c.two_later-later.ensures b c.args.t (omega arith) w

pub returns-clause-sums : goal.returns-clause-sums
returns-clause-sums c = λ b w sums.
    let ws = schedule b 64 in
    let later = c.two_later-later.ensures b c.args.t (omega arith) w in
    fewer_long _ ws _ (c.args.t + 18) (omega arith)
    (c.put_sums.ensures ws (at_place _ ws _ (c.args.t + 16) (omega arith) later.eighth) sums)
