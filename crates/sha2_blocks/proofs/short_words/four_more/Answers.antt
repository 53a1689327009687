use Rattle.std.proofs.Common.{◌+◌, arith}
use Rattle.sha2.specs.Sha256.{schedule}
use Rattle.sha2_blocks.proofs.ShortSchedules.{at_place}
use Rattle.sha2_blocks.proofs.Sums.{fewer_short}
use Rattle.sha2_blocks.proofs.short_words.four_more.Goals as goal

pub returns-clause-words : goal.returns-clause-words
returns-clause-words c = λ b w.
    let ws = schedule b 48 in
    let t = c.args.t in
    record {
      first = w.second;
      second = at_place _ ws _ (t + 4 + 4) (omega arith) w.third;
      third = at_place _ ws _ (t + 4 + 8) (omega arith) w.fourth;
      fourth = at_place _ ws _ (t + 4 + 12) (omega arith)
          (c.next_words-next.ensures b t (omega arith) w.first w.second w.third w.fourth);
    }

pub returns-clause-sums : goal.returns-clause-sums
returns-clause-sums c = λ b w sums.
    let next = c.next_words-next.ensures b c.args.t (omega arith) w.first w.second w.third w.fourth in
    fewer_short _ (schedule b 48) _ (c.args.t + 20) (omega arith) (c.put_sums.ensures (schedule b 48) next sums)
