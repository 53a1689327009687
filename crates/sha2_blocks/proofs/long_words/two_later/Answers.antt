use Rattle.std.proofs.Common.{◌+◌, arith}
use Rattle.sha2.specs.Sha512.{schedule}
use Rattle.sha2_blocks.proofs.LongSchedules.{at_place}
use Rattle.sha2_blocks.proofs.long_words.two_later.Goals as goal

pub returns : goal.returns
returns c = λ b t fits w.
    let ws = schedule b 64 in
    record {
      first = w.second;
      second = at_place _ ws _ (t + 2 + 2) (omega arith) w.third;
      third = at_place _ ws _ (t + 2 + 4) (omega arith) w.fourth;
      fourth = at_place _ ws _ (t + 2 + 6) (omega arith) w.fifth;
      fifth = at_place _ ws _ (t + 2 + 8) (omega arith) w.sixth;
      sixth = at_place _ ws _ (t + 2 + 10) (omega arith) w.seventh;
      seventh = at_place _ ws _ (t + 2 + 12) (omega arith) w.eighth;
      eighth = at_place _ ws _ (t + 2 + 14) (omega arith)
          (c.next_words-next.ensures b t fits w.first w.second w.fifth w.sixth w.eighth);
    }
