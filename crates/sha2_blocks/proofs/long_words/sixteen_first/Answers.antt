use Rattle.std.proofs.Common.{arith}
use Rattle.sha2_blocks.proofs.LongSchedules.{two_first}
use Rattle.sha2_blocks.proofs.long_words.sixteen_first.Goals as goal

pub returns : goal.returns
returns c =
    let b = c.args.block.now in
    record {
      first = two_first b _ 0 (omega arith) c.first_words.ensures;
      second = two_first b _ 2 (omega arith) c.first_words-2.ensures;
      third = two_first b _ 4 (omega arith) c.first_words-3.ensures;
      fourth = two_first b _ 6 (omega arith) c.first_words-4.ensures;
      fifth = two_first b _ 8 (omega arith) c.first_words-5.ensures;
      sixth = two_first b _ 10 (omega arith) c.first_words-6.ensures;
      seventh = two_first b _ 12 (omega arith) c.first_words-7.ensures;
      eighth = two_first b _ 14 (omega arith) c.first_words-8.ensures;
    }
