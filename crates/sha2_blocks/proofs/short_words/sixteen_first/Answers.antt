use Rattle.std.proofs.Common.{arith}
use Rattle.sha2_blocks.proofs.ShortSchedules.{four_first}
use Rattle.sha2_blocks.proofs.short_words.sixteen_first.Goals as goal

pub returns : goal.returns
returns c =
    let b = c.args.block.now in
    record {
      first = four_first b _ 0 (omega arith) c.first_words.ensures;
      second = four_first b _ 4 (omega arith) c.first_words-2.ensures;
      third = four_first b _ 8 (omega arith) c.first_words-3.ensures;
      fourth = four_first b _ 12 (omega arith) c.first_words-4.ensures;
    }
