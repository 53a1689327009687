use Rattle.sha2_blocks.proofs.LongSchedules.{sums_are}
use Rattle.sha2_blocks.proofs.long_words.sums_of.Goals as goal

pub returns : goal.returns
returns c = λ ws two. sums_are c.args.words c.load_two.result ws c.args.t c.requires c.load_two.ensures two
