use Rattle.sha2_blocks.proofs.LongSchedules.{two_next}
use Rattle.sha2_blocks.proofs.long_words.next_words.Goals as goal

pub returns : goal.returns
returns c = λ b t fits e0 e1 e4 e5 e7. rw (c.lower_sigma1.ensures, c.lower_sigma0.ensures)
    (two_next b t c.args.w0 c.args.w1 c.args.w4 c.args.w5 c.args.w7 fits e0 e1 e4 e5 e7)
