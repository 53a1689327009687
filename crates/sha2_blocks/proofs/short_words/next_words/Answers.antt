use Rattle.sha2_blocks.proofs.ShortSchedules.{four_next}
use Rattle.sha2_blocks.proofs.short_words.next_words.Goals as goal

pub returns : goal.returns
returns c = λ b t fits e0 e1 e2 e3. rw (c.lower_sigma1-2.ensures, c.lower_sigma1.ensures, c.lower_sigma0.ensures)
    (four_next b t c.args.w0 c.args.w1 c.args.w2 c.args.w3 fits e0 e1 e2 e3)
