use Rattle.trust_lists.proofs.ReadBack.{said_is_good, written_is_said, written_once, written_again}
use Rattle.trust_lists.proofs.laws.lists_are_read_back.Goals as goal

pub returns : goal.returns
returns c = record { good = said_is_good; said = written_is_said; once = written_once; again = written_again }
