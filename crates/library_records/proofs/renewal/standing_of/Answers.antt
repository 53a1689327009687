use Rattle.std.proofs.Common.{inr}
use Rattle.library_records.proofs.renewal.standing_of.Goals as goal

pub returns-in-Err-last_of-clause-refused : goal.returns-in-Err-last_of-clause-refused
returns-in-Err-last_of-clause-refused c = inr c.in-Err-last_of.ensures.refused
