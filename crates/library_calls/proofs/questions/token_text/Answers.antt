use Rattle.library_calls.proofs.AreUnasked.{token_unasked}
use Rattle.library_calls.proofs.questions.token_text.Goals as goal

pub returns-in-Err-clause-refused : goal.returns-in-Err-clause-refused
returns-in-Err-clause-refused c = token_unasked _ _ c.in-Err.fault _ _ _ _ _ c.in-Err.ensures.written
