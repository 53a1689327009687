use Rattle.std.proofs.Common.{refl}
use Rattle.trust_lists.specs.Asking.{is_among}
use Rattle.library_calls.proofs.InMemory.{known_by, never_raised}
use Rattle.library_calls.proofs.check.judge_input.Goals as goal

pub returns-clause-verdict : goal.returns-clause-verdict
returns-clause-verdict c =
    known_by _ (λ s s' e. never_raised e) _ _ (is_among c.args.asked.now) _ c.args.input.file.now _ _ _
    c.judge_file.result refl c.source_of-source.ensures.rest c.source_of-source.ensures.tells
    c.judge_file.ensures.asked c.judge_file.ensures.count
