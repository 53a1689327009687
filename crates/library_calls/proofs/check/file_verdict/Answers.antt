use Rattle.std.proofs.Common.{subst}
use Rattle.trust_lists.specs.Asking.{is_among}
use Rattle.check_verdict.specs.Checkers.{CheckerValue, terms_for}
use Rattle.library_calls.specs.Checked.{IsKnownVerdict, handed}
use Rattle.library_calls.proofs.check.file_verdict.Goals as goal

pub returns-clause-verdict : goal.returns-clause-verdict
returns-clause-verdict c =
    subst (λ (k : CheckerValue). IsKnownVerdict (terms_for k (is_among c.args.asked.now)) c.args.input.file.now
    (handed c.args.input.given c.args.input.content.now) c.judge_input-verdict.result) c.checker-checker.ensures
    c.judge_input-verdict.ensures.verdict
