use Rattle.std.proofs.Common.{subst}
use Rattle.trust_lists.specs.Asking.{is_among}
use Rattle.check_verdict.specs.Checkers.{CheckerValue, terms_for}
use Rattle.library_calls.specs.Checked.{IsKnownVerdict, handed}
use Rattle.library_records.proofs.under.signed_verdict.Goals as goal

pub returns-clause-verdict : goal.returns-clause-verdict
returns-clause-verdict c = (
  _,
  c.policy_at.ensures,
  subst (λ (k : CheckerValue). IsKnownVerdict (terms_for k (is_among c.args.asked.now)) c.args.signed.file.now
      (handed c.args.signed.given c.args.signed.content.now) c.judge_input.result) c.beside-checker.ensures
      c.judge_input.ensures.verdict,
)
