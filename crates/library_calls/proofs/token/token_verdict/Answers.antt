use Rattle.trust_lists.specs.Asking.{is_among}
use Rattle.library_calls.proofs.CheckingTokens.{judged_by}
use Rattle.library_calls.proofs.token.token_verdict.Goals as goal

pub returns-clause-verdict : goal.returns-clause-verdict
returns-clause-verdict c = judged_by _ _ (is_among c.args.asked.now) c.args.token.now c.args.stamped.now
    c.judge_token-verdict.result c.checker-checker.ensures c.judge_token-verdict.ensures.judged
    c.judge_token-verdict.ensures.complete c.judge_token-verdict.ensures.count
