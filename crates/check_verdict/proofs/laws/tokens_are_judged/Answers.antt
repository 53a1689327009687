use Rattle.check_verdict.proofs.Tokens.{never_both, one_moment, one_rule}
use Rattle.check_verdict.proofs.TokensGiven.{pass_or_fail}
use Rattle.check_verdict.proofs.laws.tokens_are_judged.Goals as goal

pub returns-clause-judged : goal.returns-clause-judged
returns-clause-judged c = pass_or_fail

pub returns-clause-never_both : goal.returns-clause-never_both
returns-clause-never_both c = never_both

pub returns-clause-one_moment : goal.returns-clause-one_moment
returns-clause-one_moment c = one_moment

pub returns-clause-one_rule : goal.returns-clause-one_rule
returns-clause-one_rule c = one_rule
