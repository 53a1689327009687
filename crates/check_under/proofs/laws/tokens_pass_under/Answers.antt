use Rattle.check_under.proofs.Tokens.{tokens_pass_under, tokens_run_out_under}
use Rattle.check_under.proofs.laws.tokens_pass_under.Goals as goal

pub returns-clause-pass : goal.returns-clause-pass
returns-clause-pass c = tokens_pass_under

pub returns-clause-run_out : goal.returns-clause-run_out
returns-clause-run_out c = tokens_run_out_under
