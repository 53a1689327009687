use Rattle.check_verdict.proofs.RuleRows.{claim_rows, purpose_rows}
use Rattle.check_verdict.proofs.laws.rule_rows_hold.Goals as goal

pub returns-clause-claims : goal.returns-clause-claims
returns-clause-claims c = claim_rows

pub returns-clause-purpose : goal.returns-clause-purpose
returns-clause-purpose c = purpose_rows
