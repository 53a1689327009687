use Rattle.check_verdict.proofs.Beside.{authorities_beside, signers_beside, tests_holding}
use Rattle.check_under.proofs.laws.entries_count_beside.Goals as goal

pub returns-clause-authorities : goal.returns-clause-authorities
returns-clause-authorities c = authorities_beside

pub returns-clause-signers : goal.returns-clause-signers
returns-clause-signers c = signers_beside

pub returns-clause-tests : goal.returns-clause-tests
returns-clause-tests c = tests_holding
