use Rattle.check_verdict.proofs.SignersGiven.{signers_are_judged}
use Rattle.check_verdict.proofs.OneSigner.{signer_never_both, signer_one_moment, signer_one_refusal, signers_of_file}
use Rattle.check_verdict.proofs.laws.signers_are_judged.Goals as goal

pub returns-clause-judged : goal.returns-clause-judged
returns-clause-judged c = signers_are_judged

pub returns-clause-never_both : goal.returns-clause-never_both
returns-clause-never_both c = signer_never_both

pub returns-clause-one_moment : goal.returns-clause-one_moment
returns-clause-one_moment c = signer_one_moment

pub returns-clause-one_refusal : goal.returns-clause-one_refusal
returns-clause-one_refusal c = signer_one_refusal

pub returns-clause-of_file : goal.returns-clause-of_file
returns-clause-of_file c = signers_of_file
