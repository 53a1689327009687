use Rattle.check_verdict.proofs.FilesGiven.{files_are_judged}
use Rattle.check_verdict.proofs.Verdicts.{never_both, one_moment, one_refusal}
use Rattle.check_verdict.proofs.laws.files_are_judged.Goals as goal

pub returns-clause-judged : goal.returns-clause-judged
returns-clause-judged c = files_are_judged

pub returns-clause-never_both : goal.returns-clause-never_both
returns-clause-never_both c = never_both

pub returns-clause-one_moment : goal.returns-clause-one_moment
returns-clause-one_moment c = one_moment

pub returns-clause-one_refusal : goal.returns-clause-one_refusal
returns-clause-one_refusal c = one_refusal
