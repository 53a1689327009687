use Rattle.evidence_laws.proofs.Judged.{records_are_judged}
use Rattle.evidence_laws.proofs.OneRefusal.{records_have_one_refusal}
use Rattle.evidence_laws.proofs.laws.records_are_judged.Goals as goal

pub returns-clause-judged : goal.returns-clause-judged
returns-clause-judged c = records_are_judged

pub returns-clause-one_refusal : goal.returns-clause-one_refusal
returns-clause-one_refusal c = records_have_one_refusal c.roots_are_unique.ensures.unique
