use Rattle.check_evidence.proofs.Judged.{records_show_one_moment, records_never_both}
use Rattle.check_evidence.proofs.laws.records_are_judged.Goals as goal

pub returns-clause-one_moment : goal.returns-clause-one_moment
returns-clause-one_moment c = records_show_one_moment

pub returns-clause-never_both : goal.returns-clause-never_both
returns-clause-never_both c = records_never_both
