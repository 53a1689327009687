use Rattle.check_evidence.proofs.Going.{first_value}
use Rattle.check_evidence.proofs.covered.Covered.next.Goals as goal

pub returns-in_ok-first-in-Each-clause-values : goal.returns-in_ok-first-in-Each-clause-values
returns-in_ok-first-in-Each-clause-values c =
    first_value c.args.alg c.args.self.now c.in-Each.chains c.in-Each.digests c.in_ok-first-in-Each.first.now
    c.in_ok-first-in-Each.others.now c.value_of.result c.in-Each.is c.in_ok-first-in-Each.ensures.cases.0
    c.value_of.ensures.value
