use Rattle.check_names.proofs.NamingLaw.{by_default}
use Rattle.check_names.proofs.cert_ids.hash_algorithm.Goals as goal

pub returns-in-Absent : goal.returns-in-Absent
returns-in-Absent c =
    let d = by_default c.args.id.now.algorithm c.hash_algorithm.result c.hash_algorithm.ensures c.in-Absent.is in
    record { found = d.0; only = d.1 }
