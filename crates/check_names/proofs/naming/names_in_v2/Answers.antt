use Rattle.check_names.proofs.NamingLaw.{in_v2, not_in_v2, unknown_in_v2}
use Rattle.check_names.proofs.naming.names_in_v2.Goals as goal

pub returns-in_default-clause-named : goal.returns-in_default-clause-named
returns-in_default-clause-named g c = not_in_v2 c.args.attributes.now c.args.certificate.now c.in_default.ensures.only

pub returns-in-Some-hash_algorithm-clause-named : goal.returns-in-Some-hash_algorithm-clause-named
returns-in-Some-hash_algorithm-clause-named g c =
    in_v2 c.args.attributes.now c.args.certificate.now c.in-Some.first c.in-Some-hash_algorithm.alg c.names_by.result
    c.in-Some.ensures.found c.in-Some.ensures.only
    c.in-Some-hash_algorithm.ensures.found c.in-Some-hash_algorithm.ensures.only c.names_by.ensures.named

pub returns-in-None-clause-named : goal.returns-in-None-clause-named
returns-in-None-clause-named g c = unknown_in_v2 c.args.attributes.now c.args.certificate.now c.in-Some.first
    c.in-Some.ensures.only c.in-None.ensures.only
