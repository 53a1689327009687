use Rattle.check_names.proofs.NamingLaw.{in_v1, not_in_v1}
use Rattle.check_names.proofs.naming.names_in_v1.Goals as goal

pub returns-in-Some-clause-named : goal.returns-in-Some-clause-named
returns-in-Some-clause-named g c =
    in_v1 c.args.attributes.now c.args.certificate.now c.in-Some.first c.names_by.result c.in-Some.ensures.found
    c.in-Some.ensures.only c.names_by.ensures.named

pub returns-in-None-clause-named : goal.returns-in-None-clause-named
returns-in-None-clause-named g c = not_in_v1 c.args.attributes.now c.args.certificate.now c.in-None.ensures.only
