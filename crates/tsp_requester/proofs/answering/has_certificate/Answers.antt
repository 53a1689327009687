use Rattle.tsp_requester.specs.TokenParts.{token_value}
use Rattle.tsp_requester.proofs.AnsweringLaw.{certificate_when}
use Rattle.tsp_requester.proofs.answering.has_certificate.Goals as goal

pub returns : goal.returns
returns c = certificate_when (token_value c.args.token.now) c.in-Some.attributes.now
    c.in-Some-certificates.certificates.now c.names_one_of.result
    c.in-Some.ensures c.in-Some-certificates.ensures c.names_one_of.ensures
