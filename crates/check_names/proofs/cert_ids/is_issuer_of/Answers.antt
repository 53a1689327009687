use Rattle.std.proofs.Common.{ap, ◌∙◌, Some}
use Rattle.der_core.specs.Lists.{only}
use Rattle.der_core.proofs.SameOctets.{compared}
use Rattle.check_names.proofs.NamingLaw.{names_issuer, is_issuer, another_name}
use Rattle.check_names.proofs.cert_ids.is_issuer_of.Goals as goal

pub returns-then-is_element_of : goal.returns-then-is_element_of
returns-then-is_element_of c =
    let v = c.args.certificate.now in
    let i = c.args.stated.now in
    is_issuer v i c.is_element_of.result c.is_same.result
    (names_issuer v i c.whole.result.now c.issuer.result.now c.is_element_of.result c.whole-whole.ensures.1
    (ap Some c.whole.ensures ∙ (c.in-Some.ensures ∙ ap only c.names.ensures)) c.issuer.ensures c.is_element_of.ensures)
    c.if-is_element_of.true
    (compared c.bytes.result.now i.serial c.bytes-then-is_element_of.result.now v.tbs.serial c.is_same.result
    (c.bytes.ensures.octets ∙ c.serial.ensures)
    (c.bytes-then-is_element_of.ensures.octets ∙ c.serial-then-is_element_of.ensures) c.is_same.ensures)

pub returns-else-is_element_of : goal.returns-else-is_element_of
returns-else-is_element_of c =
    let v = c.args.certificate.now in
    let i = c.args.stated.now in
    another_name v i c.is_element_of.result
    (names_issuer v i c.whole.result.now c.issuer.result.now c.is_element_of.result c.whole-whole.ensures.1
    (ap Some c.whole.ensures ∙ (c.in-Some.ensures ∙ ap only c.names.ensures)) c.issuer.ensures c.is_element_of.ensures)
    c.if-is_element_of.false
