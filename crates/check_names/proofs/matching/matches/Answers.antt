use Rattle.std.proofs.Common.{refl, ◌∙◌}
use Rattle.der_core.proofs.SameOctets.{compared}
use Rattle.check_names.proofs.NamingLaw.{by_issuer, another_issuer, by_key}
use Rattle.check_names.proofs.matching.matches.Goals as goal

pub returns-then-is_same : goal.returns-then-is_same
returns-then-is_same c =
    let v = c.args.certificate.now in
    let issuer = c.in-IssuerAndSerial.issuer.now in
    let serial = c.in-IssuerAndSerial.serial in
    rw (c.in-IssuerAndSerial.is) (by_issuer v issuer serial c.is_same.result c.is_same-then-is_same.result
    (compared c.issuer.result.now v.tbs.issuer issuer issuer c.is_same.result c.issuer.ensures refl c.is_same.ensures)
    c.if-is_same.true
    (compared c.bytes.result.now v.tbs.serial c.bytes-then-is_same.result.now serial c.is_same-then-is_same.result
    (c.bytes.ensures.octets ∙ c.serial.ensures) c.bytes-then-is_same.ensures.octets c.is_same-then-is_same.ensures))

pub returns-else-is_same : goal.returns-else-is_same
returns-else-is_same c =
    let v = c.args.certificate.now in
    let issuer = c.in-IssuerAndSerial.issuer.now in
    rw (c.in-IssuerAndSerial.is) (another_issuer v issuer c.in-IssuerAndSerial.serial c.is_same.result
    (compared c.issuer.result.now v.tbs.issuer issuer issuer c.is_same.result c.issuer.ensures refl c.is_same.ensures)
    c.if-is_same.false)

pub returns-in-Some : goal.returns-in-Some
returns-in-Some c =
    rw (c.in-KeyId.is) (by_key c.args.certificate.now c.in-KeyId.id.now c.in-Some.key.now c.is_same-in-Some.result
    c.in-Some.ensures.found
    c.in-Some.ensures.only c.is_same-in-Some.ensures)
