use Rattle.std.proofs.Common.{◌∙◌}
use Rattle.check_names.proofs.NamingLaw.{hash_names}
use Rattle.check_names.proofs.cert_ids.names_by.Goals as goal

pub returns-then-issuer_fits-clause-named : goal.returns-then-issuer_fits-clause-named
returns-then-issuer_fits-clause-named g c =
    hash_names c.args.alg c.args.id.now c.args.certificate.now c.hash.result.now c.bytes.result.now c.is_same.result
    c.hash.ensures (c.bytes.ensures.octets ∙ c.digest.ensures.digest) c.is_same.ensures
    (c.issuer_fits.ensures.0 c.if-issuer_fits.true)
