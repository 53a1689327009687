use Rattle.std.proofs.Common.{sym, subst}
use Rattle.cert_types.specs.CertificateValue.{CertificateValue}
use Rattle.trust_lists.specs.Marks.{AreMarks}
use Rattle.trust_lists.proofs.Certificates.{certificate_encoded, certificate_is}
use Rattle.trust_lists.proofs.trust_lines.marks_in.Goals as goal

pub returns-in-Ok-clause-encoded : goal.returns-in-Ok-clause-encoded
returns-in-Ok-clause-encoded c = (
  certificate_encoded c.args.octets.now _ c.in-Ok.ensures.found,
  subst (λ (x : CertificateValue). AreMarks x c.marks_of.result)
      (sym (certificate_is c.args.octets.now _ c.in-Ok.ensures.found)) c.marks_of.ensures,
)
