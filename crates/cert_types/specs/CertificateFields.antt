-- The fields of a certificate as values, independent of their place in memory.
use Rattle.std.specs.Prelude.{[], ◌∷◌, option_map}
use Rattle.cert_types.specs.declared.certificate.Validity.{Validity}
use Rattle.cert_types.specs.declared.certificate.TbsCertificate.{TbsCertificate}
use Rattle.cert_types.specs.declared.certificate.CertificateFields.{CertificateFields}
use Rattle.cert_types.specs.CertificateValue.{ValidityValue, TbsCertificateValue, CertificateValue}

abbrev pub validity_value : Validity → ValidityValue
validity_value v = record { from = v.from; until = v.until }

abbrev pub tbs_value : TbsCertificate → TbsCertificateValue
tbs_value s = record {
  version = option_map (λ v. v ∷ []) s.version;
  serial = s.serial;
  algorithm = s.algorithm;
  issuer = s.issuer.now;
  validity = validity_value s.validity;
  subject = s.subject.now;
  key = s.key.now;
  issuer_id = s.issuer_id;
  subject_id = s.subject_id;
  extensions = s.extensions;
}

abbrev pub certificate_value : CertificateFields → CertificateValue
certificate_value p = record { tbs = tbs_value p.tbs; algorithm = p.algorithm; signature = p.signature }
