-- The certificate that octets encode.
use Rattle.std.specs.Prelude.{ℕ, List, [], None, unwrap_or}
use Rattle.std.specs.Result.{result_ok}
use Rattle.der_core.specs.Values.{AlgorithmValue}
use Rattle.der_time.specs.TimeValue.{Utc}
use Rattle.cert_types.specs.CertificateValue.{CertificateValue}
use Rattle.cert_types.specs.CertificateReading.{certificate_at}

-- a certificate of empty parts, which no octets encode
abbrev pub no_algorithm : AlgorithmValue
no_algorithm = record { oid = []; parameters = None }

abbrev pub no_certificate : CertificateValue
no_certificate = record {
  tbs = record {
    version = None;
    serial = [];
    algorithm = no_algorithm;
    issuer = [];
    validity = record { from = Utc []; until = Utc [] };
    subject = [];
    key = [];
    issuer_id = None;
    subject_id = None;
    extensions = None;
  };
  algorithm = no_algorithm;
  signature = [];
}

-- the certificate that the octets encode, if they encode one
unfoldable pub certificate_of : List ℕ → CertificateValue
certificate_of bytes = unwrap_or (result_ok (certificate_at bytes)) no_certificate
