-- Reading a certificate from the left.
use Rattle.std.specs.Prelude.{ℕ, List, [], ◌∷◌, Option, Result}
use Rattle.der_core.specs.declared.fault.Fault.{Fault}
use Rattle.der_core.specs.Values.{AlgorithmValue}
use Rattle.der_core.specs.Reading.{Spot, spot, within, maybe, last, element_at, ◌then◌, whole_of, made, integer_in}
use Rattle.der_core.specs.Reading.{version_in, bits_in}
use Rattle.der_core.specs.AlgorithmReading.{algorithm_in}
use Rattle.der_time.specs.TimeValue.{TimeValue}
use Rattle.der_time.specs.TimeReading.{time_at}
use Rattle.cert_types.specs.ExtensionValue.{ExtensionValue}
use Rattle.cert_types.specs.DistinctExtensions.{distinct_in}
use Rattle.cert_types.specs.CertificateValue.{ValidityValue, TbsCertificateValue, CertificateValue}

abbrev pub validity_from : TimeValue × TimeValue → ValidityValue
validity_from p = record { from = p.0; until = p.1 }

unfoldable pub validity_in : Spot → Result ValidityValue Fault
validity_in s = made validity_from (whole_of (time_at then time_at)) s

-- an element that contains one element, whose contents are read
unfoldable pub explicit_version_in : Spot → Result (List ℕ) Fault
explicit_version_in s = whole_of (within 0x02 (version_in (0 ∷ 1 ∷ 2 ∷ []))) s

unfoldable pub explicit_extensions_in : Spot → Result (List ExtensionValue) Fault
explicit_extensions_in s = whole_of (within 0x30 distinct_in) s

abbrev pub Parts : Type 0
Parts = Option (List ℕ) × (List ℕ × (AlgorithmValue × (List ℕ
    × (ValidityValue × (List ℕ × (List ℕ × (Option (List ℕ) × (Option (List ℕ) × Option (List ExtensionValue)))))))))

abbrev pub tbs_from : Parts → TbsCertificateValue
tbs_from p = record {
  version = p.0;
  serial = p.1.0;
  algorithm = p.1.1.0;
  issuer = p.1.1.1.0;
  validity = p.1.1.1.1.0;
  subject = p.1.1.1.1.1.0;
  key = p.1.1.1.1.1.1.0;
  issuer_id = p.1.1.1.1.1.1.1.0;
  subject_id = p.1.1.1.1.1.1.1.1.0;
  extensions = p.1.1.1.1.1.1.1.1.1;
}

unfoldable pub tbs_in : Spot → Result TbsCertificateValue Fault
tbs_in s = made tbs_from (whole_of (maybe 0xa0 explicit_version_in then within 0x02 integer_in
    then within 0x30 algorithm_in then element_at 0x30 then within 0x30 validity_in
    then element_at 0x30 then element_at 0x30 then maybe 0x81 bits_in then maybe 0x82 bits_in
    then last 0xa3 explicit_extensions_in)) s

abbrev pub certificate_from : TbsCertificateValue × (AlgorithmValue × List ℕ) → CertificateValue
certificate_from p = record { tbs = p.0; algorithm = p.1.0; signature = p.1.1 }

unfoldable pub certificate_in : Spot → Result CertificateValue Fault
certificate_in s = made certificate_from
    (whole_of (within 0x30 tbs_in then within 0x30 algorithm_in then within 0x03 bits_in)) s

unfoldable pub certificate_at : List ℕ → Result CertificateValue Fault
certificate_at bytes = whole_of (within 0x30 certificate_in) (spot 0 bytes)
