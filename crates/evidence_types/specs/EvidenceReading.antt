-- Reading an evidence record from the left.
use Rattle.std.specs.Prelude.{ℕ, List, [], ◌∷◌, Option, Result}
use Rattle.der_core.specs.declared.fault.Fault.{Fault}
use Rattle.der_core.specs.Values.{AlgorithmValue}
use Rattle.der_core.specs.Reading.{Spot, spot, within, maybe, maybe_filled, ◌then◌, whole_of, made, oid_in, opaque_at}
use Rattle.der_core.specs.Reading.{version_in, many_in}
use Rattle.cms_types.specs.AttributeValue.{AttributeValue}
use Rattle.cms_types.specs.AttributeReading.{attributes_in}
use Rattle.cms_types.specs.SignedDataReading.{algorithms_in}
use Rattle.evidence_types.specs.FilledReading.{within_filled}
use Rattle.evidence_types.specs.StampValue.{StampValue}
use Rattle.evidence_types.specs.StampReading.{stamp_in}
use Rattle.evidence_types.specs.EvidenceValue.{EncryptionValue, EvidenceValue}

-- time-stamps, and chains of them
abbrev pub stamps_in : Spot → Result (List StampValue) Fault
stamps_in s = many_in (within 0x30 stamp_in) s

abbrev pub chains_in : Spot → Result (List (List StampValue)) Fault
chains_in s = many_in (within_filled 0x30 stamps_in) s

abbrev pub encryption_from : List ℕ × Option (List ℕ) → EncryptionValue
encryption_from p = record { id = p.0; value = p.1 }

unfoldable pub encryption_in : Spot → Result EncryptionValue Fault
encryption_in s = made encryption_from (whole_of (within 0x06 oid_in then opaque_at)) s

abbrev pub EvidenceParts : Type 0
EvidenceParts = List ℕ × (List AlgorithmValue × (Option (List AttributeValue)
    × (Option EncryptionValue × List (List StampValue))))

abbrev pub evidence_from : EvidenceParts → EvidenceValue
evidence_from p =
    record { algorithms = p.1.0; crypto_infos = p.1.1.0; encryption = p.1.1.1.0; chains = p.1.1.1.1 }

unfoldable pub evidence_in : Spot → Result EvidenceValue Fault
evidence_in s = made evidence_from (whole_of (within 0x02 (version_in (1 ∷ [])) then within 0x30 algorithms_in
    then maybe_filled 0xa0 attributes_in then maybe 0xa1 encryption_in then within_filled 0x30 chains_in)) s

unfoldable pub evidence_at : List ℕ → Result EvidenceValue Fault
evidence_at bytes = whole_of (within 0x30 evidence_in) (spot 0 bytes)
