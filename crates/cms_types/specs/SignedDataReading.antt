-- Reading a SignedData from the left.
use Rattle.std.proofs.Common.{inl, inr}
use Rattle.std.specs.Prelude.{ℕ, List, [], ◌∷◌, Option, Result, ◌⊎◌}
use Rattle.der_core.specs.declared.fault.Fault.{Fault}
use Rattle.der_core.specs.AlgorithmReading.{algorithm_in}
use Rattle.der_grammar.specs.Table.{id_signed_data}
use Rattle.der_core.specs.Values.{AlgorithmValue}
use Rattle.der_core.specs.Reading.{Spot, spot, within, maybe, last, ◌then◌, whole_of, made, any_at, oid_in, version_in}
use Rattle.der_core.specs.Reading.{many_in, switched}
use Rattle.der_lists.specs.Items.{explicit_opaque_in}
use Rattle.der_lists.specs.Checked.{tagged_in}
use Rattle.cms_types.specs.SignerValue.{SignerValue}
use Rattle.cms_types.specs.SignerReading.{signer_in}
use Rattle.cms_types.specs.SignedDataValue.{EncapsulatedValue, SignedDataValue, ContentInfoValue, SignedContent}
use Rattle.cms_types.specs.SignedDataValue.{OtherContent, certificate_tags, crl_tags}

-- an element that contains one OCTET STRING, whose contents are read
unfoldable pub explicit_octets_in : Spot → Result (List ℕ) Fault
explicit_octets_in s = whole_of (within 0x04 any_at) s

abbrev pub encapsulated_from : List ℕ × Option (List ℕ) → EncapsulatedValue
encapsulated_from p = record { content_type = p.0; content = p.1 }

unfoldable pub encapsulated_in : Spot → Result EncapsulatedValue Fault
encapsulated_in s = made encapsulated_from (whole_of (within 0x06 oid_in then last 0xa0 explicit_octets_in)) s

abbrev pub algorithms_in : Spot → Result (List AlgorithmValue) Fault
algorithms_in s = many_in (within 0x30 algorithm_in) s

abbrev pub signers_in : Spot → Result (List SignerValue) Fault
signers_in s = many_in (within 0x30 signer_in) s

abbrev pub SignedDataParts : Type 0
SignedDataParts = List ℕ × (List AlgorithmValue
    × (EncapsulatedValue × (Option (List (List ℕ)) × (Option (List (List ℕ)) × List SignerValue))))

abbrev pub signed_data_from : SignedDataParts → SignedDataValue
signed_data_from p = record {
  version = p.0;
  digest_algorithms = p.1.0;
  encapsulated = p.1.1.0;
  certificates = p.1.1.1.0;
  crls = p.1.1.1.1.0;
  signers = p.1.1.1.1.1;
}

unfoldable pub signed_data_in : Spot → Result SignedDataValue Fault
signed_data_in s = made signed_data_from (whole_of (within 0x02 (version_in (1 ∷ 3 ∷ 4 ∷ 5 ∷ []))
    then within 0x31 algorithms_in then within 0x30 encapsulated_in
    then maybe 0xa0 (tagged_in certificate_tags) then maybe 0xa1 (tagged_in crl_tags) then within 0x31 signers_in)) s

-- an element that contains one SEQUENCE, the SignedData
unfoldable pub explicit_signed_data_in : Spot → Result SignedDataValue Fault
explicit_signed_data_in s = whole_of (within 0x30 signed_data_in) s

unfoldable pub signed_content_in : Spot → Result SignedDataValue Fault
signed_content_in s = whole_of (within 0xa0 explicit_signed_data_in) s

unfoldable pub other_content_in : Spot → Result (List ℕ) Fault
other_content_in s = whole_of (within 0xa0 explicit_opaque_in) s

abbrev pub content_info_from : SignedDataValue ⊎ (List ℕ × List ℕ) → ContentInfoValue
content_info_from (inl v) = SignedContent v
content_info_from (inr p) = OtherContent p.0 p.1

unfoldable pub content_info_in : Spot → Result ContentInfoValue Fault
content_info_in s = made content_info_from (switched 6 oid_in id_signed_data signed_content_in other_content_in) s

unfoldable pub content_info_at : List ℕ → Result ContentInfoValue Fault
content_info_at bytes = whole_of (within 0x30 content_info_in) (spot 0 bytes)
