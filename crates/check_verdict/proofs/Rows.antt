-- The worked rows hold.
use Rattle.std.proofs.Common.{◌≡◌, ℕ, zero, suc, nat_lt, true, List, [], ◌∷◌, None, refl, arith}
use Rattle.std.proofs.lemmas.Bool.{ltb-true}
use Rattle.der_core.specs.Element.{len, IsBytes}
use Rattle.der_core.specs.Lists.{every}
use Rattle.der_grammar.specs.Vectors.{signer_certificate, stamping_certificate, time_stamp, time_stamp_token}
use Rattle.der_grammar.specs.Vectors.{signed_file, stamped_file}
use Rattle.der_core.specs.AlgorithmReading.{algorithm_in}
use Rattle.der_core.specs.Flags.{flag_at}
use Rattle.der_core.specs.Reading.{further_at, length_at, next_at, expect_at, enter_at, end_at, element_at, optional_at}
use Rattle.der_core.specs.Reading.{none_at, opaque_at, many_from, many_in}
use Rattle.der_core.proofs.Refuted.{and_true}
use Rattle.der_lists.specs.Checked.{checked_from, checked_in, rank_at, tag_at}
use Rattle.der_lists.specs.Items.{opaque_item, opaque_front, front_at}
use Rattle.der_time.specs.TimeReading.{time_at}
use Rattle.cert_types.specs.CertificateReading.{validity_in, explicit_version_in, explicit_extensions_in, tbs_in}
use Rattle.cert_types.specs.CertificateReading.{certificate_in, certificate_at}
use Rattle.cert_types.specs.DistinctExtensions.{distinct_from}
use Rattle.cert_types.specs.ExtensionReading.{extension_in}
use Rattle.cert_types.proofs.CertificateReaders.{certificate_takes}
use Rattle.cms_types.specs.AttributeReading.{attribute_in, signed_attribute_in}
use Rattle.cms_types.specs.SignerReading.{issuer_and_serial_in, sid_at, signer_in}
use Rattle.cms_types.specs.SignedDataValue.{SignedContent, EncodesSignedData}
use Rattle.cms_types.specs.SignedDataReading.{explicit_octets_in, encapsulated_in, signed_data_in}
use Rattle.cms_types.specs.SignedDataReading.{explicit_signed_data_in, signed_content_in, content_info_in}
use Rattle.cms_types.specs.SignedDataReading.{content_info_at}
use Rattle.cms_types.proofs.SignedDataReaders.{content_takes}
use Rattle.tsp_types.specs.ImprintReading.{imprint_in}
use Rattle.tsp_types.specs.TstValue.{EncodesTst}
use Rattle.tsp_types.specs.TstReading.{accuracy_in, tst_in, tst_at}
use Rattle.tsp_types.proofs.TstReaders.{tst_takes}
use Rattle.check_names.specs.NamingRows.{of_authority}
use Rattle.check_verdict.specs.Rows.{of_signer, tst, token_data, file_data, stamps, early_stamp, early_tst, early_token}
use Rattle.check_verdict.specs.Rows.{early_data, twice_stamped_file}
use Rattle.check_verdict.specs.Rows.{both_stamps, ValueRows}

-- ---- octets

pub below_256 : (bytes : List ℕ) → every (λ b. nat_lt b 256) bytes ≡ true → IsBytes bytes
below_256 [] h i = omega arith
below_256 (b ∷ bytes) h zero = ltb-true b 256 (and_true (nat_lt b 256) (every (λ c. nat_lt c 256) bytes) h).0
below_256 (b ∷ bytes) h (suc i) = below_256 bytes (and_true (nat_lt b 256) (every (λ c. nat_lt c 256) bytes) h).1 i

pub value_rows : ValueRows
unfolding len algorithm_in flag_at further_at length_at next_at expect_at enter_at end_at element_at optional_at none_at
    opaque_at many_from many_in
    checked_from checked_in rank_at tag_at opaque_item opaque_front front_at
    time_at validity_in explicit_version_in explicit_extensions_in tbs_in certificate_in certificate_at distinct_from
    extension_in attribute_in
    signed_attribute_in issuer_and_serial_in sid_at signer_in
    explicit_octets_in encapsulated_in signed_data_in explicit_signed_data_in signed_content_in content_info_in
    content_info_at imprint_in
    accuracy_in tst_in tst_at
value_rows = record {
  reads_signer = certificate_takes signer_certificate of_signer (below_256 signer_certificate refl) refl;
  reads_authority = certificate_takes stamping_certificate of_authority (below_256 stamping_certificate refl) refl;
  reads_time_stamp = tst_takes time_stamp tst (below_256 time_stamp refl) refl;
  reads_token = content_takes time_stamp_token (SignedContent token_data) (below_256 time_stamp_token refl) refl;
  reads_signed_file = content_takes signed_file (SignedContent (file_data None)) (below_256 signed_file refl) refl;
  reads_stamped_file = content_takes stamped_file (SignedContent (file_data stamps)) (below_256 stamped_file refl) refl;
}

-- an earlier token, and a file that has both
both_read : EncodesSignedData early_token early_data × EncodesSignedData twice_stamped_file (file_data both_stamps)
unfolding len algorithm_in further_at length_at next_at expect_at enter_at end_at element_at none_at opaque_at many_from
    many_in checked_from
    checked_in rank_at tag_at opaque_item opaque_front front_at
    attribute_in signed_attribute_in issuer_and_serial_in sid_at signer_in explicit_octets_in encapsulated_in
    signed_data_in explicit_signed_data_in
    signed_content_in content_info_in content_info_at
both_read = (
  content_takes early_token (SignedContent early_data) (below_256 early_token refl) refl,
  content_takes twice_stamped_file (SignedContent (file_data both_stamps)) (below_256 twice_stamped_file refl) refl,
)

pub early_reads : EncodesSignedData early_token early_data
early_reads = both_read.0

pub twice_reads : EncodesSignedData twice_stamped_file (file_data both_stamps)
twice_reads = both_read.1

pub early_stamp_reads : EncodesTst early_stamp early_tst
unfolding len algorithm_in flag_at further_at length_at next_at expect_at enter_at end_at element_at none_at opaque_at
    many_from many_in opaque_item
    imprint_in accuracy_in tst_in tst_at
early_stamp_reads = tst_takes early_stamp early_tst (below_256 early_stamp refl) refl
