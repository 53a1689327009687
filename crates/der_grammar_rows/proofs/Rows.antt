-- The worked rows hold, by computing. For a row that is new in `specs/` add a line here: `encodes _ _ refl` if it says
-- that octets are an encoding, `found _ _ FAULT refl` if it states a fault, `not_encoded _ _ FAULT refl refl` if it
-- says that octets are no encoding, with any fault that they have, and `found_openly _ _ FAULT STEPS refl` or
-- `stated_at _ _ _ _ STEPS refl refl refl` for a beginning, with the steps that lead to the place.
use Rattle.std.proofs.Common.{[], ◌∷◌, refl, inl, inr, lit<}
use Rattle.der_core.specs.declared.fault.Kind.TheVariants as kind
use Rattle.der_core.specs.Element.{len}
use Rattle.der_grammar_rows.specs.SizeRows.{SizeRows}
use Rattle.der_grammar_rows.specs.FaultRows.{fault, HeaderFaultRows, PartFaultRows, ContentsFaultRows}
use Rattle.der_grammar_rows.specs.PartRows.{MissingPartRows, InnerPartRows, SecondPartRows, LastPartRows}
use Rattle.der_grammar_rows.specs.EncodingRows.{StampEncodingRows, CertificateEncodingRows, SignedEncodingRows}
use Rattle.der_grammar_rows.specs.NoEncodingRows.{NoEncodingRows}
use Rattle.der_grammar_rows.specs.OpenRows.{OpenRows}
use Rattle.der_core.proofs.Encoded.{encodes}
use Rattle.der_core.proofs.Found.{found, not_encoded}
use Rattle.der_core.proofs.FoundOpenly.{stated_at, found_openly, over, into, without}

pub size_rows : SizeRows
unfolding len
size_rows = record {
  of_request = refl;
  of_time_stamp = refl;
  of_token = refl;
  of_signer_certificate = refl;
  of_stamping_certificate = refl;
  of_two_usages = refl;
  of_signed_file = refl;
  of_exchanged_file = refl;
  of_emptily_stamped_file = refl;
  of_stamped_file = refl;
}

pub header_fault_rows : HeaderFaultRows
unfolding len
header_fault_rows = record {
  nothing = found _ _ (fault kind.End 0) refl;
  no_length = found _ _ (fault kind.End 1) refl;
  no_further_length = found _ _ (fault kind.End 2) refl;
  half_length = found _ _ (fault kind.End 3) refl;
  most_of_length = found _ _ (fault kind.End 5) refl;
  no_imprint = found _ _ (fault kind.End 5) refl;
  high_tag = found _ _ (fault kind.HighTag 0) refl;
  high_tag_constructed = found _ _ (fault kind.HighTag 0) refl;
  zero_tag = found _ _ (fault kind.HighTag 0) refl;
  zero_tag_inside = found _ _ (fault kind.HighTag 12) refl;
  indefinite = found _ _ (fault kind.Indefinite 1) refl;
  long_form = found _ _ (fault kind.LengthForm 1) refl;
  long_form_of_127 = found _ _ (fault kind.LengthForm 1) refl;
  zero_length = found _ _ (fault kind.LengthForm 1) refl;
  five_lengths_stand = found _ _ (fault kind.LengthForm 1) refl;
  five_lengths = found _ _ (fault kind.LengthForm 1) refl;
  overrun = found _ _ (fault kind.Overrun 0) refl;
  longest = found _ _ (fault kind.Overrun 0) refl;
  overrun_inside = found _ _ (fault kind.Overrun 14) refl;
}

pub part_fault_rows : PartFaultRows
unfolding len
part_fault_rows = record {
  other_tag = found _ _ (fault kind.Tag 0) refl;
  undue_tag = found _ _ (fault kind.Tag 14) refl;
  late_nonce = found _ _ (fault kind.Tag 17) refl;
  second_flag = found _ _ (fault kind.Tag 17) refl;
  other_member = found _ _ (fault kind.Tag 0) refl;
  no_signed_data = found _ _ (fault kind.Tag 15) refl;
  other_certificate = found _ _ (fault kind.Tag 0) refl;
  other_revocation = found _ _ (fault kind.Tag 0) refl;
  other_name = found _ _ (fault kind.Tag 3) refl;
  no_content = found _ _ (fault kind.End 7) refl;
  trailing = found _ _ (fault kind.Trailing 59) refl;
  trailing_element = found _ _ (fault kind.Trailing 59) refl;
  trailing_inside = found _ _ (fault kind.Trailing 14) refl;
  order = found _ _ (fault kind.Order 8) refl;
  order_of_three = found _ _ (fault kind.Order 11) refl;
  exchanged = found _ _ (fault kind.Order 148) refl;
  exchanged_and_more = found _ _ (fault kind.Order 148) refl;
  empty = found _ _ (fault kind.Empty 19) refl;
  empty_signed = found _ _ (fault kind.Empty 12) refl;
  emptily_stamped = found _ _ (fault kind.Empty 187) refl;
}

pub contents_fault_rows : ContentsFaultRows
unfolding len
contents_fault_rows = record {
  ill_integer = found _ _ (fault kind.Integer 4) refl;
  ill_negative = found _ _ (fault kind.Integer 4) refl;
  empty_integer = found _ _ (fault kind.Integer 4) refl;
  ill_oid = found _ _ (fault kind.Oid 11) refl;
  ill_boolean = found _ _ (fault kind.Boolean 16) refl;
  ill_bits = found _ _ (fault kind.Bits 9) refl;
  unused_bit = found _ _ (fault kind.Bits 9) refl;
  ill_time = found _ _ (fault kind.Time 66) refl;
  ill_begin = found _ _ (fault kind.Time 2) refl;
  ill_end = found _ _ (fault kind.Time 17) refl;
  time_of_other_type = found _ _ (fault kind.Time 2) refl;
  time_of_other_length = found _ _ (fault kind.Time 2) refl;
  request_of_version_0 = found _ _ (fault kind.Value 4) refl;
  request_of_version_2 = found _ _ (fault kind.Value 4) refl;
  request_of_version_256 = found _ _ (fault kind.Value 4) refl;
  time_stamp_of_version_0 = found _ _ (fault kind.Value 4) refl;
  time_stamp_of_version_2 = found _ _ (fault kind.Value 4) refl;
  certificate_of_version_3 = found _ _ (fault kind.Value 8) refl;
  signed_of_version_0 = found _ _ (fault kind.Value 2) refl;
  signed_of_version_2 = found _ _ (fault kind.Value 2) refl;
  signed_of_version_6 = found _ _ (fault kind.Value 2) refl;
  signer_of_version_0 = found _ _ (fault kind.Value 2) refl;
  signer_of_version_2 = found _ _ (fault kind.Value 2) refl;
  signer_of_version_4 = found _ _ (fault kind.Value 2) refl;
  second_identifier = found _ _ (fault kind.Value 9) refl;
  second_usage = found _ _ (fault kind.Value 9) refl;
  later_usage = found _ _ (fault kind.Value 16) refl;
  second_ill = found _ _ (fault kind.Boolean 18) refl;
  two_usages = found _ _ (fault kind.Value 122) refl;
}

pub missing_part_rows : MissingPartRows
unfolding len
missing_part_rows = record {
  no_content_info_type = found _ _ (fault kind.End 0) refl;
  no_content_info_content = found _ _ (fault kind.End 5) refl;
  no_content_info_signed = found _ _ (fault kind.End 11) refl;
  no_content_info_inner = found _ _ (fault kind.End 7) refl;
  no_content_info_signed_inner = found _ _ (fault kind.End 13) refl;
  no_signed_version = found _ _ (fault kind.Tag 0) refl;
  no_signed_algorithms = found _ _ (fault kind.Tag 3) refl;
  no_signed_content = found _ _ (fault kind.Tag 5) refl;
  no_signed_signers = found _ _ (fault kind.End 10) refl;
  no_content_type = found _ _ (fault kind.End 0) refl;
  no_content_octets = found _ _ (fault kind.End 5) refl;
  no_signer_version = found _ _ (fault kind.Tag 0) refl;
  no_signer_name = found _ _ (fault kind.End 3) refl;
  no_signer_issuer = found _ _ (fault kind.Tag 5) refl;
  no_signer_number = found _ _ (fault kind.Tag 7) refl;
  no_signer_digest_algorithm = found _ _ (fault kind.Tag 5) refl;
  no_signer_algorithm = found _ _ (fault kind.Tag 7) refl;
  no_signer_signature = found _ _ (fault kind.End 15) refl;
  no_signed_attribute_type = found _ _ (fault kind.Tag 0) refl;
  no_signed_attribute_values = found _ _ (fault kind.End 3) refl;
  no_unsigned_attribute_type = found _ _ (fault kind.Tag 0) refl;
  no_unsigned_attribute_values = found _ _ (fault kind.End 3) refl;
  no_algorithm_identifier = found _ _ (fault kind.End 0) refl;
  no_extension_identifier = found _ _ (fault kind.Tag 0) refl;
  no_extension_value = found _ _ (fault kind.End 3) refl;
  no_certificate_fields = found _ _ (fault kind.End 0) refl;
  no_certificate_algorithm = found _ _ (fault kind.Tag 2) refl;
  no_certificate_signature = found _ _ (fault kind.End 7) refl;
  no_certificate_version = found _ _ (fault kind.End 2) refl;
  no_certificate_number = found _ _ (fault kind.Tag 0) refl;
  no_certificate_inner_algorithm = found _ _ (fault kind.End 3) refl;
  no_certificate_issuer = found _ _ (fault kind.End 8) refl;
  no_certificate_validity = found _ _ (fault kind.End 10) refl;
  no_certificate_subject = found _ _ (fault kind.End 13) refl;
  no_certificate_key = found _ _ (fault kind.End 15) refl;
  no_certificate_extensions_inner = found _ _ (fault kind.End 15) refl;
  no_validity_begin = found _ _ (fault kind.End 0) refl;
  no_validity_end = found _ _ (fault kind.End 2) refl;
  no_stamp_version = found _ _ (fault kind.Tag 0) refl;
  no_stamp_policy = found _ _ (fault kind.Tag 3) refl;
  no_stamp_imprint = found _ _ (fault kind.Tag 6) refl;
  no_stamp_number = found _ _ (fault kind.Tag 8) refl;
  no_stamp_time = found _ _ (fault kind.End 11) refl;
  no_stamp_authority = found _ _ (fault kind.End 15) refl;
  no_imprint_algorithm = found _ _ (fault kind.Tag 0) refl;
  no_imprint_digest = found _ _ (fault kind.End 5) refl;
  no_request_version = found _ _ (fault kind.Tag 0) refl;
  no_request_imprint = found _ _ (fault kind.End 3) refl;
  no_response_status = found _ _ (fault kind.End 0) refl;
  no_status_number = found _ _ (fault kind.End 0) refl;
  no_signing_names = found _ _ (fault kind.End 0) refl;
  no_signing_v2_names = found _ _ (fault kind.End 0) refl;
  no_digest = found _ _ (fault kind.End 0) refl;
  no_digest_v2 = found _ _ (fault kind.End 0) refl;
  no_digest_of_algorithm = found _ _ (fault kind.End 5) refl;
  no_issuer = found _ _ (fault kind.Tag 0) refl;
  no_number = found _ _ (fault kind.End 2) refl;
}

pub inner_part_rows : InnerPartRows
unfolding len
inner_part_rows = record {
  ill_content_info_type = found _ _ (fault kind.Oid 2) refl;
  ill_content_info_signed = found _ _ (fault kind.Integer 17) refl;
  ill_content_info_other = found _ _ (fault kind.HighTag 7) refl;
  ill_signed_version = found _ _ (fault kind.Integer 2) refl;
  ill_signed_algorithms = found _ _ (fault kind.Oid 9) refl;
  ill_signed_content = found _ _ (fault kind.Oid 9) refl;
  ill_signed_certificates = found _ _ (fault kind.Tag 9) refl;
  ill_signed_revocations = found _ _ (fault kind.Tag 9) refl;
  ill_signed_signers = found _ _ (fault kind.Integer 13) refl;
  ill_content_type = found _ _ (fault kind.Oid 2) refl;
  ill_content_octets = found _ _ (fault kind.Tag 5) refl;
  ill_signer_version = found _ _ (fault kind.Integer 2) refl;
  ill_signer_number = found _ _ (fault kind.Integer 9) refl;
  ill_signer_digest_algorithm = found _ _ (fault kind.Oid 9) refl;
  ill_signer_signed_attributes = found _ _ (fault kind.Oid 13) refl;
  ill_signer_algorithm = found _ _ (fault kind.Oid 11) refl;
  ill_signer_unsigned_attributes = found _ _ (fault kind.Oid 17) refl;
  ill_signed_attribute_type = found _ _ (fault kind.Oid 2) refl;
  ill_signed_attribute_values = found _ _ (fault kind.HighTag 5) refl;
  ill_unsigned_attribute_type = found _ _ (fault kind.Oid 2) refl;
  ill_unsigned_attribute_values = found _ _ (fault kind.HighTag 5) refl;
  ill_certificate_fields = found _ _ (fault kind.Integer 4) refl;
  ill_certificate_algorithm = found _ _ (fault kind.Oid 6) refl;
  ill_certificate_signature = found _ _ (fault kind.Bits 6) refl;
  ill_certificate_version = found _ _ (fault kind.Integer 4) refl;
  ill_certificate_number = found _ _ (fault kind.Integer 2) refl;
  ill_certificate_inner_algorithm = found _ _ (fault kind.Oid 7) refl;
  ill_certificate_validity = found _ _ (fault kind.Time 11) refl;
  ill_certificate_issuer_identifier = found _ _ (fault kind.Bits 15) refl;
  ill_certificate_subject_identifier = found _ _ (fault kind.Bits 15) refl;
  ill_certificate_extension = found _ _ (fault kind.Oid 21) refl;
  ill_validity_begin = found _ _ (fault kind.Time 2) refl;
  ill_validity_generalized_begin = found _ _ (fault kind.Time 2) refl;
  ill_validity_end = found _ _ (fault kind.Time 4) refl;
  ill_validity_generalized_end = found _ _ (fault kind.Time 4) refl;
  ill_algorithm_identifier = found _ _ (fault kind.Oid 2) refl;
  ill_algorithm_parameters = found _ _ (fault kind.HighTag 3) refl;
  ill_extension_identifier = found _ _ (fault kind.Oid 2) refl;
  ill_extension_critical = found _ _ (fault kind.Boolean 5) refl;
  ill_stamp_version = found _ _ (fault kind.Integer 2) refl;
  ill_stamp_policy = found _ _ (fault kind.Oid 5) refl;
  ill_stamp_imprint = found _ _ (fault kind.Oid 12) refl;
  ill_stamp_number = found _ _ (fault kind.Integer 10) refl;
  ill_stamp_time = found _ _ (fault kind.Time 13) refl;
  ill_stamp_accuracy = found _ _ (fault kind.Integer 17) refl;
  ill_stamp_ordering = found _ _ (fault kind.Boolean 15) refl;
  ill_stamp_nonce = found _ _ (fault kind.Integer 15) refl;
  ill_stamp_authority = found _ _ (fault kind.HighTag 15) refl;
  ill_stamp_extension = found _ _ (fault kind.Oid 19) refl;
  ill_seconds = found _ _ (fault kind.Integer 2) refl;
  ill_millis = found _ _ (fault kind.Integer 2) refl;
  ill_micros = found _ _ (fault kind.Integer 2) refl;
  ill_imprint_algorithm = found _ _ (fault kind.Oid 4) refl;
  ill_request_version = found _ _ (fault kind.Integer 2) refl;
  ill_request_imprint = found _ _ (fault kind.Oid 9) refl;
  ill_request_policy = found _ _ (fault kind.Oid 7) refl;
  ill_request_nonce = found _ _ (fault kind.Integer 7) refl;
  ill_request_flag = found _ _ (fault kind.Boolean 7) refl;
  ill_request_extension = found _ _ (fault kind.Oid 11) refl;
  ill_response_status = found _ _ (fault kind.Integer 4) refl;
  ill_status_number = found _ _ (fault kind.Integer 2) refl;
  ill_status_text = found _ _ (fault kind.Tag 5) refl;
  ill_status_bits = found _ _ (fault kind.Bits 5) refl;
  ill_signing_name = found _ _ (fault kind.Tag 4) refl;
  ill_signing_v2_name = found _ _ (fault kind.Tag 4) refl;
  ill_issuer_and_number = found _ _ (fault kind.Integer 8) refl;
  ill_digest_algorithm = found _ _ (fault kind.Oid 4) refl;
  ill_issuer_and_number_v2 = found _ _ (fault kind.Integer 8) refl;
  ill_issuer = found _ _ (fault kind.HighTag 2) refl;
  ill_number = found _ _ (fault kind.Integer 4) refl;
}

pub second_part_rows : SecondPartRows
unfolding len
second_part_rows = record {
  second_signed_certificates = found _ _ (fault kind.Tag 9) refl;
  second_signed_revocations = found _ _ (fault kind.Tag 9) refl;
  second_content = found _ _ (fault kind.Trailing 5) refl;
  second_signer_signed_attributes = found _ _ (fault kind.Tag 9) refl;
  second_signer_unsigned_attributes = found _ _ (fault kind.Trailing 13) refl;
  second_algorithm_parameters = found _ _ (fault kind.Trailing 5) refl;
  second_extension_critical = found _ _ (fault kind.Tag 5) refl;
  second_certificate_version = found _ _ (fault kind.Tag 2) refl;
  second_certificate_issuer_identifier = found _ _ (fault kind.Tag 15) refl;
  second_certificate_subject_identifier = found _ _ (fault kind.Tag 15) refl;
  second_certificate_extensions_list = found _ _ (fault kind.Trailing 15) refl;
  second_stamp_accuracy = found _ _ (fault kind.Tag 15) refl;
  second_stamp_ordering = found _ _ (fault kind.Tag 15) refl;
  second_stamp_nonce = found _ _ (fault kind.Tag 15) refl;
  second_stamp_authority = found _ _ (fault kind.Tag 15) refl;
  second_stamp_extensions = found _ _ (fault kind.Trailing 15) refl;
  second_seconds = found _ _ (fault kind.Tag 2) refl;
  second_millis = found _ _ (fault kind.Tag 2) refl;
  second_micros = found _ _ (fault kind.Trailing 2) refl;
  second_request_policy = found _ _ (fault kind.Tag 7) refl;
  second_request_nonce = found _ _ (fault kind.Tag 7) refl;
  second_request_flag = found _ _ (fault kind.Tag 7) refl;
  second_request_extensions = found _ _ (fault kind.Trailing 7) refl;
  second_status_texts = found _ _ (fault kind.Tag 5) refl;
  second_status_bits = found _ _ (fault kind.Trailing 5) refl;
  second_token = found _ _ (fault kind.Trailing 4) refl;
  second_signing_policies = found _ _ (fault kind.Trailing 4) refl;
  second_signing_v2_policies = found _ _ (fault kind.Trailing 4) refl;
  second_issuer_and_number = found _ _ (fault kind.Trailing 4) refl;
  second_digest_algorithm = found _ _ (fault kind.Tag 2) refl;
  second_issuer_and_number_v2 = found _ _ (fault kind.Trailing 4) refl;
}

pub last_part_rows : LastPartRows
unfolding len
last_part_rows = record {
  behind_content_info = found _ _ (fault kind.Trailing 7) refl;
  behind_content_info_inner = found _ _ (fault kind.Trailing 9) refl;
  behind_content_info_signed = found _ _ (fault kind.Trailing 13) refl;
  behind_content_info_signed_inner = found _ _ (fault kind.Trailing 15) refl;
  behind_signed = found _ _ (fault kind.Trailing 9) refl;
  behind_content_octets = found _ _ (fault kind.Trailing 7) refl;
  behind_signer_number = found _ _ (fault kind.Trailing 9) refl;
  behind_signed_attribute = found _ _ (fault kind.Trailing 5) refl;
  behind_unsigned_attribute = found _ _ (fault kind.Trailing 5) refl;
  behind_certificate = found _ _ (fault kind.Trailing 6) refl;
  behind_certificate_version = found _ _ (fault kind.Trailing 5) refl;
  behind_certificate_extensions = found _ _ (fault kind.Trailing 17) refl;
  behind_validity = found _ _ (fault kind.Trailing 4) refl;
  behind_extension = found _ _ (fault kind.Trailing 5) refl;
  behind_issuer_and_number = found _ _ (fault kind.Trailing 4) refl;
  behind_imprint = found _ _ (fault kind.Trailing 4) refl;
  behind_stamp_authority = found _ _ (fault kind.Trailing 17) refl;
}

pub stamp_encoding_rows : StampEncodingRows
unfolding len
stamp_encoding_rows = record {
  usual_request = encodes _ _ refl;
  request_with_all = encodes _ _ refl;
  request_with_least = encodes _ _ refl;
  request_with_no_extension = encodes _ _ refl;
  usual_time_stamp = encodes _ _ refl;
  time_stamp_with_all = encodes _ _ refl;
  time_stamp_with_no_accuracy = encodes _ _ refl;
  usual_response = encodes _ _ refl;
  response_with_all = encodes _ _ refl;
  response_with_least = encodes _ _ refl;
  response_with_no_text = encodes _ _ refl;
}

pub certificate_encoding_rows : CertificateEncodingRows
unfolding len
certificate_encoding_rows = record {
  of_signer = encodes _ _ refl;
  of_authority = encodes _ _ refl;
  certificate_with_all = encodes _ _ refl;
  certificate_with_least = encodes _ _ refl;
  certificate_of_version_0 = encodes _ _ refl;
  certificate_of_version_1 = encodes _ _ refl;
  certificate_with_no_extension = encodes _ _ refl;
  signing_by_digest = encodes _ _ refl;
  signing_with_all = encodes _ _ refl;
  issuer_of_no_name = encodes _ _ refl;
  issuer_of_two_names = encodes _ _ refl;
  signing_with_policy = encodes _ _ refl;
  signing_v2_with_policy = encodes _ _ refl;
  signing_with_least = encodes _ _ refl;
  signing_v2_by_digest = encodes _ _ refl;
  signing_v2_with_all = encodes _ _ refl;
  signing_v2_with_least = encodes _ _ refl;
}

pub signed_encoding_rows : SignedEncodingRows
unfolding len
signed_encoding_rows = record {
  signed = encodes _ _ refl;
  stamped = encodes _ _ refl;
  token = encodes _ _ refl;
  signed_with_all = encodes _ _ refl;
  signed_of_version_1 = encodes _ _ refl;
  signed_of_version_3 = encodes _ _ refl;
  signed_of_version_4 = encodes _ _ refl;
  signed_of_version_5 = encodes _ _ refl;
  signed_with_certificate = encodes _ _ refl;
  signed_with_no_certificate = encodes _ _ refl;
  signer_of_version_1 = encodes _ _ refl;
  signer_of_version_3 = encodes _ _ refl;
  equal_values = encodes _ _ refl;
  three_values = encodes _ _ refl;
  no_value = encodes _ _ refl;
  list_behind = encodes _ _ refl;
  other_type = encodes _ _ refl;
  longer_type = encodes _ _ refl;
}

pub no_encoding_rows : NoEncodingRows
unfolding len
no_encoding_rows = record {
  nothing = not_encoded _ _ (fault kind.End 0) refl refl;
  trailing = not_encoded _ _ (fault kind.Trailing 59) refl refl;
  cut = not_encoded _ _ (fault kind.Overrun 0) refl refl;
  request_of_version_2 = not_encoded _ _ (fault kind.Value 4) refl refl;
  long_form = not_encoded _ _ (fault kind.LengthForm 1) refl refl;
  long_form_inside = not_encoded _ _ (fault kind.LengthForm 13) refl refl;
  indefinite = not_encoded _ _ (fault kind.Indefinite 1) refl refl;
  late_nonce = not_encoded _ _ (fault kind.Tag 17) refl refl;
  zero_tag = not_encoded _ _ (fault kind.HighTag 12) refl refl;
  high_tag = not_encoded _ _ (fault kind.HighTag 12) refl refl;
  early_ordering = not_encoded _ _ (fault kind.Tag 84) refl refl;
  idle_fraction = not_encoded _ _ (fault kind.Time 66) refl refl;
  second_token = not_encoded _ _ (fault kind.Trailing 9) refl refl;
  two_usages = not_encoded _ _ (fault kind.Value 122) refl refl;
  three_times = not_encoded _ _ (fault kind.Trailing 46) refl refl;
  exchanged = not_encoded _ _ (fault kind.Order 148) refl refl;
  emptily_stamped = not_encoded _ _ (fault kind.Empty 187) refl refl;
  short_outside = not_encoded _ _ (fault kind.Overrun 14) refl refl;
  signed_of_version_2 = not_encoded _ _ (fault kind.Value 19) refl refl;
  no_signers = not_encoded _ _ (fault kind.End 27) refl refl;
  two_contents = not_encoded _ _ (fault kind.Trailing 11) refl refl;
  no_digest = not_encoded _ _ (fault kind.End 6) refl refl;
  no_digest_v2 = not_encoded _ _ (fault kind.Tag 6) refl refl;
}

pub open_rows : OpenRows
unfolding len
open_rows = record {
  content_type = stated_at _ _ _ _ (into ∷ over ∷ into ∷ into ∷ over ∷ over ∷ into ∷ []) refl refl refl;
  signer_infos_header =
      stated_at _ _ _ _ (into ∷ over ∷ into ∷ into ∷ over ∷ over ∷ over ∷ without ∷ without ∷ []) refl refl refl;
  too_large = inr (
    11,
    488,
    stated_at _ _ _ _ (into ∷ over ∷ into ∷ into ∷ over ∷ over ∷ into ∷ []) refl refl refl,
    stated_at _ _ _ _ (into ∷ over ∷ into ∷ into ∷ over ∷ over ∷ over ∷ without ∷ without ∷ []) refl refl refl,
    lit< tt,
  );
  type_too_large =
      inl (11, stated_at _ _ _ _ (into ∷ over ∷ into ∷ into ∷ over ∷ over ∷ into ∷ []) refl refl refl, lit< tt);
  cut_exchanged = found_openly _ _ (fault kind.Order 148)
      (into ∷ over ∷ into ∷ into ∷ over ∷ over ∷ over ∷ without ∷ without ∷ into ∷ into ∷ over ∷ over ∷ over ∷ into
      ∷ over ∷ []) refl;
  cut = found _ _ (fault kind.Overrun 0) refl;
  cut_version = found_openly _ _ (fault kind.Value 25) (into ∷ over ∷ into ∷ into ∷ into ∷ []) refl;
  begun_overrun = found_openly _ _ (fault kind.Overrun 5) (into ∷ over ∷ []) refl;
  begun = found_openly _ _ (fault kind.End 15) (into ∷ over ∷ into ∷ []) refl;
}
