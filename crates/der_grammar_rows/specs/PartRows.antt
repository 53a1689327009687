-- Worked rows: faults of each part of the table. The contents of a part that is passed over have no effect on the
-- result, so most are empty.
use Rattle.std.specs.Prelude.{[]}
use Rattle.der_core.specs.declared.fault.Kind.TheVariants as kind
use Rattle.der_core.specs.Hex.{hex}
use Rattle.der_core.specs.Faults.{Faults}
use Rattle.der_core.specs.Grammar.{algorithm}
use Rattle.der_grammar.specs.Table.{content_info, signed_data, encap, signer_info, signed_attribute, unsigned_attribute}
use Rattle.der_grammar.specs.Table.{extension, certificate, tbs_certificate, validity, tst_info, imprint, request}
use Rattle.der_grammar.specs.Table.{response, status, signing_certificate, signing_certificate_v2, ess_id, ess_id_v2}
use Rattle.der_grammar.specs.Table.{issuer_serial, accuracy}
use Rattle.der_grammar_rows.specs.FaultRows.{fault}

-- if a part that must be present is missing, what is due after it comes too early, or the octets end
pub record MissingPartRows : Type 0 where
  -- a ContentInfo without its type, without the [0] after it, and without content in it, of a SignedData and of another
  -- type
  pub no_content_info_type : Faults content_info [] (fault kind.End 0)
  pub no_content_info_content : Faults content_info (hex "0603 2a0304") (fault kind.End 5)
  pub no_content_info_signed : Faults content_info (hex "0609 2a864886f70d010702") (fault kind.End 11)
  pub no_content_info_inner : Faults content_info (hex "0603 2a0304 a000") (fault kind.End 7)
  pub no_content_info_signed_inner : Faults content_info (hex "0609 2a864886f70d010702 a000") (fault kind.End 13)
  -- a SignedData without version, digest algorithms, content and signers
  pub no_signed_version : Faults signed_data (hex "3100") (fault kind.Tag 0)
  pub no_signed_algorithms : Faults signed_data (hex "0201 01 3000") (fault kind.Tag 3)
  pub no_signed_content : Faults signed_data (hex "0201 01 3100 3100") (fault kind.Tag 5)
  pub no_signed_signers : Faults signed_data (hex "0201 01 3100 3003 0601 2a") (fault kind.End 10)
  -- content without its type, and an eContent without octets
  pub no_content_type : Faults encap [] (fault kind.End 0)
  pub no_content_octets : Faults encap (hex "0601 2a a000") (fault kind.End 5)
  -- a signer without version, name, digest algorithm, signature algorithm and signature, and without the parts of a
  -- name
  pub no_signer_version : Faults signer_info (hex "8000") (fault kind.Tag 0)
  pub no_signer_name : Faults signer_info (hex "0201 01") (fault kind.End 3)
  pub no_signer_issuer : Faults signer_info (hex "0201 01 3003 0201 05") (fault kind.Tag 5)
  pub no_signer_number : Faults signer_info (hex "0201 01 3004 3000 0400") (fault kind.Tag 7)
  pub no_signer_digest_algorithm : Faults signer_info (hex "0201 01 8000 0400") (fault kind.Tag 5)
  pub no_signer_algorithm : Faults signer_info (hex "0201 01 8000 3000 0400") (fault kind.Tag 7)
  pub no_signer_signature : Faults signer_info (hex "0201 01 8000 3003 0601 2a 3003 0601 2a") (fault kind.End 15)
  -- attributes without type and values
  pub no_signed_attribute_type : Faults signed_attribute (hex "3100") (fault kind.Tag 0)
  pub no_signed_attribute_values : Faults signed_attribute (hex "0601 2a") (fault kind.End 3)
  pub no_unsigned_attribute_type : Faults unsigned_attribute (hex "3100") (fault kind.Tag 0)
  pub no_unsigned_attribute_values : Faults unsigned_attribute (hex "0601 2a") (fault kind.End 3)
  -- an algorithm without identifier, and an extension without identifier and value
  pub no_algorithm_identifier : Faults algorithm [] (fault kind.End 0)
  pub no_extension_identifier : Faults extension (hex "0400") (fault kind.Tag 0)
  pub no_extension_value : Faults extension (hex "0601 2a") (fault kind.End 3)
  -- a certificate without its fields, algorithm and signature
  pub no_certificate_fields : Faults certificate [] (fault kind.End 0)
  pub no_certificate_algorithm : Faults certificate (hex "3000 0300") (fault kind.Tag 2)
  pub no_certificate_signature : Faults certificate (hex "3000 3003 0601 2a") (fault kind.End 7)
  -- its fields without number, algorithm, issuer, validity, subject and key; with an empty version, and with empty
  -- extensions
  pub no_certificate_version : Faults tbs_certificate (hex "a000 0201 07") (fault kind.End 2)
  pub no_certificate_number : Faults tbs_certificate (hex "3000") (fault kind.Tag 0)
  pub no_certificate_inner_algorithm : Faults tbs_certificate (hex "0201 07") (fault kind.End 3)
  pub no_certificate_issuer : Faults tbs_certificate (hex "0201 07 3003 0601 2a") (fault kind.End 8)
  pub no_certificate_validity : Faults tbs_certificate (hex "0201 07 3003 0601 2a 3000") (fault kind.End 10)
  pub no_certificate_subject : Faults tbs_certificate (hex "0201 07 3003 0601 2a 3000 3001 1f") (fault kind.End 13)
  pub no_certificate_key : Faults tbs_certificate (hex "0201 07 3003 0601 2a 3000 3001 1f 3000") (fault kind.End 15)
  pub no_certificate_extensions_inner : Faults tbs_certificate
      (hex "0201 07 3000 3000 3000 3000 3000 a300") (fault kind.End 15)
  -- a validity without begin and end
  pub no_validity_begin : Faults validity [] (fault kind.End 0)
  pub no_validity_end : Faults validity (hex "1700") (fault kind.End 2)
  -- a TSTInfo without version, policy, imprint, number and time, and with an empty authority
  pub no_stamp_version : Faults tst_info (hex "0601 2a") (fault kind.Tag 0)
  pub no_stamp_policy : Faults tst_info (hex "0201 01 3000") (fault kind.Tag 3)
  pub no_stamp_imprint : Faults tst_info (hex "0201 01 0601 2a 0201 09") (fault kind.Tag 6)
  pub no_stamp_number : Faults tst_info (hex "0201 01 0601 2a 3000 1800") (fault kind.Tag 8)
  pub no_stamp_time : Faults tst_info (hex "0201 01 0601 2a 3000 0201 09") (fault kind.End 11)
  pub no_stamp_authority : Faults tst_info (hex "0201 01 0601 2a 3000 0201 09 1800 a000") (fault kind.End 15)
  -- an imprint without algorithm and digest, a request without version and imprint, an answer without status, and a
  -- status without its number
  pub no_imprint_algorithm : Faults imprint (hex "0400") (fault kind.Tag 0)
  pub no_imprint_digest : Faults imprint (hex "3003 0601 2a") (fault kind.End 5)
  pub no_request_version : Faults request (hex "3000") (fault kind.Tag 0)
  pub no_request_imprint : Faults request (hex "0201 01") (fault kind.End 3)
  pub no_response_status : Faults response [] (fault kind.End 0)
  pub no_status_number : Faults status [] (fault kind.End 0)
  -- names of certificates: none at all, without digest, and without issuer and number
  pub no_signing_names : Faults signing_certificate [] (fault kind.End 0)
  pub no_signing_v2_names : Faults signing_certificate_v2 [] (fault kind.End 0)
  pub no_digest : Faults ess_id [] (fault kind.End 0)
  pub no_digest_v2 : Faults ess_id_v2 [] (fault kind.End 0)
  pub no_digest_of_algorithm : Faults ess_id_v2 (hex "3003 0601 2a") (fault kind.End 5)
  pub no_issuer : Faults issuer_serial (hex "0201 01") (fault kind.Tag 0)
  pub no_number : Faults issuer_serial (hex "3000") (fault kind.End 2)

-- the contents of each part must be of the form of that part
pub record InnerPartRows : Type 0 where
  -- ContentInfo and SignedData
  pub ill_content_info_type : Faults content_info (hex "0600") (fault kind.Oid 2)
  pub ill_content_info_signed : Faults content_info
      (hex "0609 2a864886f70d010702 a004 3002 0200") (fault kind.Integer 17)
  pub ill_content_info_other : Faults content_info (hex "0603 2a0304 a001 1f") (fault kind.HighTag 7)
  pub ill_signed_version : Faults signed_data (hex "0200") (fault kind.Integer 2)
  pub ill_signed_algorithms : Faults signed_data (hex "0201 01 3104 3002 0600") (fault kind.Oid 9)
  pub ill_signed_content : Faults signed_data (hex "0201 01 3100 3002 0600") (fault kind.Oid 9)
  pub ill_signed_certificates : Faults signed_data (hex "0201 01 3100 3000 a002 a400") (fault kind.Tag 9)
  pub ill_signed_revocations : Faults signed_data (hex "0201 01 3100 3000 a102 a000") (fault kind.Tag 9)
  pub ill_signed_signers : Faults signed_data (hex "0201 01 3100 3000 3104 3002 0200") (fault kind.Integer 13)
  pub ill_content_type : Faults encap (hex "0600") (fault kind.Oid 2)
  pub ill_content_octets : Faults encap (hex "0601 2a a002 0500") (fault kind.Tag 5)
  -- signers and attributes
  pub ill_signer_version : Faults signer_info (hex "0200") (fault kind.Integer 2)
  pub ill_signer_number : Faults signer_info (hex "0201 01 3004 3000 0200") (fault kind.Integer 9)
  pub ill_signer_digest_algorithm : Faults signer_info (hex "0201 01 8000 3002 0600") (fault kind.Oid 9)
  pub ill_signer_signed_attributes : Faults signer_info (hex "0201 01 8000 3000 a004 3002 0600") (fault kind.Oid 13)
  pub ill_signer_algorithm : Faults signer_info (hex "0201 01 8000 3000 3002 0600") (fault kind.Oid 11)
  pub ill_signer_unsigned_attributes : Faults signer_info
      (hex "0201 01 8000 3000 3000 0400 a104 3002 0600") (fault kind.Oid 17)
  pub ill_signed_attribute_type : Faults signed_attribute (hex "0600") (fault kind.Oid 2)
  pub ill_signed_attribute_values : Faults signed_attribute (hex "0601 2a 3101 1f") (fault kind.HighTag 5)
  pub ill_unsigned_attribute_type : Faults unsigned_attribute (hex "0600") (fault kind.Oid 2)
  pub ill_unsigned_attribute_values : Faults unsigned_attribute (hex "0601 2a 3101 1f") (fault kind.HighTag 5)
  -- certificates
  pub ill_certificate_fields : Faults certificate (hex "3002 0200") (fault kind.Integer 4)
  pub ill_certificate_algorithm : Faults certificate (hex "3000 3002 0600") (fault kind.Oid 6)
  pub ill_certificate_signature : Faults certificate (hex "3000 3000 0300") (fault kind.Bits 6)
  pub ill_certificate_version : Faults tbs_certificate (hex "a002 0200") (fault kind.Integer 4)
  pub ill_certificate_number : Faults tbs_certificate (hex "0200") (fault kind.Integer 2)
  pub ill_certificate_inner_algorithm : Faults tbs_certificate (hex "0201 07 3002 0600") (fault kind.Oid 7)
  pub ill_certificate_validity : Faults tbs_certificate (hex "0201 07 3000 3000 3002 1700") (fault kind.Time 11)
  pub ill_certificate_issuer_identifier : Faults tbs_certificate
      (hex "0201 07 3000 3000 3000 3000 3000 8100") (fault kind.Bits 15)
  pub ill_certificate_subject_identifier : Faults tbs_certificate
      (hex "0201 07 3000 3000 3000 3000 3000 8200") (fault kind.Bits 15)
  pub ill_certificate_extension : Faults tbs_certificate
      (hex "0201 07 3000 3000 3000 3000 3000 a306 3004 3002 0600") (fault kind.Oid 21)
  pub ill_validity_begin : Faults validity (hex "1700") (fault kind.Time 2)
  pub ill_validity_generalized_begin : Faults validity (hex "1800") (fault kind.Time 2)
  pub ill_validity_end : Faults validity (hex "1700 1700") (fault kind.Time 4)
  pub ill_validity_generalized_end : Faults validity (hex "1700 1800") (fault kind.Time 4)
  pub ill_algorithm_identifier : Faults algorithm (hex "0600") (fault kind.Oid 2)
  pub ill_algorithm_parameters : Faults algorithm (hex "0601 2a 1f") (fault kind.HighTag 3)
  pub ill_extension_identifier : Faults extension (hex "0600") (fault kind.Oid 2)
  pub ill_extension_critical : Faults extension (hex "0601 2a 0100") (fault kind.Boolean 5)
  -- time-stamps, requests and answers
  pub ill_stamp_version : Faults tst_info (hex "0200") (fault kind.Integer 2)
  pub ill_stamp_policy : Faults tst_info (hex "0201 01 0600") (fault kind.Oid 5)
  pub ill_stamp_imprint : Faults tst_info (hex "0201 01 0601 2a 3004 3002 0600") (fault kind.Oid 12)
  pub ill_stamp_number : Faults tst_info (hex "0201 01 0601 2a 3000 0200") (fault kind.Integer 10)
  pub ill_stamp_time : Faults tst_info (hex "0201 01 0601 2a 3000 0201 09 1800") (fault kind.Time 13)
  pub ill_stamp_accuracy : Faults tst_info (hex "0201 01 0601 2a 3000 0201 09 1800 3002 0200") (fault kind.Integer 17)
  pub ill_stamp_ordering : Faults tst_info (hex "0201 01 0601 2a 3000 0201 09 1800 0100") (fault kind.Boolean 15)
  pub ill_stamp_nonce : Faults tst_info (hex "0201 01 0601 2a 3000 0201 09 1800 0200") (fault kind.Integer 15)
  pub ill_stamp_authority : Faults tst_info (hex "0201 01 0601 2a 3000 0201 09 1800 a001 1f") (fault kind.HighTag 15)
  pub ill_stamp_extension : Faults tst_info (hex "0201 01 0601 2a 3000 0201 09 1800 a104 3002 0600") (fault kind.Oid 19)
  pub ill_seconds : Faults accuracy (hex "0200") (fault kind.Integer 2)
  pub ill_millis : Faults accuracy (hex "8000") (fault kind.Integer 2)
  pub ill_micros : Faults accuracy (hex "8100") (fault kind.Integer 2)
  pub ill_imprint_algorithm : Faults imprint (hex "3002 0600") (fault kind.Oid 4)
  pub ill_request_version : Faults request (hex "0200") (fault kind.Integer 2)
  pub ill_request_imprint : Faults request (hex "0201 01 3004 3002 0600") (fault kind.Oid 9)
  pub ill_request_policy : Faults request (hex "0201 01 3000 0600") (fault kind.Oid 7)
  pub ill_request_nonce : Faults request (hex "0201 01 3000 0200") (fault kind.Integer 7)
  pub ill_request_flag : Faults request (hex "0201 01 3000 0100") (fault kind.Boolean 7)
  pub ill_request_extension : Faults request (hex "0201 01 3000 a004 3002 0600") (fault kind.Oid 11)
  pub ill_response_status : Faults response (hex "3002 0200") (fault kind.Integer 4)
  pub ill_status_number : Faults status (hex "0200") (fault kind.Integer 2)
  pub ill_status_text : Faults status (hex "0201 00 3002 3000") (fault kind.Tag 5)
  pub ill_status_bits : Faults status (hex "0201 00 0300") (fault kind.Bits 5)
  -- names of certificates
  pub ill_signing_name : Faults signing_certificate (hex "3004 3002 0500") (fault kind.Tag 4)
  pub ill_signing_v2_name : Faults signing_certificate_v2 (hex "3004 3002 0500") (fault kind.Tag 4)
  pub ill_issuer_and_number : Faults ess_id (hex "0400 3004 3000 0200") (fault kind.Integer 8)
  pub ill_digest_algorithm : Faults ess_id_v2 (hex "3002 0600") (fault kind.Oid 4)
  pub ill_issuer_and_number_v2 : Faults ess_id_v2 (hex "0400 3004 3000 0200") (fault kind.Integer 8)
  pub ill_issuer : Faults issuer_serial (hex "3001 1f") (fault kind.HighTag 2)
  pub ill_number : Faults issuer_serial (hex "3000 0200") (fault kind.Integer 4)

-- each part that may be absent may be present at most once
pub record SecondPartRows : Type 0 where
  -- SignedData, content, signers, algorithms and extensions
  pub second_signed_certificates : Faults signed_data (hex "0201 01 3100 3000 a000 a000") (fault kind.Tag 9)
  pub second_signed_revocations : Faults signed_data (hex "0201 01 3100 3000 a100 a100") (fault kind.Tag 9)
  pub second_content : Faults encap (hex "0601 2a a000 a000") (fault kind.Trailing 5)
  pub second_signer_signed_attributes : Faults signer_info (hex "0201 01 8000 3000 a000 a000") (fault kind.Tag 9)
  pub second_signer_unsigned_attributes : Faults signer_info (hex "0201 01 8000 3000 3000 0400 a100 a100")
      (fault kind.Trailing 13)
  pub second_algorithm_parameters : Faults algorithm (hex "0601 2a 0500 0500") (fault kind.Trailing 5)
  pub second_extension_critical : Faults extension (hex "0601 2a 0100 0100") (fault kind.Tag 5)
  -- certificates
  pub second_certificate_version : Faults tbs_certificate (hex "a000 a000") (fault kind.Tag 2)
  pub second_certificate_issuer_identifier : Faults tbs_certificate
      (hex "0201 07 3000 3000 3000 3000 3000 8100 8100") (fault kind.Tag 15)
  pub second_certificate_subject_identifier : Faults tbs_certificate
      (hex "0201 07 3000 3000 3000 3000 3000 8200 8200") (fault kind.Tag 15)
  pub second_certificate_extensions_list : Faults tbs_certificate (hex "0201 07 3000 3000 3000 3000 3000 a300 a300")
      (fault kind.Trailing 15)
  -- time-stamps, requests and answers
  pub second_stamp_accuracy : Faults tst_info (hex "0201 01 0601 2a 3000 0201 09 1800 3000 3000") (fault kind.Tag 15)
  pub second_stamp_ordering : Faults tst_info (hex "0201 01 0601 2a 3000 0201 09 1800 0100 0100") (fault kind.Tag 15)
  pub second_stamp_nonce : Faults tst_info (hex "0201 01 0601 2a 3000 0201 09 1800 0200 0200") (fault kind.Tag 15)
  pub second_stamp_authority : Faults tst_info (hex "0201 01 0601 2a 3000 0201 09 1800 a000 a000") (fault kind.Tag 15)
  pub second_stamp_extensions : Faults tst_info (hex "0201 01 0601 2a 3000 0201 09 1800 a100 a100")
      (fault kind.Trailing 15)
  pub second_seconds : Faults accuracy (hex "0200 0200") (fault kind.Tag 2)
  pub second_millis : Faults accuracy (hex "8000 8000") (fault kind.Tag 2)
  pub second_micros : Faults accuracy (hex "8100 8100") (fault kind.Trailing 2)
  pub second_request_policy : Faults request (hex "0201 01 3000 0600 0600") (fault kind.Tag 7)
  pub second_request_nonce : Faults request (hex "0201 01 3000 0200 0200") (fault kind.Tag 7)
  pub second_request_flag : Faults request (hex "0201 01 3000 0100 0100") (fault kind.Tag 7)
  pub second_request_extensions : Faults request (hex "0201 01 3000 a000 a000") (fault kind.Trailing 7)
  pub second_status_texts : Faults status (hex "0201 00 3000 3000") (fault kind.Tag 5)
  pub second_status_bits : Faults status (hex "0201 00 0300 0300") (fault kind.Trailing 5)
  pub second_token : Faults response (hex "3000 3000 3000") (fault kind.Trailing 4)
  -- names of certificates
  pub second_signing_policies : Faults signing_certificate (hex "3000 3000 3000") (fault kind.Trailing 4)
  pub second_signing_v2_policies : Faults signing_certificate_v2 (hex "3000 3000 3000") (fault kind.Trailing 4)
  pub second_issuer_and_number : Faults ess_id (hex "0400 3000 3000") (fault kind.Trailing 4)
  pub second_digest_algorithm : Faults ess_id_v2 (hex "3000 3000") (fault kind.Tag 2)
  pub second_issuer_and_number_v2 : Faults ess_id_v2 (hex "0400 3000 3000") (fault kind.Trailing 4)

-- nothing may follow the last part; if that part may be absent, the rows above show this with a second one
pub record LastPartRows : Type 0 where
  -- ContentInfo, SignedData, signers and attributes
  pub behind_content_info : Faults content_info (hex "0603 2a0304 a000 0500") (fault kind.Trailing 7)
  pub behind_content_info_inner : Faults content_info (hex "0603 2a0304 a004 0500 0500") (fault kind.Trailing 9)
  pub behind_content_info_signed : Faults content_info (hex "0609 2a864886f70d010702 a000 0500")
      (fault kind.Trailing 13)
  pub behind_content_info_signed_inner : Faults content_info (hex "0609 2a864886f70d010702 a004 3000 0500")
      (fault kind.Trailing 15)
  pub behind_signed : Faults signed_data (hex "0201 01 3100 3000 3100 0500") (fault kind.Trailing 9)
  pub behind_content_octets : Faults encap (hex "0601 2a a004 0400 0500") (fault kind.Trailing 7)
  pub behind_signer_number : Faults signer_info (hex "0201 01 3006 3000 0200 0500") (fault kind.Trailing 9)
  pub behind_signed_attribute : Faults signed_attribute (hex "0601 2a 3100 0500") (fault kind.Trailing 5)
  pub behind_unsigned_attribute : Faults unsigned_attribute (hex "0601 2a 3100 0500") (fault kind.Trailing 5)
  -- certificates, extensions and their names
  pub behind_certificate : Faults certificate (hex "3000 3000 0300 0500") (fault kind.Trailing 6)
  pub behind_certificate_version : Faults tbs_certificate (hex "a005 0201 00 0500") (fault kind.Trailing 5)
  pub behind_certificate_extensions : Faults tbs_certificate (hex "0201 07 3000 3000 3000 3000 3000 a304 3000 0500")
      (fault kind.Trailing 17)
  pub behind_validity : Faults validity (hex "1700 1700 0500") (fault kind.Trailing 4)
  pub behind_extension : Faults extension (hex "0601 2a 0400 0500") (fault kind.Trailing 5)
  pub behind_issuer_and_number : Faults issuer_serial (hex "3000 0200 0500") (fault kind.Trailing 4)
  -- time-stamps
  pub behind_imprint : Faults imprint (hex "3000 0400 0500") (fault kind.Trailing 4)
  pub behind_stamp_authority : Faults tst_info (hex "0201 01 0601 2a 3000 0201 09 1800 a004 0500 0500")
      (fault kind.Trailing 17)
