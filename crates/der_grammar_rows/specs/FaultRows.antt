-- Worked rows: inputs with a fault, for each kind at least one. Most are requests, which are short, or fields of one
-- part of the table.
use Rattle.std.specs.Prelude.{ℕ, [], ◌++◌, drop, codes}
use Rattle.der_core.specs.declared.fault.Fault.{Fault}
use Rattle.der_core.specs.declared.fault.Kind.{Kind}
use Rattle.der_core.specs.declared.fault.Kind.TheVariants as kind
use Rattle.der_core.specs.Hex.{hex}
use Rattle.der_grammar.specs.Vectors.{imprint_of_abc, time_stamp_request, stamping_certificate_with_two_usages}
use Rattle.der_grammar.specs.Vectors.{signed_file, exchanged_file, emptily_stamped_file}
use Rattle.der_core.specs.Faults.{Faults}
use Rattle.der_core.specs.Grammar.{file}
use Rattle.der_grammar.specs.Table.{request, tst_info, response, certificate, validity, certificate_extensions}
use Rattle.der_grammar.specs.Table.{content_info, signed_data, cert_choices, crl_choices, signer_info, signed_attribute}

abbrev pub fault : Kind → ℕ → Fault
fault k n = record { kind = k; at = n }

-- identifiers and lengths
pub record HeaderFaultRows : Type 0 where
  -- no octets: an identifier is missing
  pub nothing : Faults (file request) [] (fault kind.End 0)
  -- a length octet is missing
  pub no_length : Faults (file request) (hex "30") (fault kind.End 1)
  -- the further length octet is missing
  pub no_further_length : Faults (file request) (hex "3081") (fault kind.End 2)
  -- the second of two further length octets is missing
  pub half_length : Faults (file request) (hex "308201") (fault kind.End 3)
  -- the last of four further length octets is missing
  pub most_of_length : Faults (file request) (hex "3084 010203") (fault kind.End 5)
  -- the SEQUENCE ends after its version
  pub no_imprint : Faults (file request) (hex "3003 0201 01") (fault kind.End 5)
  -- an identifier whose low five bits are all one
  pub high_tag : Faults (file request) (hex "1f") (fault kind.HighTag 0)
  -- such an identifier of a constructed element
  pub high_tag_constructed : Faults (file request) (hex "bf") (fault kind.HighTag 0)
  -- the identifier 00
  pub zero_tag : Faults (file request) (hex "00") (fault kind.HighTag 0)
  -- 00 in place of parameters, which may have any identifier
  pub zero_tag_inside : Faults (file request) (hex "300e 0201 01 3009 3005 0601 2a 0000 0400") (fault kind.HighTag 12)
  -- the indefinite form
  pub indefinite : Faults (file request) (hex "3080") (fault kind.Indefinite 1)
  -- 5 in a further length octet, though the first length octet would hold it
  pub long_form : Faults (file request) (hex "3081 05 0000000000") (fault kind.LengthForm 1)
  -- the same for 127, the greatest length that the first octet would hold
  pub long_form_of_127 : Faults (file request) (hex "3081 7f") (fault kind.LengthForm 1)
  -- a first further length octet of 00, before any octets
  pub zero_length : Faults (file request) (hex "3082 00") (fault kind.LengthForm 1)
  -- five further length octets, whether they are present or not
  pub five_lengths : Faults (file request) (hex "3085") (fault kind.LengthForm 1)
  pub five_lengths_stand : Faults (file request) (hex "3085 0100000000") (fault kind.LengthForm 1)
  -- a SEQUENCE of five octets, of which three are present
  pub overrun : Faults (file request) (hex "3005 0201 01") (fault kind.Overrun 0)
  -- a SEQUENCE of the greatest length, of which no octet is present
  pub longest : Faults (file request) (hex "3084 ffffffff") (fault kind.Overrun 0)
  -- the signed file with an outer length that is one too short, so that an element inside goes past it
  pub overrun_inside : Faults (file content_info) (hex "3081b6" ++ drop 3 signed_file) (fault kind.Overrun 14)

-- parts in a place where they may not be, or not as they may be
pub record PartFaultRows : Type 0 where
  -- a SET where a request is due, though its length is missing
  pub other_tag : Faults (file request) (hex "31") (fault kind.Tag 0)
  -- an optional part of a TSTInfo in a request, where only extensions or the end may follow
  pub undue_tag : Faults (file request) (hex "300e 0201 01 3007 3003 0601 2a 0400 a100") (fault kind.Tag 14)
  -- a nonce after certReq
  pub late_nonce : Faults (file request) (hex "3012 0201 01 3007 3003 0601 2a 0400 0101 ff 0201 05") (fault kind.Tag 17)
  -- certReq twice
  pub second_flag : Faults (file request) (hex "3012 0201 01 3007 3003 0601 2a 0400 0101 ff 0101 ff")
      (fault kind.Tag 17)
  -- a SET in a list of extensions
  pub other_member : Faults certificate_extensions (hex "31") (fault kind.Tag 0)
  -- a SET where a SignedData is due because of the type before it
  pub no_signed_data : Faults (file content_info) (hex "300f 0609 2a864886f70d010702 a002 3100") (fault kind.Tag 15)
  -- certificates and revocation lists of no known choice
  pub other_certificate : Faults cert_choices (hex "a400") (fault kind.Tag 0)
  pub other_revocation : Faults crl_choices (hex "a000") (fault kind.Tag 0)
  -- a signer that is named neither by issuer nor by key identifier
  pub other_name : Faults signer_info (hex "0201 01 8100") (fault kind.Tag 3)
  -- a ContentInfo with a type and without content
  pub no_content : Faults (file content_info) (hex "3005 0603 2a0304") (fault kind.End 7)
  -- a request and 00 after it
  pub trailing : Faults (file request) (time_stamp_request ++ hex "00") (fault kind.Trailing 59)
  -- a request and NULL after it
  pub trailing_element : Faults (file request) (time_stamp_request ++ hex "0500") (fault kind.Trailing 59)
  -- an imprint with NULL after its digest
  pub trailing_inside : Faults (file request) (hex "300e 0201 01 3009 3003 0601 2a 0400 0500") (fault kind.Trailing 14)
  -- the two values of a signed attribute out of byte order
  pub order : Faults signed_attribute (hex "0601 2a 3106 0201 02 0201 01") (fault kind.Order 8)
  -- three values, of which the last is less than the second only
  pub order_of_three : Faults signed_attribute (hex "0601 2a 3109 0201 01 0201 03 0201 02") (fault kind.Order 11)
  -- the signed file with its two signed attributes exchanged
  pub exchanged : Faults (file content_info) exchanged_file (fault kind.Order 148)
  -- the same and 00 after it
  pub exchanged_and_more : Faults (file content_info) (exchanged_file ++ hex "00") (fault kind.Order 148)
  -- a signer whose unsigned attributes have no member
  pub empty : Faults (file signer_info) (hex "3013 0201 01 8000 3003 0601 2a 3003 0601 2a 0400 a100")
      (fault kind.Empty 19)
  -- a signer whose signed attributes have no member
  pub empty_signed : Faults (file signer_info)
      (hex "3013 0201 01 8000 3003 0601 2a a000 3003 0601 2a 0400") (fault kind.Empty 12)
  -- the signed file with unsigned attributes that have no member
  pub emptily_stamped : Faults (file content_info) emptily_stamped_file (fault kind.Empty 187)

-- contents that aren't of their type, or that have a value that is not allowed
pub record ContentsFaultRows : Type 0 where
  -- a version with a needless octet 00, with a needless octet ff, and without an octet
  pub ill_integer : Faults (file request) (hex "3004 0202 0001") (fault kind.Integer 4)
  pub ill_negative : Faults (file request) (hex "3004 0202 ff80") (fault kind.Integer 4)
  pub empty_integer : Faults (file request) (hex "3002 0200") (fault kind.Integer 4)
  -- an algorithm whose identifier doesn't end
  pub ill_oid : Faults (file request) (hex "300a 0201 01 3005 3003 0601 80") (fault kind.Oid 11)
  -- a flag that is neither 00 nor ff
  pub ill_boolean : Faults (file request) (hex "300f 0201 01 3007 3003 0601 2a 0400 0101 05") (fault kind.Boolean 16)
  -- fail bits of which eight are unused, and fail bits of which an unused one is set
  pub ill_bits : Faults (file response) (hex "3009 3007 0201 00 0302 0800") (fault kind.Bits 9)
  pub unused_bit : Faults (file response) (hex "3009 3007 0201 00 0302 0101") (fault kind.Bits 9)
  -- a time-stamp of 30 February
  pub ill_time : Faults (file tst_info) (hex "304f 0201 01 0603 883703" ++ imprint_of_abc ++ hex "0201 09 180f"
      ++ codes "20240230100000Z") (fault kind.Time 66)
  -- a certificate that is valid from 31 June
  pub ill_begin : Faults validity (hex "170d" ++ codes "240631000000Z") (fault kind.Time 2)
  -- a certificate that is valid until 31 June
  pub ill_end : Faults validity (hex "170d" ++ codes "240601000000Z" ++ hex "170d"
      ++ codes "240631000000Z") (fault kind.Time 17)
  -- a UTCTime with the identifier of a GeneralizedTime, and the other way round
  pub time_of_other_type : Faults validity (hex "180d" ++ codes "240101000000Z") (fault kind.Time 2)
  pub time_of_other_length : Faults validity (hex "170f" ++ codes "20240101000000Z") (fault kind.Time 2)
  -- requests and time-stamps of versions 0 and 2, and of a version that has two octets
  pub request_of_version_0 : Faults (file request) (hex "3003 0201 00") (fault kind.Value 4)
  pub request_of_version_2 : Faults (file request) (hex "3003 0201 02") (fault kind.Value 4)
  pub request_of_version_256 : Faults (file request) (hex "3004 0202 0100") (fault kind.Value 4)
  pub time_stamp_of_version_0 : Faults (file tst_info) (hex "3003 0201 00") (fault kind.Value 4)
  pub time_stamp_of_version_2 : Faults (file tst_info) (hex "3003 0201 02") (fault kind.Value 4)
  -- a certificate of version 4, which is written 3
  pub certificate_of_version_3 : Faults (file certificate) (hex "3007 3005 a003 0201 03") (fault kind.Value 8)
  -- a SignedData of versions 0, 2 and 6
  pub signed_of_version_0 : Faults signed_data (hex "0201 00") (fault kind.Value 2)
  pub signed_of_version_2 : Faults signed_data (hex "0201 02") (fault kind.Value 2)
  pub signed_of_version_6 : Faults signed_data (hex "0201 06") (fault kind.Value 2)
  -- a signer of versions 0, 2 and 4
  pub signer_of_version_0 : Faults signer_info (hex "0201 00") (fault kind.Value 2)
  pub signer_of_version_2 : Faults signer_info (hex "0201 02") (fault kind.Value 2)
  pub signer_of_version_4 : Faults signer_info (hex "0201 04") (fault kind.Value 2)
  -- a second subjectKeyIdentifier (2.5.29.14)
  pub second_identifier : Faults certificate_extensions
      (hex "3007 0603 551d0e 0400 3007 0603 551d0e 0400") (fault kind.Value 9)
  -- a second extendedKeyUsage (2.5.29.37), also after another extension
  pub second_usage : Faults certificate_extensions (hex "3007 0603 551d25 0400 3007 0603 551d25 0400")
      (fault kind.Value 9)
  pub later_usage : Faults certificate_extensions
      (hex "3007 0603 551d25 0400 3005 0601 2a 0400 3007 0603 551d25 0400") (fault kind.Value 16)
  -- a second subjectKeyIdentifier whose value is malformed
  pub second_ill : Faults certificate_extensions (hex "3007 0603 551d0e 0400 300a 0603 551d0e 0101 05 0400")
      (fault kind.Boolean 18)
  -- the stamping certificate with its extendedKeyUsage twice
  pub two_usages : Faults (file certificate) stamping_certificate_with_two_usages (fault kind.Value 122)
