-- Worked rows: inputs that are encodings, and so have no fault. For each type one with every optional part, one with
-- none, and each version.
use Rattle.std.specs.Prelude.{◌++◌, codes}
use Rattle.der_core.specs.Hex.{hex}
use Rattle.der_grammar.specs.Vectors.{january_2024, signer_certificate, stamping_certificate, time_stamp_request}
use Rattle.der_grammar.specs.Vectors.{time_stamp, certificate_named, certificate_named_v2, time_stamp_token}
use Rattle.der_grammar.specs.Vectors.{signed_file, stamped_file}
use Rattle.der_core.specs.Form.{opaque}
use Rattle.der_core.specs.Encoding.{IsEncoding}
use Rattle.der_core.specs.Grammar.{one, ordered, integer, file}
use Rattle.der_grammar.specs.Table.{request, tst_info, response, certificate, content_info, signed_data, signer_info}
use Rattle.der_grammar.specs.Table.{signed_attribute, issuer_serial, signing_certificate, signing_certificate_v2}

-- time-stamps
pub record StampEncodingRows : Type 0 where
  -- the request that a client sends
  pub usual_request : IsEncoding (file request) time_stamp_request
  -- with a policy, a nonce, certReq spelled false, and two extensions
  pub request_with_all : IsEncoding (file request)
      (hex "3034 0201 01 300a 3005 0601 2a 0500 0401 61 0601 2a 0201 05 0101 00"
      ++ hex "a01a 300b 0603 551d25 0101 ff 0401 61 300b 0603 551d25 0101 ff 0401 61")
  -- with none of these, and an algorithm without parameters
  pub request_with_least : IsEncoding (file request) (hex "300c 0201 01 3007 3003 0601 2a 0400")
  -- with an empty list of extensions
  pub request_with_no_extension : IsEncoding (file request) (hex "300e 0201 01 3007 3003 0601 2a 0400 a000")
  -- what an authority attests, with no optional part
  pub usual_time_stamp : IsEncoding (file tst_info) time_stamp
  -- with the three parts of an accuracy, an ordering, a nonce, the authority's name and an extension
  pub time_stamp_with_all : IsEncoding (file tst_info)
      (hex "3046 0201 01 0601 2a 300a 3005 0601 2a 0500 0401 61 0201 09 1811" ++ codes "20240115100000.5Z"
      ++ hex "3009 0201 01 8001 02 8101 03 0101 ff 0201 07 a002 a400 a107 3005 0601 2a 0400")
  -- with an accuracy that has no parts
  pub time_stamp_with_no_accuracy : IsEncoding (file tst_info)
      (hex "302a 0201 01 0601 2a 300a 3005 0601 2a 0500 0401 61 0201 09 1811"
      ++ codes "20240115100000.5Z" ++ hex "3000")
  -- an answer that grants the token
  pub usual_response : IsEncoding (file response) (hex "30820150 3003 0201 00" ++ time_stamp_token)
  -- an answer with two texts, fail bits and a token
  pub response_with_all : IsEncoding (file response) (hex "3011 300d 0201 00 3005 0c01 61 0c00 0301 00 3000")
  -- with none of these
  pub response_with_least : IsEncoding (file response) (hex "3005 3003 0201 00")
  -- with an empty list of texts, and a token
  pub response_with_no_text : IsEncoding (file response) (hex "3009 3005 0201 02 3000 3000")

-- certificates
pub record CertificateEncodingRows : Type 0 where
  -- the signer's certificate has no version, no identifiers and no extensions
  pub of_signer : IsEncoding (file certificate) signer_certificate
  -- the authority's is of version 2, which means the third, and has an extension
  pub of_authority : IsEncoding (file certificate) stamping_certificate
  -- with every part, both kinds of time, each extension that may occur once, and another one twice
  pub certificate_with_all : IsEncoding (file certificate)
      (hex "3076 306a a003 0201 02 0201 07 3005 0601 2a 0500 3000 3022 170d" ++ codes "240101000000Z"
      ++ hex "1811" ++ codes "20240115100000.5Z"
      ++ hex "3000 3000 8101 00 8201 00 a329 3027 300b 0603 551d25 0101 ff 0401 61"
      ++ hex "300a 0603 551d0e 0101 00 0400 3005 0601 2a 0400 3005 0601 2a 0400 3005 0601 2a 0500 0301 00")
  -- with no part that may be absent
  pub certificate_with_least : IsEncoding (file certificate)
      (hex "3038 302e 0201 07 3003 0601 2a 3000" ++ january_2024 ++ hex "3000 3000 3003 0601 2a 0301 00")
  -- of version 0, with the kinds of time the other way round
  pub certificate_of_version_0 : IsEncoding (file certificate)
      (hex "3045 3039 a003 0201 00 0201 07 3005 0601 2a 0500 3000 3022 1811"
      ++ codes "20240115100000.5Z" ++ hex "170d" ++ codes "240101000000Z" ++ hex "3000 3000 3005 0601 2a 0500 0301 00")
  -- the same for version 1
  pub certificate_of_version_1 : IsEncoding (file certificate)
      (hex "3045 3039 a003 0201 01 0201 07 3005 0601 2a 0500 3000 3022 1811"
      ++ codes "20240115100000.5Z" ++ hex "170d" ++ codes "240101000000Z" ++ hex "3000 3000 3005 0601 2a 0500 0301 00")
  -- with an empty list of extensions
  pub certificate_with_no_extension : IsEncoding (file certificate)
      (hex "3041 3037 a003 0201 02 0201 07 3003 0601 2a 3000" ++ january_2024
      ++ hex "3000 3000 a302 3000 3003 0601 2a 0301 00")
  -- a certificate named by its SHA-1 digest alone
  pub signing_by_digest : IsEncoding (file signing_certificate) certificate_named
  -- a certificate that is named by digest, issuer and serial number, a second certificate, and policies
  pub signing_with_all : IsEncoding (file signing_certificate)
      (hex "3018 3014 300e 0401 61 3009 3004 a402 3000 0201 01 3002 0400 3000")
  -- an issuer without a name, and one with two names
  pub issuer_of_no_name : IsEncoding issuer_serial (hex "3000 0201 01")
  pub issuer_of_two_names : IsEncoding issuer_serial (hex "3004 a400 a200 0201 01")
  -- no certificates, and no policies
  pub signing_with_least : IsEncoding (file signing_certificate) (hex "3002 3000")
  -- the second version: a certificate named by its SHA-256 digest alone
  pub signing_v2_by_digest : IsEncoding (file signing_certificate_v2) certificate_named_v2
  -- a certificate that is named by a digest with its algorithm spelled out, issuer and serial number, a second
  -- certificate, and policies
  pub signing_v2_with_all : IsEncoding (file signing_certificate_v2)
      (hex "301f 301b 3015 3005 0601 2a 0500 0401 61 3009 3004 a402 3000 0201 01 3002 0400 3000")
  -- no certificates, and a policy, in both versions
  pub signing_with_policy : IsEncoding (file signing_certificate) (hex "3009 3000 3005 3003 0601 2a")
  pub signing_v2_with_policy : IsEncoding (file signing_certificate_v2) (hex "3009 3000 3005 3003 0601 2a")
  -- no certificates, and no policies
  pub signing_v2_with_least : IsEncoding (file signing_certificate_v2) (hex "3002 3000")

-- signed files and tokens
pub record SignedEncodingRows : Type 0 where
  -- a file that is signed and not stamped
  pub signed : IsEncoding (file content_info) signed_file
  -- the same with a token among its signer's unsigned attributes
  pub stamped : IsEncoding (file content_info) stamped_file
  -- that token by itself
  pub token : IsEncoding (file content_info) time_stamp_token
  -- a SignedData of version 5 with two digest algorithms, content, each choice of certificates and of revocation lists,
  -- and two signers: one of version 1 that is named by issuer and serial number, and one of version 3 that is named by
  -- a key identifier, each with signed and unsigned attributes. The values of a signed attribute are in byte order, and
  -- those of an unsigned one aren't.
  pub signed_with_all : IsEncoding (file content_info)
      (hex "3081bc 0609 2a864886f70d010702 a081ae 3081ab 0201 05 310e 3005 0601 2a 0500 3005 0601 2a 0500"
      ++ hex "3008 0601 2a a003 0401 61 a00a 3000 a000 a100 a200 a300 a104 3000 a100"
      ++ hex "317a 303d 0201 01 3005 3000 0201 01 3005 0601 2a 0500 a00c 300a 0601 2a 3105 0201 01 0400"
      ++ hex "3005 0601 2a 0500 0400"
      ++ hex "a113 3005 0601 2a 3100 300a 0601 2a 3105 0400 0201 01"
      ++ hex "3039 0201 03 8001 6b 3005 0601 2a 0500 a00c 300a 0601 2a 3105 0201 01 0400 3005 0601 2a 0500 0400"
      ++ hex "a113 3005 0601 2a 3100 300a 0601 2a 3105 0400 0201 01")
  -- of versions 1, 3, 4 and 5 with no algorithm, no content, no certificates, no revocation lists and no signer
  pub signed_of_version_1 : IsEncoding (file content_info)
      (hex "301b 0609 2a864886f70d010702 a00e 300c 0201 01 3100 3003 0601 2a 3100")
  pub signed_of_version_3 : IsEncoding (file content_info)
      (hex "301b 0609 2a864886f70d010702 a00e 300c 0201 03 3100 3003 0601 2a 3100")
  pub signed_of_version_4 : IsEncoding (file content_info)
      (hex "301b 0609 2a864886f70d010702 a00e 300c 0201 04 3100 3003 0601 2a 3100")
  pub signed_of_version_5 : IsEncoding (file content_info)
      (hex "301b 0609 2a864886f70d010702 a00e 300c 0201 05 3100 3003 0601 2a 3100")
  -- the fields of one with a certificate and a revocation list
  pub signed_with_certificate : IsEncoding signed_data (hex "0201 01 3100 3003 0601 2a a062"
      ++ signer_certificate ++ hex "a104 3002 0500 3100")
  -- with empty lists of certificates and of revocation lists
  pub signed_with_no_certificate : IsEncoding (file content_info)
      (hex "301f 0609 2a864886f70d010702 a012 3010 0201 01 3100 3003 0601 2a a000 a100 3100")
  -- signers of version 1 and 3 without attributes
  pub signer_of_version_1 : IsEncoding (file signer_info)
      (hex "3016 0201 01 3005 3000 0201 01 3003 0601 2a 3003 0601 2a 0400")
  pub signer_of_version_3 : IsEncoding (file signer_info) (hex "3011 0201 03 8000 3003 0601 2a 3003 0601 2a 0400")
  -- a signed attribute with the same value twice, with three values in byte order, and with none
  pub equal_values : IsEncoding signed_attribute (hex "0601 2a 3106 0201 01 0201 01")
  pub three_values : IsEncoding signed_attribute (hex "0601 2a 3109 0201 01 0201 02 0201 03")
  pub no_value : IsEncoding signed_attribute (hex "0601 2a 3100")
  -- a list in byte order whose first element is less than the part before the list
  pub list_behind : IsEncoding (one 0x05 opaque (ordered 0x02 integer)) (hex "0500 0201 01")
  -- a ContentInfo of another type, with anything in it
  pub other_type : IsEncoding (file content_info) (hex "300c 0603 2a0304 a005 0203 010203")
  -- a ContentInfo whose type begins as that of a SignedData does, and is longer
  pub longer_type : IsEncoding (file content_info) (hex "3010 060a 2a864886f70d01070201 a002 3100")
