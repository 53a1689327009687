-- Worked rows: inputs that aren't encodings.
use Rattle.std.specs.Prelude.{[], ◌++◌, drop, codes}
use Rattle.der_core.specs.Hex.{hex}
use Rattle.der_grammar.specs.Vectors.{imprint_of_abc, time_stamp_request, stamping_certificate_with_two_usages}
use Rattle.der_grammar.specs.Vectors.{signed_file, exchanged_file, emptily_stamped_file}
use Rattle.der_core.specs.Encoding.{IsEncoding}
use Rattle.der_core.specs.Grammar.{file}
use Rattle.der_grammar.specs.Table.{request, tst_info, response, certificate, content_info, signing_certificate}
use Rattle.der_grammar.specs.Table.{signing_certificate_v2}

-- for each type some inputs that are nearly encodings
pub record NoEncodingRows : Type 0 where
  -- no octets
  pub nothing : IsEncoding (file request) [] → ⊥
  -- a request and 00 after it
  pub trailing : IsEncoding (file request) (time_stamp_request ++ hex "00") → ⊥
  -- a request without its last octet
  pub cut : IsEncoding (file request) (hex "3039 0201 01" ++ imprint_of_abc ++ hex "0101") → ⊥
  -- a request of version 2
  pub request_of_version_2 : IsEncoding (file request) (hex "300c 0201 02 3007 3003 0601 2a 0400") → ⊥
  -- a request whose length, or whose digest's, could be shorter
  pub long_form : IsEncoding (file request) (hex "3081 0c 0201 01 3007 3003 0601 2a 0400") → ⊥
  pub long_form_inside : IsEncoding (file request) (hex "300d 0201 01 3008 3003 0601 2a 0481 00") → ⊥
  -- a request of indefinite length
  pub indefinite : IsEncoding (file request) (hex "3080 0201 01 3007 3003 0601 2a 0400 0000") → ⊥
  -- a request whose nonce is after certReq
  pub late_nonce : IsEncoding (file request) (hex "3012 0201 01 3007 3003 0601 2a 0400 0101 ff 0201 05") → ⊥
  -- parameters with the identifier 00, and with one of more than one octet
  pub zero_tag : IsEncoding (file request) (hex "300e 0201 01 3009 3005 0601 2a 0000 0400") → ⊥
  pub high_tag : IsEncoding (file request) (hex "300f 0201 01 300a 3006 0601 2a 1f1f 00 0400") → ⊥
  -- a time-stamp whose ordering is before its accuracy
  pub early_ordering : IsEncoding (file tst_info)
      (hex "3054 0201 01 0603 883703" ++ imprint_of_abc ++ hex "0201 09 180f" ++ codes "20240115100000Z"
      ++ hex "0101 ff 3000") → ⊥
  -- a time-stamp whose fraction of a second ends in 0
  pub idle_fraction : IsEncoding (file tst_info) (hex "3052 0201 01 0603 883703"
      ++ imprint_of_abc ++ hex "0201 09 1812" ++ codes "20240115100000.50Z") → ⊥
  -- an answer with two tokens
  pub second_token : IsEncoding (file response) (hex "3009 3003 0201 00 3000 3000") → ⊥
  -- a certificate with two extendedKeyUsage extensions
  pub two_usages : IsEncoding (file certificate) stamping_certificate_with_two_usages → ⊥
  -- a certificate with three times in its validity
  pub three_times : IsEncoding (file certificate) (hex "3047 303d 0201 07 3003 0601 2a 3000 302d 170d"
      ++ codes "240101000000Z" ++ hex "170d"
      ++ codes "240131235959Z"
      ++ hex "170d" ++ codes "240131235959Z" ++ hex "3000 3000 3003 0601 2a 0301 00") → ⊥
  -- the signed file with its signed attributes out of byte order
  pub exchanged : IsEncoding (file content_info) exchanged_file → ⊥
  -- the signed file with unsigned attributes that have no member
  pub emptily_stamped : IsEncoding (file content_info) emptily_stamped_file → ⊥
  -- the signed file with an outer length that is one too short
  pub short_outside : IsEncoding (file content_info) (hex "3081b6" ++ drop 3 signed_file) → ⊥
  -- a SignedData of version 2, and one without signerInfos
  pub signed_of_version_2 : IsEncoding (file content_info)
      (hex "301b 0609 2a864886f70d010702 a00e 300c 0201 02 3100 3003 0601 2a 3100") → ⊥
  pub no_signers : IsEncoding (file content_info)
      (hex "3019 0609 2a864886f70d010702 a00c 300a 0201 01 3100 3003 0601 2a") → ⊥
  -- a ContentInfo of another type with two contents
  pub two_contents : IsEncoding (file content_info) (hex "300b 0603 2a0304 a004 0500 0500") → ⊥
  -- a certificate identifier without a digest, in both versions
  pub no_digest : IsEncoding (file signing_certificate) (hex "3004 3002 3000") → ⊥
  pub no_digest_v2 : IsEncoding (file signing_certificate_v2) (hex "3006 3004 3002 0500") → ⊥
