-- Inputs that the rows use, built from their parts. Object identifiers below 2.999 (8837 in hexadecimal) are made up,
-- and so are the signatures.
use Rattle.std.specs.Prelude.{ℕ, List, ◌++◌}
use Rattle.der_core.specs.Hex.{hex}

-- ---- parts

-- the SHA-256 digest of the three octets of "abc" (32 octets)
abbrev pub digest_of_abc : List ℕ
digest_of_abc = hex "ba7816bf 8f01cfea 414140de 5dae2223 b00361a3 96177a9c b410ff61 f20015ad"

-- the algorithm SHA-256 without parameters (13)
abbrev pub sha_256 : List ℕ
sha_256 = hex "300b 0609 608648016503040201"

-- the algorithm SHA-256 with parameters NULL, and the digest of "abc" (51)
abbrev pub imprint_of_abc : List ℕ
imprint_of_abc = hex "3031 300d 0609 608648016503040201 0500 0420" ++ digest_of_abc

-- the signature algorithm 2.999.1 (7)
abbrev pub signature_algorithm : List ℕ
signature_algorithm = hex "3005 0603 883701"

-- the names of the signer, CN=A, and of the stamping authority, CN=T (14 each)
abbrev pub signer_name : List ℕ
signer_name = hex "300c 310a 3008 0603 550403 0c01 41"

abbrev pub authority_name : List ℕ
authority_name = hex "300c 310a 3008 0603 550403 0c01 54"

-- from 240101000000Z to 240131235959Z (32)
abbrev pub january_2024 : List ℕ
january_2024 = hex "301e 170d 3234303130313030303030305a 170d 3234303133313233353935395a"

-- the public keys of the signer and of the authority, of the algorithm 2.999.2 (13 each)
abbrev pub signer_key : List ℕ
signer_key = hex "300b 3005 0603 883702 0302 0001"

abbrev pub authority_key : List ℕ
authority_key = hex "300b 3005 0603 883702 0302 0002"

-- the extension extendedKeyUsage, critical, for time-stamping alone (24)
abbrev pub ext_key_usage : List ℕ
ext_key_usage = hex "3016 0603 551d25 0101 ff 040c 300a 0608 2b06010505070308"

-- ---- certificates (RFC 5280, 4.1)

-- the signer's certificate, of version 1 and issued by the signer (98)
abbrev pub signer_certificate : List ℕ
signer_certificate = hex "3060 3053 0201 05" ++ signature_algorithm ++ signer_name ++ january_2024
    ++ signer_name ++ signer_key
    ++ signature_algorithm ++ hex "0302 0000"

-- the authority's certificate, of version 3, which has a key for time-stamping (132)
abbrev pub stamping_certificate : List ℕ
stamping_certificate = hex "308181 3074 a003 0201 02 0201 07"
    ++ signature_algorithm ++ authority_name ++ january_2024 ++ authority_name ++ authority_key
    ++ hex "a31a 3018" ++ ext_key_usage ++ signature_algorithm ++ hex "0302 0000"

-- the same with its extension twice (157)
abbrev pub stamping_certificate_with_two_usages : List ℕ
stamping_certificate_with_two_usages = hex "30819a 30818c a003 0201 02 0201 07"
    ++ signature_algorithm ++ authority_name ++ january_2024 ++ authority_name
    ++ authority_key ++ hex "a332 3030" ++ ext_key_usage ++ ext_key_usage ++ signature_algorithm ++ hex "0302 0000"

-- ---- time-stamps (RFC 3161, 2.4)

-- a request to stamp "abc", which asks for the authority's certificate (59)
abbrev pub time_stamp_request : List ℕ
time_stamp_request = hex "3039 0201 01" ++ imprint_of_abc ++ hex "0101 ff"

-- what a token attests: "abc" existed at 20240115100000Z, by the policy 2.999.3 (81)
abbrev pub time_stamp : List ℕ
time_stamp = hex "304f 0201 01 0603 883703" ++ imprint_of_abc ++ hex "0201 09 180f 32303234303131353130303030305a"

-- what names the authority's certificate: its SHA-1 digest, and its SHA-256 digest (28 and 40)
abbrev pub certificate_named : List ℕ
certificate_named = hex "301a 3018 3016 0414 91349c0b aeb5a3be 6d99bd5d 97022a32 86874f07"

abbrev pub certificate_named_v2 : List ℕ
certificate_named_v2 = hex "3026 3024 3022 0420 b5bda2dd 49f9ac5c 960f22fe 79a6cbef 1d5b7e0e 88c7890e 416bb657 f4dbb8e1"

-- the signed attributes of the token: content type, digest of the time-stamp, and the identifier of the certificate
-- (28, 49 and 57)
abbrev pub token_attributes : List ℕ
token_attributes = hex "301a 0609 2a864886f70d010903 310d 060b 2a864886f70d0109100104" ++
    hex "302f 0609 2a864886f70d010904 3122 0420 cc57e49e 272c28d8 f16dfb76 5790c571 0f2a0ff1 8d9eb348 f750caff 6e690cd3"
    ++ hex "3037 060b 2a864886f70d010910022f 3128" ++ certificate_named_v2

-- the token: a SignedData over the time-stamp, signed by the authority (331)
abbrev pub time_stamp_token : List ℕ
time_stamp_token = hex "30820147 0609 2a864886f70d010702 a0820138 30820134 0201 03 310d" ++ sha_256
    ++ hex "3062 060b 2a864886f70d0109100104 a053 0451" ++ time_stamp
    ++ hex "3181bb 3081b8 0201 01 3011" ++ authority_name ++ hex "0201 07"
    ++ sha_256 ++ hex "a08186" ++ token_attributes
    ++ signature_algorithm ++ hex "0403 747361"

-- ---- signed files (RFC 5652, 3 and 5)

-- the two signed attributes of the file: content type, and digest of "abc" (26 and 49)
abbrev pub content_type_attribute : List ℕ
content_type_attribute = hex "3018 0609 2a864886f70d010903 310b 0609 2a864886f70d010701"

abbrev pub digest_attribute : List ℕ
digest_attribute = hex "302f 0609 2a864886f70d010904 3122 0420" ++ digest_of_abc

-- the fields of a SignerInfo with these signed attributes of 75 octets (124)
abbrev pub signer_with : List ℕ → List ℕ
signer_with attributes = hex "0201 01 3011" ++ signer_name ++ hex "0201 05" ++ sha_256 ++ hex "a04b"
    ++ attributes ++ signature_algorithm ++ hex "0403 616263"

-- the fields of a SignedData before its signers: version 1, SHA-256, and "abc" as its content (38)
abbrev pub signed_abc : List ℕ
signed_abc = hex "0201 01 310d" ++ sha_256 ++ hex "3012 0609 2a864886f70d010701 a005 0403 616263"

-- a file that is signed with these attributes (186)
abbrev pub signed_with : List ℕ → List ℕ
signed_with attributes = hex "3081b7 0609 2a864886f70d010702 a081a9 3081a6" ++ signed_abc ++ hex "317e 307c"
    ++ signer_with attributes

-- the signed file, which holds "abc"
abbrev pub signed_file : List ℕ
signed_file = signed_with (content_type_attribute ++ digest_attribute)

-- the same with its two signed attributes exchanged, so that they aren't in byte order
abbrev pub exchanged_file : List ℕ
exchanged_file = signed_with (digest_attribute ++ content_type_attribute)

-- the signed file with unsigned attributes that have no member, a100, and the enclosing lengths adjusted (189)
abbrev pub emptily_stamped_file : List ℕ
emptily_stamped_file = hex "3081ba 0609 2a864886f70d010702 a081ac 3081a9" ++ signed_abc ++ hex "318180 307e"
    ++ signer_with (content_type_attribute ++ digest_attribute) ++ hex "a100"

-- the signed file with the token in its signer's unsigned attributes (549)
abbrev pub stamped_file : List ℕ
stamped_file = hex "30820221 0609 2a864886f70d010702 a0820212 3082020e" ++ signed_abc ++ hex "318201e4 308201e0"
    ++ signer_with (content_type_attribute ++ digest_attribute)
    ++ hex "a1820160 3082015c 060b 2a864886f70d010910020e 3182014b" ++ time_stamp_token
