-- Worked rows: a token that passes, a file that is accepted with its moment, and the refusal if one thing is changed.
-- The octets are those of `der_core`'s vectors.
use Rattle.std.specs.Prelude.{ℕ, ◌+◌, List, [], ◌∷◌, ◌++◌, Option, Some, None, codes}
use Rattle.der_core.specs.declared.flag.Flag.TheVariants.{True}
use Rattle.der_core.specs.declared.flag.Flag.TheVariants as flag
use Rattle.der_core.specs.Element.{el}
use Rattle.der_core.specs.Hex.{hex}
use Rattle.der_grammar.specs.Table.{id_ext_key_usage}
use Rattle.der_grammar.specs.Vectors.{digest_of_abc, sha_256, imprint_of_abc, signature_algorithm, signed_abc}
use Rattle.der_grammar.specs.Vectors.{content_type_attribute, digest_attribute, signer_with, signer_name}
use Rattle.der_grammar.specs.Vectors.{authority_name, signer_key, authority_key, signer_certificate}
use Rattle.der_grammar.specs.Vectors.{stamping_certificate, certificate_named_v2, time_stamp, time_stamp_token}
use Rattle.der_grammar.specs.Vectors.{signed_file, stamped_file}
use Rattle.der_time.specs.Moments.{unix_epoch}
use Rattle.cert_types.specs.ExtensionValue.{ExtensionValue}
use Rattle.cert_types.specs.CertificateValue.{CertificateValue, EncodesCertificate}
use Rattle.der_time.specs.TimeValue.{Utc}
use Rattle.digests.specs.Algorithms.{contents_of}
use Rattle.digests.specs.declared.algorithm.Alg.TheVariants.{Sha256}
use Rattle.cms_types.specs.AttributeValue.{AttributeValue}
use Rattle.cms_types.specs.SignerValue.{SignerValue, IssuerAndSerial}
use Rattle.cms_types.specs.SignedDataValue.{SignedDataValue, EncodesSignedData}
use Rattle.cms_types.specs.Tokens.{id_time_stamp_token}
use Rattle.tsp_types.specs.TstValue.{TstValue, EncodesTst}
use Rattle.check_fit.specs.Fitting.{id_content_type, id_message_digest}
use Rattle.check_fit.specs.FittingRows.{strict, id_data, plainly}
use Rattle.check_fit.specs.declared.rules.SignerRule.TheVariants as signer
use Rattle.check_fit.specs.declared.rules.TokenRule.TheVariants as token
use Rattle.check_fit.specs.declared.rules.Refused.TheVariants as refused
use Rattle.trust_lists.specs.declared.role.Role.{Role}
use Rattle.trust_lists.specs.Entries.{EntryValue}
use Rattle.trust_lists.specs.Asking.{Asked, is_among}
use Rattle.trust_lists.specs.declared.role.Role.TheVariants.{Signer, Tsa}
use Rattle.check_verdict.specs.Trusted.{asked}
use Rattle.check_names.specs.Naming.{id_signing_certificate_v2}
use Rattle.check_names.specs.NamingRows.{made_up_algorithm, attribute, of_authority}
use Rattle.tsp_types.specs.TstValue.{id_tst_info}
use Rattle.check_verdict.specs.Passing.{Terms, Passes}
use Rattle.check_verdict.specs.TokenRules.{TokenFails}
use Rattle.check_verdict.specs.Verdicts.{Yes, Refuses}

-- ---- certificates

abbrev pub certificate : Option (List ℕ) → (serial name key : List ℕ) → Option (List ExtensionValue) → CertificateValue
certificate version serial name key extensions = record {
  tbs = record {
    version = version;
    serial = serial;
    algorithm = made_up_algorithm;
    issuer = name;
    validity = record { from = Utc (codes "240101000000Z"); until = Utc (codes "240131235959Z") };
    subject = name;
    key = key;
    issuer_id = None;
    subject_id = None;
    extensions = extensions;
  };
  algorithm = made_up_algorithm;
  signature = 0 ∷ 0 ∷ [];
}

abbrev pub of_signer : CertificateValue
of_signer = certificate None (5 ∷ []) signer_name signer_key None

abbrev pub stamping_alone : Option (List ExtensionValue)
stamping_alone = Some (record { id = id_ext_key_usage; critical = True; value = hex "300a06082b06010505070308" } ∷ [])

-- the signer's certificate with another key
abbrev pub with_another_key : CertificateValue
with_another_key = certificate None (5 ∷ []) signer_name authority_key None

-- the authority's certificate with another key, and so with another digest
abbrev pub of_another_authority : CertificateValue
of_another_authority = certificate (Some (2 ∷ [])) (7 ∷ []) authority_name signer_key stamping_alone

-- ---- a token over abc, and a file that holds abc and has it

abbrev pub stamp_at : (time : List ℕ) → TstValue
stamp_at time = record {
  policy = hex "883703";
  imprint = record {
    algorithm = record { oid = contents_of Sha256; parameters = Some (5 ∷ 0 ∷ []) };
    digest = digest_of_abc;
  };
  serial = 9 ∷ [];
  time = time;
  accuracy = None;
  ordering = flag.Absent;
  nonce = None;
  tsa = None;
  extensions = None;
}

abbrev pub tst : TstValue
tst = stamp_at (codes "20240115100000Z")

-- the signed attributes of a token, with the digest of its content
abbrev pub attributes_over : (digest : List ℕ) → List AttributeValue
attributes_over digest = attribute id_content_type (el 0x06 id_tst_info)
    ∷ attribute id_message_digest (el 0x04 digest)
    ∷ attribute id_signing_certificate_v2 certificate_named_v2
    ∷ []

abbrev pub digest_of_stamp : List ℕ
digest_of_stamp = hex "cc57e49e272c28d8f16dfb765790c5710f2a0ff18d9eb348f750caff6e690cd3"

abbrev pub signer_by : (name serial signature : List ℕ) → (attributes : List AttributeValue)
    → Option (List AttributeValue) → SignerValue
signer_by name serial signature attributes unsigned = record {
  version = 1 ∷ [];
  sid = IssuerAndSerial name serial;
  digest_algorithm = plainly (contents_of Sha256);
  signed_attributes = Some attributes;
  signature_algorithm = made_up_algorithm;
  signature = signature;
  unsigned_attributes = unsigned;
}

abbrev pub token_signer : (digest : List ℕ) → SignerValue
token_signer digest = signer_by authority_name (7 ∷ []) (codes "tsa") (attributes_over digest) None

abbrev pub signed_data : (version econtent_type content : List ℕ) → SignerValue → SignedDataValue
signed_data version econtent_type content s = record {
  version = version;
  digest_algorithms = plainly (contents_of Sha256) ∷ [];
  encapsulated = record { content_type = econtent_type; content = Some content };
  certificates = None;
  crls = None;
  signers = s ∷ [];
}

abbrev pub token_data : SignedDataValue
token_data = signed_data (3 ∷ []) id_tst_info time_stamp (token_signer digest_of_stamp)

abbrev pub file_attributes : List AttributeValue
file_attributes = attribute id_content_type (el 0x06 id_data)
    ∷ attribute id_message_digest (el 0x04 digest_of_abc)
    ∷ []

abbrev pub file_signer : Option (List AttributeValue) → SignerValue
file_signer unsigned = signer_by signer_name (5 ∷ []) (codes "abc") file_attributes unsigned

-- the unsigned attribute that holds tokens
abbrev pub stamps_of : List (List ℕ) → Option (List AttributeValue)
stamps_of ts = Some (record { id = id_time_stamp_token; values = ts } ∷ [])

abbrev pub stamps : Option (List AttributeValue)
stamps = stamps_of (time_stamp_token ∷ [])

abbrev pub file_data : Option (List AttributeValue) → SignedDataValue
file_data unsigned = signed_data (1 ∷ []) id_data (codes "abc") (file_signer unsigned)

-- ---- the same an hour earlier, and a file with both tokens

abbrev pub early_stamp : List ℕ
early_stamp = hex "304f 0201 01 0603 883703" ++ imprint_of_abc ++ hex "0201 09 180f 32303234303131353039303030305a"

abbrev pub early_tst : TstValue
early_tst = stamp_at (codes "20240115090000Z")

abbrev pub digest_of_early_stamp : List ℕ
digest_of_early_stamp = hex "0bdbdf5bfdff1371a8069ff5ed551d4d1fc2bc165eeeed712a0e05052763a9a1"

abbrev pub early_token : List ℕ
early_token = hex "30820147 0609 2a864886f70d010702 a0820138 30820134 0201 03 310d" ++ sha_256
    ++ hex "3062 060b 2a864886f70d0109100104 a053 0451" ++ early_stamp
    ++ hex "3181bb 3081b8 0201 01 3011" ++ authority_name ++ hex "0201 07" ++ sha_256 ++ hex "a08186"
    ++ hex "301a 0609 2a864886f70d010903 310d 060b 2a864886f70d0109100104"
    ++ hex "302f 0609 2a864886f70d010904 3122 0420" ++ digest_of_early_stamp
    ++ hex "3037 060b 2a864886f70d010910022f 3128" ++ certificate_named_v2
    ++ signature_algorithm ++ hex "0403 747361"

abbrev pub early_data : SignedDataValue
early_data = signed_data (3 ∷ []) id_tst_info early_stamp (token_signer digest_of_early_stamp)

-- the earlier token comes first
abbrev pub twice_stamped_file : List ℕ
twice_stamped_file = hex "3082036c 0609 2a864886f70d010702 a082035d 30820359" ++ signed_abc ++ hex "3182032f 3082032b"
    ++ signer_with (content_type_attribute ++ digest_attribute)
    ++ hex "a18202ab 308202a7 060b 2a864886f70d010910020e 31820296" ++ early_token ++ time_stamp_token

abbrev pub both_stamps : Option (List AttributeValue)
both_stamps = stamps_of (early_token ∷ time_stamp_token ∷ [])

-- ---- terms

-- the question about the file's signer, and that about the token's
abbrev pub of_file : Asked
of_file = asked of_signer (file_signer None) file_attributes

abbrev pub of_token : Asked
of_token = asked of_authority (token_signer digest_of_stamp) (attributes_over digest_of_stamp)

abbrev pub of_early_token : Asked
of_early_token = asked of_authority (token_signer digest_of_early_stamp) (attributes_over digest_of_early_stamp)

abbrev pub trusted : Role → Option ℕ → Option ℕ → CertificateValue → EntryValue
trusted role from until c = record { role = role; from = from; until = until; certificate = c }

-- a verifier vouches for these questions
abbrev pub terms : List EntryValue → List Asked → Terms
terms trust ls = record { policy = strict; trust = trust; vouches = is_among ls }

-- nanoseconds after 2024-01-15 10:00:00, which is 1705312800 seconds after 1970
abbrev pub ten_oclock : ℕ
ten_oclock = unix_epoch + 1705312800000000000

abbrev pub nine_oclock : ℕ
nine_oclock = unix_epoch + 1705309200000000000

abbrev pub half_past_nine : ℕ
half_past_nine = unix_epoch + 1705311000000000000

abbrev pub a_second_before : ℕ
a_second_before = unix_epoch + 1705312799000000000

abbrev pub half_a_second_later : ℕ
half_a_second_later = unix_epoch + 1705312800500000000

abbrev pub signs : Option ℕ → Option ℕ → EntryValue
signs from until = trusted Signer from until of_signer

abbrev pub attests : Option ℕ → Option ℕ → EntryValue
attests from until = trusted Tsa from until of_authority

-- ---- rows

-- the values are those of the octets
pub record ValueRows : Type 0 where
  pub reads_signer : EncodesCertificate signer_certificate of_signer
  pub reads_authority : EncodesCertificate stamping_certificate of_authority
  pub reads_time_stamp : EncodesTst time_stamp tst
  pub reads_token : EncodesSignedData time_stamp_token token_data
  pub reads_signed_file : EncodesSignedData signed_file (file_data None)
  pub reads_stamped_file : EncodesSignedData stamped_file (file_data stamps)

-- a token over abc
pub record TokenRows : Type 0 where
  -- it passes, with its moment
  pub passes : Passes (terms (attests None None ∷ []) (of_token ∷ [])) time_stamp_token (codes "abc") ten_oclock
  -- at the last moment, and at the first, of the entry's period
  pub until_then : Passes (terms (attests None (Some ten_oclock) ∷ []) (of_token ∷ [])) time_stamp_token
      (codes "abc") ten_oclock
  pub from_then : Passes (terms (attests (Some ten_oclock) None ∷ []) (of_token ∷ [])) time_stamp_token
      (codes "abc") ten_oclock
  -- an entry that it doesn't name comes before the one that it names
  pub second : Passes (terms (trusted Tsa None None of_another_authority ∷ attests None None ∷ []) (of_token ∷ []))
      time_stamp_token (codes "abc") ten_oclock
  -- for other octets; under no entry of an authority; under one that matches and that it doesn't name; a second after
  -- the entry's period; and not vouched for
  pub other_octets : TokenFails (terms (attests None None ∷ []) (of_token ∷ [])) time_stamp_token
      (codes "abd") token.ImprintDiffers
  pub unknown : TokenFails (terms (signs None None ∷ []) (of_token ∷ [])) time_stamp_token
      (codes "abc") token.UnknownTsa
  pub not_named : TokenFails (terms (trusted Tsa None None of_another_authority ∷ []) (of_token ∷ []))
      time_stamp_token (codes "abc") token.NotNamed
  pub ended : TokenFails (terms (attests None (Some a_second_before) ∷ []) (of_token ∷ [])) time_stamp_token
      (codes "abc") token.Period
  pub unanswered : TokenFails (terms (attests None None ∷ []) (of_file ∷ [])) time_stamp_token
      (codes "abc") token.SignatureFails

-- both lines of the answers
abbrev pub both : List Asked
both = of_file ∷ of_token ∷ []

-- the file with the token
pub record FileRows : Type 0 where
  -- it is accepted with the token's moment
  pub accepted : Yes (terms (signs None None ∷ attests None None ∷ []) both) stamped_file None ten_oclock
  -- the entry of the signer holds from that very moment on
  pub from_then : Yes (terms (signs (Some ten_oclock) None ∷ attests None None ∷ []) both) stamped_file None ten_oclock
  -- the certificate is on two lines, of which the second holds
  pub two_lines : Yes
      (terms (signs None (Some a_second_before) ∷ signs (Some ten_oclock) None ∷ attests None None ∷ []) both)
      stamped_file None ten_oclock
  -- nobody is trusted; the signer only from half a second later on; the file's signature is not vouched for
  pub nobody : Refuses (terms [] both) stamped_file None (refused.Signer 1 signer.UnknownSigner)
  pub too_late : Refuses (terms (signs (Some half_a_second_later) None ∷ attests None None ∷ []) both) stamped_file
      None (refused.Signer 1 signer.UnknownSigner)
  pub unsigned : Refuses (terms (signs None None ∷ attests None None ∷ []) (of_token ∷ [])) stamped_file None
      (refused.Signer 1 signer.SignatureFails)
  -- one line holds at the moment, and another line's key is vouched for
  pub two_keys : Refuses (terms (signs None (Some a_second_before) ∷ trusted Signer None None with_another_key
      ∷ attests None None ∷ []) both) stamped_file None (refused.Signer 1 signer.SignatureFails)
  -- the token fails, and then the period of the signer's entry filters nothing
  pub ended : Refuses (terms (signs None None ∷ attests None (Some a_second_before) ∷ []) both) stamped_file None
      (refused.Token 1 1 token.Period)
  pub late_and_unanswered : Refuses (terms (signs (Some half_a_second_later) None ∷ attests None None ∷ [])
      (of_file ∷ [])) stamped_file None (refused.Token 1 1 token.SignatureFails)
  -- likewise if there is no token
  pub late_and_unstamped : Refuses (terms (signs (Some half_a_second_later) None ∷ attests None None ∷ []) both)
      signed_file None (refused.Signer 1 signer.NoToken)

-- all three lines of the answers
abbrev pub three : List Asked
three = of_file ∷ of_early_token ∷ of_token ∷ []

-- the file with both tokens
pub record TwoTokenRows : Type 0 where
  pub reads_early_token : EncodesSignedData early_token early_data
  pub reads_file : EncodesSignedData twice_stamped_file (file_data both_stamps)
  -- it is accepted with the earlier moment, and with the later one if the signer's entry holds from half past nine on
  pub earlier : Yes (terms (signs None None ∷ attests None None ∷ []) three) twice_stamped_file None nine_oclock
  pub later : Yes (terms (signs (Some half_past_nine) None ∷ attests None None ∷ []) three)
      twice_stamped_file None ten_oclock
