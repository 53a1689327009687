-- Worked rows: a token over SHA-256 of "abc", requests that responses with it answer, and requests that they don't. The
-- certificate is that of the authority among `der_core`'s vectors; the rows of naming say which attributes name it.
use Rattle.std.specs.Prelude.{ℕ, List, [], ◌∷◌, Option, Some, None, codes}
use Rattle.der_core.specs.declared.flag.Flag.{Flag}
use Rattle.der_core.specs.declared.flag.Flag.TheVariants.{Absent, False, True}
use Rattle.der_core.specs.Hex.{hex}
use Rattle.der_grammar.specs.Vectors.{digest_of_abc, authority_name, stamping_certificate}
use Rattle.cms_types.specs.AttributeValue.{AttributeValue}
use Rattle.cms_types.specs.SignerValue.{SignerValue, IssuerAndSerial}
use Rattle.cms_types.specs.SignedDataValue.{SignedDataValue, SignedContent}
use Rattle.cms_types.specs.SignedDataValue as signed_data
use Rattle.tsp_types.specs.ImprintValue.{ImprintValue}
use Rattle.tsp_types.specs.RequestValue.{RequestValue}
use Rattle.tsp_types.specs.ResponseValue.{ResponseValue}
use Rattle.digests.specs.Spelled.{with_null, alone, sha256, sha512_256}
use Rattle.tsp_types.specs.TstRows.{policy_3, policy_4, abc_by_sha256}
use Rattle.tsp_types.specs.TstValue.{TstValue}
use Rattle.tsp_types.specs.TstValue as tst
use Rattle.check_names.specs.NamingRows.{digest_of_certificate, named_by, named_in_v1}
use Rattle.tsp_requester.specs.declared.rules.MatchFault.{MatchFault}
use Rattle.tsp_requester.specs.declared.rules.MatchFault.TheVariants as rule
use Rattle.tsp_types.specs.TstValue.{id_tst_info}
use Rattle.tsp_requester.specs.Answering.{Answering, MatchFails}

-- ---- tokens

-- a TSTInfo of the policy 2.999.3 with this nonce
abbrev pub stamp : Option (List ℕ) → TstValue
stamp nonce = record {
  policy = policy_3;
  imprint = abc_by_sha256;
  serial = 9 ∷ [];
  time = codes "20240115100000Z";
  accuracy = None;
  ordering = Absent;
  nonce = nonce;
  tsa = None;
  extensions = None;
}

-- its octets, without a nonce
abbrev pub stamped : List ℕ
stamped = tst.encoding (stamp None)

-- a signer with these signed attributes
abbrev pub signer : Option (List AttributeValue) → SignerValue
signer attributes = record {
  version = 1 ∷ [];
  sid = IssuerAndSerial authority_name (7 ∷ []);
  digest_algorithm = alone sha256;
  signed_attributes = attributes;
  signature_algorithm = alone (hex "883701");
  signature = codes "tsa";
  unsigned_attributes = None;
}

-- one that names the certificate of the authority, one whose second attribute names another, and one that names none
abbrev pub naming : SignerValue
naming = signer (Some (named_by digest_of_certificate ∷ []))

abbrev pub naming_another : SignerValue
naming_another = signer (Some (named_in_v1 ∷ named_by digest_of_abc ∷ []))

abbrev pub bare : SignerValue
bare = signer None

abbrev pub signed : (econtent_type : List ℕ) → Option (List ℕ) → (certificates : Option (List (List ℕ)))
    → List SignerValue → SignedDataValue
signed econtent_type content certificates signers = record {
  version = 3 ∷ [];
  digest_algorithms = alone sha256 ∷ [];
  encapsulated = record { content_type = econtent_type; content = content };
  certificates = certificates;
  crls = None;
  signers = signers;
}

-- a token with these certificates and this signer
abbrev pub token : Option (List (List ℕ)) → SignerValue → SignedDataValue
token certificates s = signed id_tst_info (Some stamped) certificates (s ∷ [])

-- an element that isn't a certificate
abbrev pub unreadable : List ℕ
unreadable = hex "3002 0500"

abbrev pub octets_of : SignedDataValue → List ℕ
octets_of v = signed_data.encoding (SignedContent v)

-- ---- requests and responses

-- a request for this imprint, with a policy, a nonce, and whether the certificate is requested
abbrev pub request : ImprintValue → (policy nonce : Option (List ℕ)) → Flag → RequestValue
request imprint policy nonce cert_req =
    record { imprint = imprint; policy = policy; nonce = nonce; cert_req = cert_req; extensions = None }

-- a response with this status and this token
abbrev pub response : (status : List ℕ) → Option (List ℕ) → ResponseValue
response status t = record { status = record { number = status; texts = None; fail = None }; token = t }

-- a response that is granted, with this SignedData as its token
abbrev pub granted : SignedDataValue → ResponseValue
granted v = response (0 ∷ []) (Some (octets_of v))

abbrev pub plain : RequestValue
plain = request abc_by_sha256 None None Absent

-- the certificate is requested
abbrev pub with_certificate : RequestValue
with_certificate = request abc_by_sha256 None None True

-- 32 other octets, and the same octets by SHA-512/256
abbrev pub other_digest : ImprintValue
other_digest = record {
  algorithm = with_null sha256;
  digest = hex "0000000000000000000000000000000000000000000000000000000000000000";
}

abbrev pub other_algorithm : ImprintValue
other_algorithm = record { algorithm = with_null sha512_256; digest = digest_of_abc }

pub record AnsweringRows : Type 0 where
  -- granted, and granted with modifications; the certificate is not requested, FALSE spelled out
  pub plainly : Answering plain (granted (token None naming))
  pub with_mods : Answering plain (response (1 ∷ []) (Some (octets_of (token None naming))))
  pub spelled_false : Answering (request abc_by_sha256 None None False) (granted (token None naming))
  -- the policy is the one that was requested; the algorithm was named without parameters
  pub same_policy : Answering (request abc_by_sha256 (Some policy_3) None Absent) (granted (token None naming))
  pub no_parameters : Answering (request (record { algorithm = alone sha256; digest = digest_of_abc }) None None
      Absent) (granted (token None naming))
  -- the nonce is that of the request; a nonce in the token alone is no fault
  pub same_nonce : Answering (request abc_by_sha256 None (Some (5 ∷ [])) Absent)
      (granted (signed id_tst_info (Some (tst.encoding (stamp (Some (5 ∷ []))))) None (naming ∷ [])))
  pub nonce_unasked : Answering plain
      (granted (signed id_tst_info (Some (tst.encoding (stamp (Some (5 ∷ []))))) None (naming ∷ [])))
  -- the certificate is requested and present; it is present after an element that can't be read
  pub certificate : Answering with_certificate (granted (token (Some (stamping_certificate ∷ [])) naming))
  pub behind_another : Answering with_certificate
      (granted (token (Some (unreadable ∷ stamping_certificate ∷ [])) naming))

-- the response doesn't answer the request, and this is the rule that fails first
abbrev pub Fails : RequestValue → ResponseValue → MatchFault → Type 0
Fails asked answer failed = MatchFails asked answer failed × (Answering asked answer → ⊥)

pub record FailingRows : Type 0 where
  -- rejection with a token, and without one; 0 in two octets
  pub rejected : Fails plain (response (2 ∷ []) (Some (octets_of (token None naming)))) rule.Status
  pub rejected_without : Fails plain (response (2 ∷ []) None) rule.Status
  pub longer_status : Fails plain (response (0 ∷ 0 ∷ []) None) rule.Status
  -- no token
  pub no_token : Fails plain (response (0 ∷ []) None) rule.NoToken
  -- an empty SEQUENCE; another type of content; no content; one that isn't a TSTInfo; no signer, and two
  pub no_signed_data : Fails plain (response (0 ∷ []) (Some (hex "3000"))) rule.TokenMalformed
  pub other_type : Fails plain
      (granted (signed (hex "2a864886f70d010701") (Some stamped) None (naming ∷ []))) rule.TokenMalformed
  pub no_content : Fails plain (granted (signed id_tst_info None None (naming ∷ []))) rule.TokenMalformed
  pub no_stamp : Fails plain (granted (signed id_tst_info (Some (hex "3000")) None (naming ∷ []))) rule.TokenMalformed
  pub no_signer : Fails plain (granted (signed id_tst_info (Some stamped) None [])) rule.TokenMalformed
  pub two_signers : Fails plain
      (granted (signed id_tst_info (Some stamped) None (naming ∷ naming ∷ []))) rule.TokenMalformed
  -- other octets; the same by another algorithm; other octets and a nonce
  pub other_octets : Fails (request other_digest None None Absent) (granted (token None naming)) rule.Imprint
  pub another_algorithm : Fails (request other_algorithm None None Absent) (granted (token None naming)) rule.Imprint
  pub imprint_first : Fails (request other_digest None (Some (5 ∷ [])) Absent)
      (granted (token None naming)) rule.Imprint
  -- no nonce in the token; another; none, and another policy
  pub no_nonce : Fails (request abc_by_sha256 None (Some (5 ∷ [])) Absent) (granted (token None naming)) rule.Nonce
  pub other_nonce : Fails (request abc_by_sha256 None (Some (6 ∷ [])) Absent)
      (granted (signed id_tst_info (Some (tst.encoding (stamp (Some (5 ∷ []))))) None (naming ∷ []))) rule.Nonce
  pub nonce_first : Fails (request abc_by_sha256 (Some policy_4) (Some (5 ∷ [])) Absent)
      (granted (token None naming)) rule.Nonce
  -- another policy; another policy, and no certificate
  pub other_policy : Fails (request abc_by_sha256 (Some policy_4) None Absent) (granted (token None naming)) rule.Policy
  pub policy_first : Fails (request abc_by_sha256 (Some policy_4) None True) (granted (token None naming)) rule.Policy
  -- no certificates; none that can be read; one of two attributes names another; no signed attributes
  pub no_certificate : Fails with_certificate (granted (token None naming)) rule.CertMissing
  pub unreadable_alone : Fails with_certificate (granted (token (Some (unreadable ∷ [])) naming)) rule.CertMissing
  pub named_otherwise : Fails with_certificate
      (granted (token (Some (stamping_certificate ∷ [])) naming_another)) rule.CertMissing
  pub no_attributes : Fails with_certificate (granted (token (Some (stamping_certificate ∷ [])) bare)) rule.CertMissing
