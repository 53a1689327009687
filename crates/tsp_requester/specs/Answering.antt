-- Whether the response of a time-stamping authority answers a request (RFC 3161, 2.2 and 2.4.2).
use Rattle.std.specs.Prelude.{◌≡◌, ℕ, ◌⊎◌, List, [], ◌∷◌, Some, IfSome, Any}
use Rattle.der_core.specs.declared.flag.Flag.TheVariants.{True}
use Rattle.cert_types.specs.CertificateValue.{CertificateValue, EncodesCertificate}
use Rattle.cms_types.specs.AttributeValue.{AttributeValue}
use Rattle.cms_types.specs.SignerValue.{SignerValue}
use Rattle.cms_types.specs.SignedDataValue.{SignedDataValue, EncodesSignedData}
use Rattle.tsp_types.specs.ImprintValue.{ImprintValue}
use Rattle.tsp_types.specs.RequestValue.{RequestValue}
use Rattle.tsp_types.specs.ResponseValue.{ResponseValue}
use Rattle.tsp_types.specs.TstValue.{TstValue, EncodesTst, id_tst_info}
use Rattle.check_names.specs.Naming.{MustName}
use Rattle.tsp_requester.specs.declared.rules.MatchFault.{MatchFault}
use Rattle.tsp_requester.specs.declared.rules.MatchFault.TheVariants as rule

-- ---- facts in no order

-- "When the status contains the value zero or one, a TimeStampToken MUST be present": granted (0), grantedWithMods (1)
abbrev pub IsGranted : ResponseValue → Type 0
IsGranted response = (response.status.number ≡ 0 ∷ []) ⊎ (response.status.number ≡ 1 ∷ [])

-- a time-stamp token: the SignedData that is signed, its one signer, and the TSTInfo that is its content
pub record TokenValue : Type 0 where
  pub signed : SignedDataValue
  pub signer : SignerValue
  pub stamp : TstValue

-- These octets are a token. "It is defined as a ContentInfo and SHALL encapsulate a signed data content type"; its
-- eContentType is id-ct-TSTInfo, its eContent "SHALL be the DER-encoded value of TSTInfo", and it "MUST NOT contain any
-- signatures other than the signature of the TSA".
pub record IsTimeStamp (octets : List ℕ) (token : TokenValue) : Type 0 where
  pub encodes : EncodesSignedData octets token.signed
  pub econtent_type : token.signed.encapsulated.content_type ≡ id_tst_info
  pub content : List ℕ
  pub present : token.signed.encapsulated.content ≡ Some content
  pub encodes_stamp : EncodesTst content token.stamp
  pub one_signer : token.signed.signers ≡ token.signer ∷ []

-- The messageImprint "MUST have the same value as the similar field in TimeStampReq": the same hash, by the algorithm
-- of the same identifier. An algorithm has its parameters absent or NULL, and means the same by both (RFC 5754, 2), so
-- they aren't compared.
pub record SameImprint (asked stamped : ImprintValue) : Type 0 where
  pub algorithm : asked.algorithm.oid ≡ stamped.algorithm.oid
  pub digest : asked.digest ≡ stamped.digest

-- "The nonce field MUST be present if it was present in the TimeStampReq. In such a case it MUST equal the value
-- provided"
abbrev pub HasNonce : RequestValue → TstValue → Type 0
HasNonce request stamp = IfSome request.nonce (λ n. stamp.nonce ≡ Some n)

-- "If a similar field was present in the TimeStampReq, then it MUST have the same value"
abbrev pub HasPolicy : RequestValue → TstValue → Type 0
HasPolicy request stamp = IfSome request.policy (λ p. stamp.policy ≡ p)

-- these octets encode a certificate, and the attributes name it as those of a token must (RFC 5816, 2.2.1)
abbrev pub IsNamed : List AttributeValue → List ℕ → Type 0
IsNamed attributes octets = (c : CertificateValue) × EncodesCertificate octets c × MustName attributes c

-- "The TSA's public key certificate that is referenced by the ESSCertID identifier inside a SigningCertificate
-- attribute" is among the certificates of the token (2.4.1). The attribute must be a signed one.
pub record HasCertificate (token : TokenValue) : Type 0 where
  pub attributes : List AttributeValue
  pub states : token.signer.signed_attributes ≡ Some attributes
  pub certificates : List (List ℕ)
  pub carries : token.signed.certificates ≡ Some certificates
  pub named : Any (IsNamed attributes) certificates

-- it "MUST be provided" if the request's "certReq field is present and set to true" (2.4.1)
abbrev pub HasWhatIsAsked : RequestValue → TokenValue → Type 0
HasWhatIsAsked request token = request.cert_req ≡ True → HasCertificate token

-- the response answers the request
pub record Answering (request : RequestValue) (response : ResponseValue) : Type 0 where
  pub granted : IsGranted response
  pub octets : List ℕ
  pub holds : response.token ≡ Some octets
  pub token : TokenValue
  pub is_stamp : IsTimeStamp octets token
  pub imprint : SameImprint request.imprint token.stamp.imprint
  pub nonce : HasNonce request token.stamp
  pub policy : HasPolicy request token.stamp
  pub certificate : HasWhatIsAsked request token

-- ---- the order of the rules

-- `failed` is the first that fails of this rule, which demands a fact, and of those after it: this rule if the fact
-- doesn't hold; if it holds, the first of those after it that fails.
abbrev pub Asks : (Fact : Type 0) → MatchFault → (Behind : MatchFault → Type 0) → MatchFault → Type 0
Asks Fact rule Behind failed = ((Fact → ⊥) × (failed ≡ rule)) ⊎ (Fact × Behind failed)

-- the same for a rule that demands a value of which the fact holds; the rules after it depend on that value
abbrev pub AsksFor : {A : Type 0} (Fact : A → Type 0)
    → MatchFault → (Behind : A → MatchFault → Type 0) → MatchFault → Type 0
AsksFor {A} Fact rule Behind failed = (((x : A) → Fact x → ⊥) × (failed ≡ rule)) ⊎ ((x : A) × Fact x × Behind x failed)

-- the token isn't one that was requested, and this is the first of P4 to P7 that fails
abbrev pub TokenFails : RequestValue → TokenValue → MatchFault → Type 0
TokenFails request token failed =
    Asks (SameImprint request.imprint token.stamp.imprint) rule.Imprint
    (Asks (HasNonce request token.stamp) rule.Nonce (Asks (HasPolicy request token.stamp) rule.Policy
    (Asks (HasWhatIsAsked request token) rule.CertMissing (λ other. ⊥)))) failed

-- these are the octets of the token of a response that was granted
pub record IsGrantedToken (response : ResponseValue) (octets : List ℕ) : Type 0 where
  pub granted : IsGranted response
  pub holds : response.token ≡ Some octets

-- there are none, and this is the first of P1 and P2 that fails
abbrev pub LacksToken : ResponseValue → MatchFault → Type 0
LacksToken response failed = Asks (IsGranted response) rule.Status
    (AsksFor (λ octets. response.token ≡ Some octets) rule.NoToken (λ octets other. ⊥)) failed

-- the response doesn't answer the request, and this is the first of P1 to P7 that fails
abbrev pub MatchFails : RequestValue → ResponseValue → MatchFault → Type 0
MatchFails request response failed =
    Asks (IsGranted response) rule.Status (AsksFor (λ octets. response.token ≡ Some octets) rule.NoToken (λ octets.
    AsksFor (IsTimeStamp octets) rule.TokenMalformed (TokenFails request))) failed
