-- When a token passes (RFC 3161, 2.4.2 and 4; RFC 5652, 5.6): facts in no order.
use Rattle.std.specs.Prelude.{◌≡◌, ◌≢◌, ℕ, Bool, true, List, [], ◌∷◌, Option, Some, None, Any, unwrap_or}
use Rattle.std.specs.Prelude.{if◌then◌else◌}
use Rattle.std.specs.List.{AllByRecursion}
use Rattle.der_core.specs.declared.flag.Flag.TheVariants.{True}
use Rattle.der_time.specs.Moments.{generalized_moment}
use Rattle.cert_types.specs.ExtensionValue.{ExtensionValue}
use Rattle.cert_types.specs.Purposes.{IsStampingOnly}
use Rattle.digests.specs.Algorithms.{Names}
use Rattle.digests.specs.Digests.{alg_of, octets_of}
use Rattle.digests.specs.Messages.{digest_of}
use Rattle.digests.specs.Named.{is_alg}
use Rattle.digests.specs.declared.algorithm.Alg.{Alg}
use Rattle.digests.specs.declared.value.Digest.{Digest}
use Rattle.cms_types.specs.AttributeValue.{AttributeValue}
use Rattle.cms_types.specs.SignerValue.{SignerValue}
use Rattle.cms_types.specs.SignedDataValue.{SignedDataValue, EncodesSignedData}
use Rattle.tsp_types.specs.ImprintValue.{ImprintValue}
use Rattle.check_fit.specs.declared.policy.Policy.{Policy}
use Rattle.check_fit.specs.Fitting.{is_allowed, Fits}
use Rattle.tsp_types.specs.TstValue.{TstValue, EncodesTst, id_tst_info}
use Rattle.trust_lists.specs.Entries.{EntryValue}
use Rattle.trust_lists.specs.Asking.{Asked}
use Rattle.trust_lists.specs.declared.role.Role.TheVariants.{Tsa}
use Rattle.check_verdict.specs.Trusted.{Holds, asked}
use Rattle.check_names.specs.Naming.{Matches, MustName}

-- what doesn't change in a check: the policy, the trusted entries, and the verifier's answer to each question
pub record Terms : Type 0 where
  pub policy : Policy
  pub trust : List EntryValue
  pub vouches : Asked → Bool

-- what the imprint of a token must be, by each algorithm; by one that has nothing here no imprint will do
abbrev pub Due : Type 0
Due = Alg → Option (List ℕ)

-- the digest of these octets, if they were stamped
abbrev pub of_octets : (stamped : List ℕ) → Due
of_octets stamped alg = Some (digest_of alg stamped)

-- this digest, by its algorithm alone
abbrev pub of_digest : Digest → Due
of_digest digest alg = if is_alg alg (alg_of digest) then Some (octets_of digest) else None

-- the octets are those that are due, if any are
abbrev pub IsDue : (due : Option (List ℕ)) → List ℕ → Type 0
IsDue (Some digest) octets = octets ≡ digest
IsDue None octets = ⊥

-- the imprint is what is due by its algorithm, which is allowed
pub record IsImprint (policy : Policy) (imprint : ImprintValue) (due : Due) : Type 0 where
  pub alg : Alg
  pub named : Names imprint.algorithm.oid imprint.algorithm.parameters alg
  pub allows : is_allowed policy alg ≡ true
  pub digest : IsDue (due alg) imprint.digest

-- the verifier vouches for the signature of a signer with these signed attributes under the key of an entry
abbrev pub Vouched : Terms → EntryValue → SignerValue → List AttributeValue → Type 0
Vouched t e s attributes = t.vouches (asked e.certificate s attributes) ≡ true

-- the verifier vouches for the token's signer under a trusted entry of an authority, which holds at this moment
pub record StampedUnder (t : Terms) (s : SignerValue) (attributes : List AttributeValue) (m : ℕ)
    (e : EntryValue) : Type 0 where
  pub role : e.role ≡ Tsa
  pub matches : Matches s.sid e.certificate
  pub named : MustName attributes e.certificate
  pub purpose : IsStampingOnly e.certificate
  pub period : Holds e m
  pub vouched : Vouched t e s attributes

-- no extension of the TSTInfo is critical
abbrev pub IsCalm : TstValue → Type 0
IsCalm x = AllByRecursion (λ (e : ExtensionValue). e.critical ≢ True) (unwrap_or x.extensions [])

-- The token, a ContentInfo's octets, passes with this moment, where this is due as its imprint.
pub record PassesFor (t : Terms) (token : List ℕ) (due : Due) (m : ℕ) : Type 0 where
  pub signed : SignedDataValue
  pub encodes : EncodesSignedData token signed
  pub econtent_type : signed.encapsulated.content_type ≡ id_tst_info
  pub content : List ℕ
  pub present : signed.encapsulated.content ≡ Some content
  pub signer : SignerValue
  pub one_signer : signed.signers ≡ signer ∷ []
  pub attributes : List AttributeValue
  pub has : signer.signed_attributes ≡ Some attributes
  pub fits : Fits t.policy content id_tst_info signer
  pub stamp : TstValue
  pub encodes_stamp : EncodesTst content stamp
  pub calm : IsCalm stamp
  pub imprint : IsImprint t.policy stamp.imprint due
  pub moment : generalized_moment stamp.time ≡ m
  pub entry : Any (StampedUnder t signer attributes m) t.trust

-- It passes with this moment for octets that were stamped.
abbrev pub Passes : Terms → (token stamped : List ℕ) → (m : ℕ) → Type 0
Passes t token stamped m = PassesFor t token (of_octets stamped) m
