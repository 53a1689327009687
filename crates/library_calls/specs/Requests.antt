-- What the calls say that make a request.
use Rattle.std.specs.Prelude.{◌≡◌, ◌≤◌, ◌<◌, ◌^◌, ◌⊎◌, ℕ, Bool, true, false, List, [], length, Option, Some, None}
use Rattle.std.specs.Prelude.{IfSome, codes}
use Rattle.std.specs.Str.{IsUtf8}
use Rattle.der_core.specs.Contents.{is_integer}
use Rattle.der_oid_text.specs.OidText.{Spells}
use Rattle.digests.specs.declared.algorithm.Alg.{Alg}
use Rattle.digests.specs.declared.value.Digest.{Digest}
use Rattle.digests.specs.Algorithms.{name_of, length_of}
use Rattle.digests.specs.Digests.{alg_of, octets_of}
use Rattle.digests.specs.Messages.{digest_of}
use Rattle.tsp_types.specs.RequestValue.{EncodesRequest, request_parts}
use Rattle.tsp_types.specs.Asked.{asked}
use Rattle.cli_failures.specs.declared.failure.Failure.{Failure}
use Rattle.cli_failures.specs.declared.failure.Failure.TheVariants as failure
use Rattle.cli_failures.specs.Causes.{Names}
use Rattle.cli_failures.specs.Requests.{longer}
use Rattle.cli_failures.specs.Signatures.{IsSignatureDigest, HasNoSigner}
use Rattle.library_answers.specs.declared.answer.Answer.{Answer}
use Rattle.library_answers.specs.Failures.{IsMade, IsUnmade}

-- the digest by the algorithm of this name that has these octets, as many as the algorithm gives
pub record IsGiven (name octets : List ℕ) (digest : Digest) : Type 0 where
  pub named : name ≡ name_of (alg_of digest)
  pub is : octets_of digest ≡ octets
  pub sized : length (octets_of digest) ≡ length_of (alg_of digest)

-- the digest by the algorithm of this name of these octets
abbrev pub IsHashed : (name octets : List ℕ) → Digest → Type 0
IsHashed name octets digest = (name ≡ name_of (alg_of digest)) × (octets_of digest ≡ digest_of (alg_of digest) octets)

-- the object identifier that a text spells; an empty text is none
abbrev pub IsPolicy : (text : List ℕ) → Option (List ℕ) → Type 0
IsPolicy text None = text ≡ []
IsPolicy text (Some b) = Spells text b

-- the contents of an INTEGER; no octets are none
abbrev pub IsNonce : (octets : List ℕ) → Option (List ℕ) → Type 0
IsNonce octets None = octets ≡ []
IsNonce octets (Some b) = b ≡ octets

-- the policy and the nonce are as they must be: of an object identifier and an INTEGER, or none
pub record AreValues (policy nonce : List ℕ) : Type 0 where
  pub oid : Option (List ℕ)
  pub is_policy : IsPolicy policy oid
  pub number : Option (List ℕ)
  pub is_nonce : IsNonce nonce number
  pub integer : IfSome number (λ b. is_integer b ≡ true)

-- these octets encode the request for this digest
abbrev pub IsRequestOf : Digest → (policy nonce : List ℕ) (certificate : Bool) (octets : List ℕ) → Type 0
IsRequestOf digest policy nonce certificate octets = (values : AreValues policy nonce)
    × EncodesRequest octets (asked digest values.oid values.number certificate)

-- no algorithm has this name
abbrev pub RefusesAlg : (name : List ℕ) → Failure → Type 0
RefusesAlg name f = Names (codes "alg") f × ((IsUtf8 name → ⊥) ⊎ ((alg : Alg) → name ≡ name_of alg → ⊥))

-- an algorithm has this name, and there is no such digest
abbrev pub RefusesDigest : (name : List ℕ) (IsDigest : Digest → Type 0) → Failure → Type 0
RefusesDigest name IsDigest f = Names (codes "digest") f × ((alg : Alg) × (name ≡ name_of alg))
    × ((digest : Digest) → IsDigest digest → ⊥)

-- there is a text, and it isn't an object identifier
abbrev pub RefusesPolicy : (text : List ℕ) → Failure → Type 0
RefusesPolicy text f = Names (codes "policy") f × (0 < length text)
    × ((IsUtf8 text → ⊥) ⊎ ((b : List ℕ) → Spells text b → ⊥))

-- there are octets, and they aren't the contents of an INTEGER
abbrev pub RefusesNonce : (octets : List ℕ) → Failure → Type 0
RefusesNonce octets f = Names (codes "nonce") f × (0 < length octets) × (is_integer octets ≡ false)

-- the policy is as it must be, and the nonce isn't
abbrev pub RefusesAfterPolicy : (policy nonce : List ℕ) → Failure → Type 0
RefusesAfterPolicy policy nonce f = ((oid : Option (List ℕ)) × IsPolicy policy oid) × RefusesNonce nonce f

-- a request of this digest would be longer than an element can be
abbrev pub RefusesLength : Digest → (policy nonce : List ℕ) (certificate : Bool) → Failure → Type 0
RefusesLength digest policy nonce certificate f = (values : AreValues policy nonce) × Names (longer values.oid) f
    × (2 ^ 32 ≤ length (request_parts (asked digest values.oid values.number certificate)))

-- memory was refused, or the first value that isn't as it must be is named: policy, then nonce
abbrev pub RefusesValues : Digest → (policy nonce : List ℕ) (certificate : Bool) → Failure → Type 0
RefusesValues digest policy nonce certificate f = (f ≡ failure.Memory) ⊎ (RefusesPolicy policy f
    ⊎ (RefusesAfterPolicy policy nonce f ⊎ RefusesLength digest policy nonce certificate f))

-- the same, and before them the algorithm's name and the digest
abbrev pub Refuses : (IsDigest : Digest → Type 0) → (name policy nonce : List ℕ) (certificate : Bool) → Failure → Type 0
Refuses IsDigest name policy nonce certificate f = (RefusesAlg name f ⊎ RefusesDigest name IsDigest f)
    ⊎ ((digest : Digest) × IsDigest digest × RefusesValues digest policy nonce certificate f)

-- The algorithm's name, the policy and the nonce are judged in this order, and then the file: it has no such signer, or
-- a request of the digest of its signature would be too long; or memory was refused.
abbrev pub RefusesFile : Alg → (file : List ℕ) (number : ℕ) (policy nonce : List ℕ) (certificate : Bool) → Failure
    → Type 0
RefusesFile alg file number policy nonce certificate f = AreValues policy nonce × (HasNoSigner file number f
    ⊎ ((digest : Digest) × IsSignatureDigest alg file number digest
    × RefusesLength digest policy nonce certificate f))

abbrev pub RefusesStamped : Alg → (file : List ℕ) (number : ℕ) (policy nonce : List ℕ) (certificate : Bool) → Failure
    → Type 0
RefusesStamped alg file number policy nonce certificate f = (f ≡ failure.Memory) ⊎ (RefusesPolicy policy f
    ⊎ (RefusesAfterPolicy policy nonce f ⊎ RefusesFile alg file number policy nonce certificate f))

abbrev pub RefusesSignature : (name file : List ℕ) (number : ℕ) (policy nonce : List ℕ) (certificate : Bool) → Failure
    → Type 0
RefusesSignature name file number policy nonce certificate f = RefusesAlg name f
    ⊎ ((alg : Alg) × (name ≡ name_of alg) × RefusesStamped alg file number policy nonce certificate f)

-- these octets encode the request for the digest, by the algorithm of this name, of the signature of this signer
abbrev pub IsRequestOfSignature : (name file : List ℕ) (number : ℕ) (policy nonce : List ℕ) (certificate : Bool)
    → (octets : List ℕ) → Type 0
IsRequestOfSignature name file number policy nonce certificate octets = (alg : Alg) × (name ≡ name_of alg)
    × ((digest : Digest) × IsSignatureDigest alg file number digest
    × IsRequestOf digest policy nonce certificate octets)

-- the octets of that request, or why there is none
abbrev pub IsSignatureRequested : (name file : List ℕ) (number : ℕ) (policy nonce : List ℕ) (certificate : Bool)
    (said : Answer) (status : ℕ) (before : List ℕ) (size : ℕ) (after : List ℕ) → Type 0
IsSignatureRequested name file number policy nonce certificate said status before size after =
    ((octets : List ℕ) × IsRequestOfSignature name file number policy nonce certificate octets
    × IsMade octets said status before size after)
    ⊎ ((f : Failure) × RefusesSignature name file number policy nonce certificate f
    × IsUnmade f said status before size after)

-- the octets of the request, or why there is none
abbrev pub IsRequested : (IsDigest : Digest → Type 0) → (name policy nonce : List ℕ) (certificate : Bool)
    (said : Answer) (status : ℕ) (before : List ℕ) (size : ℕ) (after : List ℕ) → Type 0
IsRequested IsDigest name policy nonce certificate said status before size after =
    ((octets : List ℕ) × (digest : Digest) × IsDigest digest × IsRequestOf digest policy nonce certificate octets
    × IsMade octets said status before size after)
    ⊎ ((f : Failure) × Refuses IsDigest name policy nonce certificate f × IsUnmade f said status before size after)
