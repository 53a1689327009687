-- Whether a content and the signed attributes of a signer belong together (RFC 5652, 5.4, 5.6, 11.1, 11.2).
use Rattle.std.specs.Prelude.{◌≡◌, ℕ, ◌+◌, Bool, true, ◌⊎◌, List, [], ◌∷◌, length, ◌<◌, ◌^◌, Option, Some, None, Result}
use Rattle.std.specs.Prelude.{Ok, Err, if◌then◌else◌}
use Rattle.std.specs.Option.{ok_or}
use Rattle.der_core.specs.Element.{el, has_tag}
use Rattle.der_core.specs.Results.{◌>>=◌}
use Rattle.digests.specs.Algorithms.{Names}
use Rattle.digests.specs.Messages.{digest_of}
use Rattle.digests.specs.Named.{alg_named}
use Rattle.digests.specs.Sets.{is_in}
use Rattle.digests.specs.declared.algorithm.Alg.{Alg}
use Rattle.cms_types.specs.AttributeValue.{AttributeValue}
use Rattle.cms_types.specs.SignerValue.{SignerValue}
use Rattle.check_fit.specs.declared.policy.Policy.{Policy}
use Rattle.check_fit.specs.declared.rules.SignerRule.{SignerRule}
use Rattle.check_fit.specs.declared.rules.SignerRule.TheVariants as rule
use Rattle.check_fit.specs.Attributes.{single_value, is_element_of}

-- content-type, 1.2.840.113549.1.9.3 (RFC 5652, 11.1), and message-digest, 1.2.840.113549.1.9.4 (RFC 5652, 11.2)
abbrev pub id_content_type : List ℕ
id_content_type = 0x2a ∷ 0x86 ∷ 0x48 ∷ 0x86 ∷ 0xf7 ∷ 0x0d ∷ 0x01 ∷ 0x09 ∷ 0x03 ∷ []

abbrev pub id_message_digest : List ℕ
id_message_digest = 0x2a ∷ 0x86 ∷ 0x48 ∷ 0x86 ∷ 0xf7 ∷ 0x0d ∷ 0x01 ∷ 0x09 ∷ 0x04 ∷ []

-- an algorithm is allowed if the policy has it
abbrev pub is_allowed : Policy → Alg → Bool
is_allowed policy alg = is_in alg policy.allowed

-- the policy of a user who says whether SHA-1 is allowed: all other algorithms are
abbrev pub with_sha1 : (sha1 : Bool) → Policy
with_sha1 sha1 = record {
  allowed = record {
    sha1 = sha1;
    sha224 = true;
    sha256 = true;
    sha384 = true;
    sha512 = true;
    sha512_224 = true;
    sha512_256 = true;
  };
}

-- the algorithm, if there is one and it is allowed
abbrev pub allowed : Policy → Option Alg → Option Alg
allowed policy None = None
allowed policy (Some alg) = if is_allowed policy alg then Some alg else None

-- The content and the signed attributes belong together: facts in no order. The value of the content-type attribute is
-- the type of the content, and that of the message-digest attribute is the content's digest by the signer's digest
-- algorithm. Each of the two occurs once with one value.
pub record Fits (policy : Policy) (content econtent_type : List ℕ) (s : SignerValue) : Type 0 where
  pub attributes : List AttributeValue
  pub present : s.signed_attributes ≡ Some attributes
  pub content_type : single_value attributes id_content_type ≡ Some (el 0x06 econtent_type)
  pub size : length econtent_type < 2 ^ 32
  pub alg : Alg
  pub named : Names s.digest_algorithm.oid s.digest_algorithm.parameters alg
  pub allows : is_allowed policy alg ≡ true
  pub digest : single_value attributes id_message_digest ≡ Some (el 0x04 (digest_of alg content))

-- The order of the rules.

-- S2 and S3
unfoldable pub content_type_fits : List AttributeValue → List ℕ → Result (Unit {0}) SignerRule
content_type_fits attributes econtent_type =
    ok_or (single_value attributes id_content_type) rule.ContentTypeAttr >>= λ x.
    if has_tag 0x06 x then (if is_element_of 0x06 econtent_type x then Ok tt else Err rule.ContentTypeDiffers)
    else Err rule.ContentTypeAttr

-- S4: the value of the message-digest attribute
unfoldable pub stated_digest : List AttributeValue → Result (List ℕ) SignerRule
stated_digest attributes = ok_or (single_value attributes id_message_digest) rule.DigestAttr >>= λ y.
    if has_tag 0x04 y then Ok y else Err rule.DigestAttr

-- S6
abbrev pub digest_fits : List ℕ → List ℕ → Result (Unit {0}) SignerRule
digest_fits digest y = if is_element_of 0x04 digest y then Ok tt else Err rule.DigestDiffers

-- the value of the message-digest attribute, and the algorithm that the signer's digest algorithm names; or the first
-- of S1 to S5 that fails
unfoldable pub signer_claim : Policy → List ℕ → SignerValue → Result (List ℕ × Alg) SignerRule
signer_claim policy econtent_type s = ok_or s.signed_attributes rule.NoSignedAttrs >>= λ attributes.
    content_type_fits attributes econtent_type >>= λ u.
    stated_digest attributes >>= λ y.
    ok_or (allowed policy (alg_named s.digest_algorithm)) rule.DigestAlgorithm >>= λ alg. Ok (y, alg)

-- the first of S1 to S6 that fails, or none
abbrev pub signer_answer : Policy → (content econtent_type : List ℕ) → SignerValue → Result (Unit {0}) SignerRule
signer_answer policy content econtent_type s = signer_claim policy econtent_type s
    >>= λ c. digest_fits (digest_of c.1 content) c.0

-- the first of S1 to S4 that fails, or S5: what is said of a signer if the digest by its algorithm is not at hand
abbrev pub unhashed_answer : Policy → (econtent_type : List ℕ) → SignerValue → Result (Unit {0}) SignerRule
unhashed_answer policy econtent_type s = signer_claim policy econtent_type s >>= λ c. Err rule.DigestAlgorithm

-- the rule that a signer fails first
abbrev pub FailsFirst : Policy → (content econtent_type : List ℕ) → SignerValue → SignerRule → Type 0
FailsFirst policy content econtent_type s rule = signer_answer policy content econtent_type s ≡ Err rule

-- a signer's digest algorithm is this one, and it is allowed
abbrev pub Wants : Policy → SignerValue → Alg → Type 0
Wants policy s alg = allowed policy (alg_named s.digest_algorithm) ≡ Some alg

-- one of the signers wants it
abbrev pub WantedBy : Policy → List SignerValue → Alg → Type 0
WantedBy policy [] alg = ⊥
WantedBy policy (s ∷ signers) alg = Wants policy s alg ⊎ WantedBy policy signers alg

-- signers, the first of which has the number n: `unfit` is none if no signer fails a rule, and otherwise the first that
-- fails one, with the first rule that it fails
abbrev pub Judged : Policy → (content econtent_type : List ℕ) → (n : ℕ) → List SignerValue
    → Option (ℕ × SignerRule) → Type 0
Judged policy content econtent_type n [] unfit = unfit ≡ None
Judged policy content econtent_type n (s ∷ signers) unfit =
    (Fits policy content econtent_type s × Judged policy content econtent_type (n + 1) signers unfit)
    ⊎ ((rule : SignerRule) × FailsFirst policy content econtent_type s rule × (unfit ≡ Some (n, rule)))
