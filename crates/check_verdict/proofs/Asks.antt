-- What a verifier is asked in a check is a question of the file.
use Rattle.std.proofs.Common.{◌≡◌, ℕ, Bool, true, List, ◌∷◌, ◌++◌, Some, None, refl, sym, subst, arith, inl, inr}
use Rattle.std.specs.Prelude.{Contains}
use Rattle.std.proofs.lemmas.List.Elements.{Contains-append_right}
use Rattle.cms_types.specs.SignerValue.{SignerValue}
use Rattle.cms_types.specs.SignedDataValue.{SignedDataValue, EncodesSignedData}
use Rattle.check_fit.specs.Fitting.{Fits}
use Rattle.check_fit.specs.FileFitting.{IsReading}
use Rattle.check_fit.specs.declared.policy.Policy.{Policy}
use Rattle.trust_lists.specs.Entries.{EntryValue}
use Rattle.trust_lists.specs.Asking.{Asked}
use Rattle.check_names.specs.Naming.{NamesIfAny}
use Rattle.check_verdict.specs.Trusted.{asked}
use Rattle.check_verdict.specs.Passing.{Terms, Due, of_octets, Passes}
use Rattle.check_verdict.specs.Verdicts.{tokens, IsStamped}
use Rattle.check_verdict.specs.SignerStages.{IsSignersAt}
use Rattle.check_verdict.specs.Asks.{IsAskedFor, IsAskedOfToken, IsAskedOf, IsAskedIn, AsksOnly}
use Rattle.check_verdict.specs.Questions.{IsAboutToken, IsQuestion}
use Rattle.check_verdict.proofs.Claims.{claim_says, signer_says}

-- of a token
pub about_token : (policy : Policy) (trust : List EntryValue) (due : Due) (token : List ℕ) (q : Asked)
    → IsAskedFor policy trust due token q
    → IsAboutToken trust token q
about_token policy trust due token q a =
    let k = a.is_claim in
    let says = claim_says policy due k.0 k.1 a.claim (sym k.3) in
    let signed = signer_says policy due k.0 k.1 a.claim says in
    let ((((role, same), _), _), _) = a.passed in
    record {
      signed = says.states.value;
      encodes = subst (IsReading token) says.states.reads k.2.is_signed;
      signer = a.claim.signer;
      one_signer = signed.0;
      about = record {
        attributes = a.claim.attributes;
        has = signed.1;
        entry = a.entry;
        trusted = a.trusted;
        has_role = role;
        matches = same;
        is = a.is;
      };
    }

-- of a signer of the file
pub question_of_file :
    (t : Terms) (file content econtent_type : List ℕ) (v : SignedDataValue) (s : SignerValue) (q : Asked)
    → EncodesSignedData file v → Contains v.signers s → IsAskedOf t content econtent_type s q
    → IsQuestion t.trust file q
question_of_file t file content econtent_type v s q encodes among a = record {
  signed = v;
  encodes = encodes;
  signer = s;
  among = among;
  attributes = a.fits.attributes;
  has = a.fits.present;
  about = elim a.about [
    | inl o ↦ inl (record {
      attributes = a.fits.attributes;
      has = a.fits.present;
      entry = o.entry;
      trusted = o.trusted;
      has_role = o.passed.0.role;
      matches = o.passed.0.matches;
      is = o.is;
    })
    | inr o ↦ inr (o.0, o.1, about_token t.policy t.trust (of_octets s.signature) o.0 q o.2)
  ];
}

-- of the signers of a SignedData, with the type of its content
pub of_signed_data : (t : Terms) (content econtent_type : List ℕ) (signers : List SignerValue) (v : SignedDataValue)
    (OnlyAsked : (Asked → Bool) → Type 0) → econtent_type ≡ v.encapsulated.content_type → signers ≡ v.signers
    → ((test : Asked → Bool)
    → ((s : SignerValue) → Contains signers s → (q : Asked) → IsAskedOf t content econtent_type s q → test q ≡ true)
    → OnlyAsked test) → AsksOnly OnlyAsked (IsAskedIn t content v)
of_signed_data t content econtent_type signers v OnlyAsked k ss h = λ test asks. h test (λ s among q a. asks q (record {
  signer = s;
  among = subst (λ (xs : List SignerValue). Contains xs s) ss among;
  about = subst (λ (x : List ℕ). IsAskedOf t content x s q) k a;
}))

module _ (t : Terms) (content econtent_type : List ℕ) (s : SignerValue)
    (fits : Fits t.policy content econtent_type s) where
  module _ (e : EntryValue) (trusted : Contains t.trust e) (named : NamesIfAny fits.attributes e.certificate) where
    -- of an entry that holds at the moment of a token
    pub asked_at : (m : ℕ) → IsStamped t s m → IsSignersAt s (Some m) e
        → IsAskedOf t content econtent_type s (asked e.certificate s fits.attributes)
    asked_at m stamped p = record {
      fits = fits;
      about = inl (record {
        entry = e;
        trusted = trusted;
        passed = (record { role = p.role; matches = p.matches; period = λ n k. (m, stamped, p.period) }, named);
        is = refl;
      });
    }

    -- where no token passes
    pub asked_unstamped : ((m : ℕ) → IsStamped t s m → ⊥) → IsSignersAt s None e
        → IsAskedOf t content econtent_type s (asked e.certificate s fits.attributes)
    asked_unstamped never p = record {
      fits = fits;
      about = inl (record {
        entry = e;
        trusted = trusted;
        passed = (record { role = p.role; matches = p.matches; period = λ n k. absurd (never n k) }, named);
        is = refl;
      });
    }

  -- of a token of the signer
  pub asked_token : (token : List ℕ) → Contains (tokens s) token → (q : Asked)
      → IsAskedOfToken t.policy t.trust s.signature token q
      → IsAskedOf t content econtent_type s q
  asked_token token among q a = record { fits = fits; about = inr (token, among, a) }

-- a token of the signer that passes
pub stamped_by : (t : Terms) (s : SignerValue) (token : List ℕ) (m : ℕ) → Contains (tokens s) token
    → Passes t token s.signature m → IsStamped t s m
stamped_by t s token m among passes = (among.0, token, among.1, among.2, passes)

-- what stands between others in a list is in it
pub among_all : {A : Type 0} (before : List A) (x : A) (others all : List A) → before ++ x ∷ others ≡ all
    → Contains all x
among_all {A} before x others all is =
    subst (λ (l : List A). Contains l x) is (Contains-append_right before (x ∷ others) x (0, omega arith, refl))
