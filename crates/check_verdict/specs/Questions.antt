-- What a verifier may be asked of a file.
use Rattle.std.specs.Prelude.{◌≡◌, ◌↔◌, Bool, ◌⊎◌, ℕ, List, [], ◌∷◌, Contains, Option, Some}
use Rattle.cms_types.specs.AttributeValue.{AttributeValue}
use Rattle.cms_types.specs.SignerValue.{SignerValue}
use Rattle.cms_types.specs.SignedDataValue.{SignedDataValue, EncodesSignedData}
use Rattle.check_fit.specs.declared.rules.Refused.{Refused}
use Rattle.check_fit.specs.declared.rules.TokenRule.{TokenRule}
use Rattle.trust_lists.specs.declared.role.Role.{Role}
use Rattle.trust_lists.specs.Entries.{EntryValue}
use Rattle.trust_lists.specs.Asking.{Asked}
use Rattle.trust_lists.specs.declared.role.Role.TheVariants.{Signer, Tsa}
use Rattle.check_verdict.specs.Trusted.{asked}
use Rattle.check_names.specs.Naming.{Matches}
use Rattle.check_verdict.specs.Passing.{Terms, Due, PassesFor}
use Rattle.check_verdict.specs.TokenRules.{TokenFailsFor}
use Rattle.check_verdict.specs.Verdicts.{tokens, Yes, Refuses}

-- a question about a signer with signed attributes, under an entry of this role that matches
pub record IsAbout (trust : List EntryValue) (role : Role) (s : SignerValue) (q : Asked) : Type 0 where
  pub attributes : List AttributeValue
  pub has : s.signed_attributes ≡ Some attributes
  pub entry : EntryValue
  pub trusted : Contains trust entry
  pub has_role : entry.role ≡ role
  pub matches : Matches s.sid entry.certificate
  pub is : q ≡ asked entry.certificate s attributes

-- a question about the one signer of a token
pub record IsAboutToken (trust : List EntryValue) (token : List ℕ) (q : Asked) : Type 0 where
  pub signed : SignedDataValue
  pub encodes : EncodesSignedData token signed
  pub signer : SignerValue
  pub one_signer : signed.signers ≡ signer ∷ []
  pub about : IsAbout trust Tsa signer q

-- a member of the questions of a file
pub record IsQuestion (trust : List EntryValue) (file : List ℕ) (q : Asked) : Type 0 where
  pub signed : SignedDataValue
  pub encodes : EncodesSignedData file signed
  pub signer : SignerValue
  pub among : Contains signed.signers signer
  pub attributes : List AttributeValue
  pub has : signer.signed_attributes ≡ Some attributes
  pub about : IsAbout trust Signer signer q ⊎ ((token : List ℕ) × Contains (tokens signer) token
      × IsAboutToken trust token q)

-- these answers to the questions of the file are those of the verifier
abbrev pub Answers : Terms → (file : List ℕ) → (Asked → Bool) → Type 0
Answers t file answers = (q : Asked) → IsQuestion t.trust file q → answers q ≡ t.vouches q

abbrev pub with_answers : Terms → (Asked → Bool) → Terms
with_answers t answers = record { policy = t.policy; trust = t.trust; vouches = answers }

-- an acceptance with such answers is one with the verifier's, and so is a refusal
abbrev pub YesSuffices : Type 0
YesSuffices = (t : Terms) (file : List ℕ) (handed : Option (List ℕ)) (answers : Asked → Bool) → Answers t file answers
    → (m : ℕ) → Yes t file handed m ↔ Yes (with_answers t answers) file handed m

abbrev pub RefusalsSuffice : Type 0
RefusalsSuffice = (t : Terms) (file : List ℕ) (handed : Option (List ℕ)) (answers : Asked → Bool)
    → Answers t file answers → (r : Refused) → Refuses t file handed r ↔ Refuses (with_answers t answers) file handed r

-- these answers to the questions about the token are those of the verifier
abbrev pub AnswersOfToken : Terms → (token : List ℕ) → (Asked → Bool) → Type 0
AnswersOfToken t token answers = (q : Asked) → IsAboutToken t.trust token q → answers q ≡ t.vouches q

-- a token passes with such answers exactly if it does with the verifier's, and so it fails
abbrev pub PassingSuffices : Type 0
PassingSuffices = (t : Terms) (token : List ℕ) (due : Due) (answers : Asked → Bool) → AnswersOfToken t token answers
    → (m : ℕ) → PassesFor t token due m ↔ PassesFor (with_answers t answers) token due m

abbrev pub FailuresSuffice : Type 0
FailuresSuffice = (t : Terms) (token : List ℕ) (due : Due) (answers : Asked → Bool) → AnswersOfToken t token answers
    → (failed : TokenRule) → TokenFailsFor t token due failed ↔ TokenFailsFor (with_answers t answers) token due failed
