-- The questions of a file and of a token in their order.
use Rattle.std.specs.Prelude.{◌≡◌, ℕ, ◌⊎◌, List, [], ◌∷◌, ◌++◌, Some, MatchOption}
use Rattle.cms_types.specs.AttributeValue.{AttributeValue}
use Rattle.cms_types.specs.SignerValue.{SignerValue}
use Rattle.cms_types.specs.SignedDataValue.{SignedDataValue, EncodesSignedData}
use Rattle.check_names.specs.Naming.{Matches}
use Rattle.trust_lists.specs.declared.role.Role.{Role}
use Rattle.trust_lists.specs.declared.role.Role.TheVariants.{Signer, Tsa}
use Rattle.trust_lists.specs.Entries.{EntryValue}
use Rattle.trust_lists.specs.Asking.{Asked}
use Rattle.check_verdict.specs.Trusted.{asked}
use Rattle.check_verdict.specs.Verdicts.{tokens}

-- a list of the first kind, and after it one of the second
pub record Joined {B : Type 0} (First Others : List B → Type 0) (ys : List B) : Type 0 where
  pub first : List B
  pub is_first : First first
  pub others : List B
  pub are_others : Others others
  pub is : ys ≡ first ++ others

-- for each of these, in their order, a list that belongs to it, one after the other
abbrev pub InOrder : {A B : Type 0} → (A → List B → Type 0) → List A → List B → Type 0
InOrder Has [] ys = ys ≡ []
InOrder Has (x ∷ xs) ys = Joined (Has x) (InOrder Has xs) ys

-- the one of which this holds, or nothing if it holds of none
abbrev pub OneOrNone : {B : Type 0} → (B → Type 0) → List B → Type 0
OneOrNone Is ys = ((y : _) × Is y × (ys ≡ y ∷ [])) ⊎ (((y : _) → Is y → ⊥) × (ys ≡ []))

-- ---- a signer

-- the question about a signer with signed attributes under an entry, which has this role and whose certificate matches
pub record IsUnder (role : Role) (s : SignerValue) (e : EntryValue) (q : Asked) : Type 0 where
  pub has_role : e.role ≡ role
  pub matches : Matches s.sid e.certificate
  pub attributes : List AttributeValue
  pub has : s.signed_attributes ≡ Some attributes
  pub is : q ≡ asked e.certificate s attributes

abbrev pub OfEntry : Role → SignerValue → EntryValue → List Asked → Type 0
OfEntry role s e qs = OneOrNone (IsUnder role s e) qs

-- the questions about a signer under the entries of this role, in the list's order
abbrev pub OfEntries : Role → SignerValue → (trust : List EntryValue) → List Asked → Type 0
OfEntries role s trust qs = InOrder (OfEntry role s) trust qs

-- ---- a token

-- the token encodes a SignedData with exactly one signer, and it is this one
pub record IsSigned (token : List ℕ) (s : SignerValue) : Type 0 where
  pub signed : SignedDataValue
  pub encodes : EncodesSignedData token signed
  pub one_signer : signed.signers ≡ s ∷ []

-- the questions about the one signer of a token under the entries of authorities; a token without one has none
abbrev pub OfToken : (trust : List EntryValue) → (token : List ℕ) → List Asked → Type 0
OfToken trust token qs = ((s : SignerValue) × IsSigned token s × OfEntries Tsa s trust qs)
    ⊎ (((s : SignerValue) → IsSigned token s → ⊥) × (qs ≡ []))

-- those of a token by itself, which encodes a SignedData
pub record AreQuestionsOfToken (trust : List EntryValue) (token : List ℕ) (qs : List Asked) : Type 0 where
  pub signed : SignedDataValue
  pub encodes : EncodesSignedData token signed
  pub are : OfToken trust token qs

-- ---- a file

-- the questions about a signer, and then those about its tokens; without signed attributes it has none
abbrev pub OfSigner : (trust : List EntryValue) → SignerValue → List Asked → Type 0
OfSigner trust s qs = MatchOption s.signed_attributes (qs ≡ [])
    (λ _. Joined (OfEntries Signer s trust) (InOrder (OfToken trust) (tokens s)) qs)

-- those about signers, in their order
abbrev pub AreQuestions : (trust : List EntryValue) → List SignerValue → List Asked → Type 0
AreQuestions trust signers qs = InOrder (OfSigner trust) signers qs

-- those of a file, which encodes a SignedData
pub record AreQuestionsOf (trust : List EntryValue) (file : List ℕ) (qs : List Asked) : Type 0 where
  pub signed : SignedDataValue
  pub encodes : EncodesSignedData file signed
  pub are : AreQuestions trust signed.signers qs
