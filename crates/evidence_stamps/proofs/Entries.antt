-- Which entries a token lasts under, and those that are passed over.
use Rattle.std.proofs.Common.{◌≡◌, ◌↔◌, ℕ, ◌+◌, ◌<◌, Bool, IsTrue, List, [], ◌∷◌, Option, Some, None, Result, Ok, Err}
use Rattle.std.proofs.Common.{length, get_or, refl, sym, ap, subst, ◌∙◌, arith, inl, inr}
use Rattle.std.specs.Prelude.{Any, Contains, slice_get, unwrap_or, IfOk}
use Rattle.std.proofs.lemmas.Bool.{cases_lt}
use Rattle.std.proofs.lemmas.Option.{slice_get_read}
use Rattle.cert_types.specs.CertificateValue.{CertificateValue}
use Rattle.der_core.specs.Lists.{only}
use Rattle.cms_types.specs.AttributeValue.{AttributeValue}
use Rattle.cms_types.specs.SignerValue.{SidValue, SignerValue}
use Rattle.cms_types.specs.SignedDataValue.{SignedDataValue}
use Rattle.trust_lists.specs.Entries.{EntryValue}
use Rattle.trust_lists.specs.Marks.{NoneFrom}
use Rattle.trust_lists.specs.declared.role.Role.TheVariants.{Tsa}
use Rattle.check_verdict.specs.Trusted.{asked}
use Rattle.check_names.specs.Naming.{Matches, MustName}
use Rattle.check_verdict.proofs.Found.{IsMatched}
use Rattle.check_evidence.specs.Grounds.{Grounds}
use Rattle.check_evidence.specs.Standing.{LastsUnder, Lasts}
use Rattle.evidence_stamps.specs.MayLast.{TokenLasts, MayLast, IsAskedToLast}
use Rattle.check_evidence.proofs.States.{some_is}

abbrev pub attributes_of : SignerValue → List AttributeValue
attributes_of s = unwrap_or s.signed_attributes []

-- ---- entries from the first on, where this is true of some

module _ (Is : EntryValue → Type 0) (trust : List EntryValue) where
  pub none_yet : NoneFrom Is trust 0 0
  none_yet i e ge lt is p = omega (arith, lt)

  joined : (from at : ℕ) → NoneFrom Is trust 0 from → NoneFrom Is trust from at → NoneFrom Is trust 0 at
  joined from at before behind i e ge lt is p = elim (cases_lt i from) [
    | inl less ↦ before i e ge less is p
    | inr more ↦ behind i e more lt is p
  ]

  -- none of the entries is left
  pub none_at_all : NoneFrom Is trust 0 (length trust) → Any Is trust → ⊥
  none_at_all none (i, e, lt, is, p) =
      none i e (omega arith) lt (slice_get_read trust (length trust) i e refl lt (sym is)) p

  -- the one at a place
  module _ (at : ℕ) (e : EntryValue) (lt : at < length trust) (is : e ≡ get_or trust at e) where
    pub one_of_them : Is e → Any Is trust
    one_of_them p = (at, e, lt, sym is, p)

    at_it : (Is e → ⊥) → NoneFrom Is trust at (at + 1)
    at_it never i x ge less there p =
        let same : i ≡ at = omega (arith, ge, less) in
        let found = slice_get_read trust (length trust) at e refl lt is in
        let z : x ≡ e = some_is x e (slice_get trust at)
        (subst (λ (k : ℕ). slice_get trust k ≡ Some x) same there) found in
        never (subst Is z p)

    pub none_so_far : (from : ℕ) → NoneFrom Is trust 0 from → NoneFrom Is trust from at → (Is e → ⊥)
        → NoneFrom Is trust 0 (at + 1)
    none_so_far from before passed never = joined at (at + 1) (joined from at before passed) (at_it never)

  pub none_left : (from : ℕ) → NoneFrom Is trust 0 from → NoneFrom Is trust from (length trust) → Any Is trust → ⊥
  none_left from before passed = none_at_all (joined from (length trust) before passed)

-- ---- entries that are passed over

module _ (g : Grounds) (s : SignerValue) (attributes : List AttributeValue) (m until : ℕ) (trust : List EntryValue)
    (sid : SidValue) (is_sid : sid ≡ s.sid) where
  is_matched : (e : EntryValue) → LastsUnder g s attributes m until e → IsMatched Tsa sid e
  is_matched e h = (h.0.role, subst (λ (x : SidValue). Matches x e.certificate) (sym is_sid) h.0.matches)

  pub passed_over : (from at : ℕ) → NoneFrom (IsMatched Tsa sid) trust from at
      → NoneFrom (LastsUnder g s attributes m until) trust from at
  passed_over from at none i e ge lt is p = none i e ge lt is (is_matched e p)

-- ---- a token and its signer

-- no attributes name anybody
unnamed : (c : CertificateValue) → MustName [] c → ⊥
unnamed c h = elim h.some [ inl occurs ↦ occurs refl | inr occurs ↦ occurs refl ]

module _ (signed : SignedDataValue) (s : SignerValue) (one : Some s ≡ only signed.signers) where
  one_of : (ss : List SignerValue) → Some s ≡ only ss → ss ≡ s ∷ []
  one_of [] e = absurd cc
  one_of (x ∷ []) e = let z : x ≡ s = cc in ap (λ (y : SignerValue). y ∷ []) z
  one_of (x ∷ y ∷ ss) e = absurd cc

  pub is_one : signed.signers ≡ s ∷ []
  is_one = one_of signed.signers one

  -- if an entry may be asked about, it has attributes
  has_some : (o : Option (List AttributeValue)) (c : CertificateValue) → MustName (unwrap_or o []) c
      → o ≡ Some (unwrap_or o [])
  has_some None c named = absurd (unnamed c named)
  has_some (Some attributes) c named = refl

  pub is_asked : (trust : List EntryValue) (m until : ℕ) (e : EntryValue) → Contains trust e
      → MayLast s (attributes_of s) m until e
      → IsAskedToLast trust signed m until (asked e.certificate s (attributes_of s))
  is_asked trust m until e among may = record {
    signer = s;
    one_signer = is_one;
    attributes = attributes_of s;
    has = has_some s.signed_attributes e.certificate may.named;
    entry = e;
    trusted = among;
    may = may;
    is = refl;
  }

  module _ (g : Grounds) (m until : ℕ) where
    -- it lasts exactly if its one signer does
    pub token_lasts : Lasts g s (attributes_of s) m until → TokenLasts g signed m until
    token_lasts h = record {
      signer = s;
      one_signer = is_one;
      attributes = attributes_of s;
      has = has_some s.signed_attributes h.1.certificate h.4.0.named;
      lasts = h;
    }

    pub signer_lasts : TokenLasts g signed m until → Lasts g s (attributes_of s) m until
    signer_lasts h =
        let same : h.signer ≡ s = some_is h.signer s (only signed.signers)
        (ap (λ (ss : List SignerValue). only ss) h.one_signer) (sym one) in
        let has : s.signed_attributes ≡ Some h.attributes =
        ap (λ (x : SignerValue). x.signed_attributes) (sym same) ∙ h.has in
        subst (λ (xs : List AttributeValue). Lasts g s xs m until)
        (ap (λ (o : Option (List AttributeValue)). unwrap_or o []) (sym has))
        (subst (λ (x : SignerValue). Lasts g x h.attributes m until) same h.lasts)

-- an answer to the one is an answer to the other
pub answers_both : {F : Type 0} (answer : Result Bool F) (P Q : Type 0) → (P → Q) → (Q → P)
    → IfOk answer (λ b. IsTrue b ↔ P) → IfOk answer (λ b. IsTrue b ↔ Q)
answers_both (Ok b) P Q so back h = (λ is. so (h.0 is), λ q. h.1 (back q))
answers_both (Err f) P Q so back h = tt
