-- The order of the rules and the facts of one file say the same.
use Rattle.std.proofs.Common.{◌≡◌, ℕ, List, Option, Some, None, Result, Ok, Err, refl, sym, ap, subst, ◌∙◌}
use Rattle.std.specs.Option.{ok_or}
use Rattle.der_core.specs.Results.{◌>>=◌, or_as}
use Rattle.cms_types.specs.declared.fault.CmsFault.{CmsFault}
use Rattle.cms_types.specs.declared.fault.CmsFault.TheVariants as cms
use Rattle.cms_types.specs.SignerValue.{SignerValue}
use Rattle.cms_types.specs.SignedDataValue.{SignedDataValue, OtherContent, EncodesSignedData}
use Rattle.check_fit.specs.declared.rules.SignerRule.{SignerRule}
use Rattle.check_fit.specs.Fitting.{signer_answer}
use Rattle.check_fit.specs.FileFitting.{IsReading}
use Rattle.check_fit.proofs.FitLaw.{fit_from, fit_is}
use Rattle.check_fit.proofs.Readings.{reads_it, faultless}
use Rattle.der_lists.specs.Numbers.{of_number}
use Rattle.cms_compare.specs.declared.fault.CompareRule.{CompareRule}
use Rattle.cms_compare.specs.declared.fault.CompareRule.TheVariants as rule
use Rattle.cms_compare.specs.Comparing.{sha1_too, IsSignedBy, signed_by, FailsFirst}
use Rattle.cms_compare.specs.Laws.{IsAlike}

abbrev Signed : Type 0
Signed = List ℕ × SignerValue

abbrev Answer : Type 0
Answer = Result Signed CompareRule

abbrev answer : Signed → Answer
answer y = Ok y

same_answer : (x y : Signed) → answer x ≡ answer y → x ≡ y
same_answer x y e = cc

by_rules : (file : List ℕ) (number : ℕ) (v : SignedDataValue) (content : List ℕ) (s : SignerValue)
    (r : Result (Unit {0}) SignerRule) → EncodesSignedData file v
    → of_number v.signers number ≡ Some s → v.encapsulated.content ≡ Some content
    → signer_answer sha1_too content v.encapsulated.content_type s ≡ r
    → (y : Signed) → (or_as rule.Rule r >>= λ u. answer (content, s)) ≡ answer y → IsSignedBy file number y.0 y.1
by_rules file number v content s (Ok u) encodes numbered present is y e =
    subst (λ (x : Signed). IsSignedBy file number x.0 x.1) (same_answer (content, s) y e)
    (record {
      signed = v;
      encodes = encodes;
      numbered = numbered;
      present = present;
      fits = fit_is sha1_too content v.encapsulated.content_type s u is;
    })
by_rules file number v content s (Err failed) encodes numbered present is y e = absurd cc

by_content : (file : List ℕ) (number : ℕ) (v : SignedDataValue) (s : SignerValue) (o : Option (List ℕ))
    → EncodesSignedData file v
    → of_number v.signers number ≡ Some s → v.encapsulated.content ≡ o
    → (y : Signed) → (ok_or o rule.NoContent
    >>= λ content. or_as rule.Rule (signer_answer sha1_too content v.encapsulated.content_type s)
    >>= λ u. answer (content, s)) ≡ answer y → IsSignedBy file number y.0 y.1
by_content file number v s (Some content) encodes numbered present y e =
    by_rules file number v content s
    (signer_answer sha1_too content v.encapsulated.content_type s) encodes numbered present refl y e
by_content file number v s None encodes numbered present y e = absurd cc

by_number : (file : List ℕ) (number : ℕ) (v : SignedDataValue) (o : Option SignerValue) → EncodesSignedData file v
    → of_number v.signers number ≡ o
    → (y : Signed)
    → (ok_or o rule.NoSuchSigner >>= λ s. ok_or v.encapsulated.content rule.NoContent >>= λ content. or_as rule.Rule
    (signer_answer sha1_too content v.encapsulated.content_type s) >>= λ u. answer (content, s)) ≡ answer y
    → IsSignedBy file number y.0 y.1
by_number file number v (Some s) encodes numbered y e =
    by_content file number v s v.encapsulated.content encodes numbered refl y e
by_number file number v None encodes numbered y e = absurd cc

-- what the rules accept is signed so
pub signed_is : (file : List ℕ) (number : ℕ) (reading : Result SignedDataValue CmsFault) (y : Signed)
    → IsReading file reading
    → signed_by number reading ≡ Ok y → IsSignedBy file number y.0 y.1
signed_is file number (Ok v) y is e = by_number file number v (of_number v.signers number) is refl y e
signed_is file number (Err f) y is e = absurd cc

-- what is signed so the rules accept
pub signed_from :
    (file : List ℕ) (number : ℕ) (reading : Result SignedDataValue CmsFault) (content : List ℕ) (s : SignerValue)
    → IsReading file reading → IsSignedBy file number content s → signed_by number reading ≡ Ok (content, s)
signed_from file number reading content s is h = rw (
  reads_it file reading h.signed is h.encodes,
  h.numbered,
  h.present,
  fit_from sha1_too content h.signed.encapsulated.content_type s h.fits,
) refl

-- a file has one content and signer of a number
pub signed_alone : (file : List ℕ) (number : ℕ) (content content' : List ℕ) (s s' : SignerValue)
    → IsSignedBy file number content s
    → IsSignedBy file number content' s' → (content ≡ content') × (s ≡ s')
signed_alone file number content content' s s' h k =
    let e = same_answer (content, s) (content', s') (sym (signed_from file number (Ok h.signed) content s h.encodes h)
    ∙ signed_from file number (Ok h.signed) content' s' h.encodes k) in
    (ap (λ (y : Signed). y.0) e, ap (λ (y : Signed). y.1) e)

-- it is signed so or fails a rule first, and never both
pub never_fails : (file : List ℕ) (number : ℕ) (content : List ℕ) (s : SignerValue) (failed : CompareRule)
    → IsSignedBy file number content s
    → FailsFirst file number failed → ⊥
never_fails file number content s failed h k =
    let z : answer (content, s) ≡ Err failed = sym (signed_from file number k.0 content s k.1 h) ∙ k.2 in absurd cc

-- a rule is like itself
pub alike : (r : CompareRule) → IsAlike r r
alike (rule.Malformed (cms.Malformed f)) = tt
alike (rule.Malformed cms.NotSignedData) = refl
alike (rule.Malformed cms.OutOfMemory) = refl
alike rule.NoSuchSigner = refl
alike rule.NoContent = refl
alike (rule.Rule failed) = refl

same_failed : (r q : CompareRule) (x : Answer) → x ≡ Err r → x ≡ Err q → r ≡ q
same_failed r q x e d = let z : Err r ≡ Err q = sym e ∙ d in cc

unread : (f g : CmsFault) → IsAlike (rule.Malformed f) (rule.Malformed g) → (r q : CompareRule) → rule.Malformed f ≡ r
    → rule.Malformed g ≡ q → IsAlike r q
unread f g h r q e d =
    subst (λ (x : CompareRule). IsAlike r x) d (subst (λ (x : CompareRule). IsAlike x (rule.Malformed g)) e h)

failed_is : (f : CmsFault) (r : CompareRule) → (let x : Answer = Err (rule.Malformed f) in x) ≡ Err r
    → rule.Malformed f ≡ r
failed_is f r e = cc

-- with one rule, up to the fault of form
pub fails_alone : (file : List ℕ) (number : ℕ) (r q : CompareRule) → FailsFirst file number r → FailsFirst file number q
    → IsAlike r q
fails_alone file number r q h k = go h.0 k.0 h.1 k.1 h.2 k.2
  where
    go : (reading reading' : Result SignedDataValue CmsFault) → IsReading file reading → IsReading file reading'
        → signed_by number reading ≡ Err r
        → signed_by number reading' ≡ Err q → IsAlike r q
    go (Ok v) reading' is is' e d = subst (λ (x : CompareRule). IsAlike r x)
        (same_failed r q (signed_by number (Ok v)) e
        (ap (signed_by number) (sym (reads_it file reading' v is' is)) ∙ d)) (alike r)
    go (Err f) (Ok v) is is' e d = let z = reads_it file (Err f) v is is' in absurd cc
    go (Err (cms.Malformed f)) (Err (cms.Malformed g)) is is' e d = unread (cms.Malformed f) (cms.Malformed g) tt r q
        (failed_is (cms.Malformed f) r e) (failed_is (cms.Malformed g) q d)
    go (Err (cms.Malformed f)) (Err cms.NotSignedData) is is' e d =
        absurd (faultless file (OtherContent is'.0 is'.1) f is'.2 is)
    go (Err (cms.Malformed f)) (Err cms.OutOfMemory) is is' e d = absurd is'
    go (Err cms.NotSignedData) (Err (cms.Malformed g)) is is' e d =
        absurd (faultless file (OtherContent is.0 is.1) g is.2 is')
    go (Err cms.NotSignedData) (Err cms.NotSignedData) is is' e d = unread cms.NotSignedData cms.NotSignedData refl r q
        (failed_is cms.NotSignedData r e) (failed_is cms.NotSignedData q d)
    go (Err cms.NotSignedData) (Err cms.OutOfMemory) is is' e d = absurd is'
    go (Err cms.OutOfMemory) (Err g) is is' e d = absurd is
