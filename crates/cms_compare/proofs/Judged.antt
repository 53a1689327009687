-- Two files are compared or refused, never both.
use Rattle.std.specs.Prelude.{◌↔◌, option_map}
use Rattle.std.proofs.Common.{◌≡◌, ℕ, Bool, true, false, List, ◌∷◌, drop, Option, Some, None, Result, Ok, Err, refl}
use Rattle.std.proofs.Common.{sym, ap, subst, ◌∙◌, inl, inr, ◌⊎◌}
use Rattle.der_core.specs.Lists.{is_same}
use Rattle.der_core.proofs.Encoded.{same}
use Rattle.digests.specs.declared.algorithm.Alg.{Alg}
use Rattle.digests.specs.Named.{alg_named, is_alg}
use Rattle.digests.proofs.Named.{alg_says, alg_says_not}
use Rattle.cms_types.specs.AttributeValue.{AttributeValue, signed_octets, tail_of}
use Rattle.cms_types.specs.SignerValue.{SignerValue}
use Rattle.der_core.proofs.SameOctets.{same_again}
use Rattle.check_fit.proofs.Readings.{reading_of}
use Rattle.cms_compare.specs.declared.compared.Compared.{Compared}
use Rattle.cms_compare.specs.declared.compared.Compared.TheVariants as compared
use Rattle.cms_compare.specs.declared.fault.CompareFault.{CompareFault}
use Rattle.cms_compare.specs.declared.fault.CompareRule.{CompareRule}
use Rattle.cms_compare.specs.declared.fault.Which.{Which}
use Rattle.cms_compare.specs.declared.fault.Which.TheVariants as which
use Rattle.cms_compare.specs.Comparing.{IsSignedBy, SignAlike, IsCompared, Compares, signed_by, RefusesBy}
use Rattle.cms_compare.specs.Comparing.{RefusesToCompare}
use Rattle.cms_compare.specs.Laws.{IsAlike, FilesAreCompared, NeverBoth, OneAnswer, OneRefusal}
use Rattle.cms_compare.proofs.Bound.{bound}
use Rattle.cms_compare.proofs.Signed.{signed_is, signed_alone, never_fails, fails_alone}

pub never_both : NeverBoth
never_both a i b j answer fault h r = go fault.which r
  where
    go : (w : Which) → RefusesBy a i b j w fault.rule → ⊥
    go which.First x = never_fails a i h.content h.signer fault.rule h.first x
    go which.Second x = never_fails b j h.content' h.signer' fault.rule h.second x.1

-- one content and signer each have one answer
one : (content content' : List ℕ) (s s' : SignerValue) (x y : Compared) → IsCompared content s content' s' x
    → IsCompared content s content' s' y → x ≡ y
one content content' s s' compared.Different compared.Different h k = refl
one content content' s s' compared.Different compared.Same h k = absurd (h k.0)
one content content' s s' compared.Different compared.Collision h k = absurd (h k.0)
one content content' s s' compared.Same compared.Different h k = absurd (k h.0)
one content content' s s' compared.Same compared.Same h k = refl
one content content' s s' compared.Same compared.Collision h k = absurd (k.1 h.1)
one content content' s s' compared.Collision compared.Different h k = absurd (k h.0)
one content content' s s' compared.Collision compared.Same h k = absurd (h.1 k.1)
one content content' s s' compared.Collision compared.Collision h k = refl

pub one_answer : OneAnswer
one_answer a i b j x y h k =
    let p = signed_alone a i k.content h.content k.signer h.signer k.first h.first in
    let q = signed_alone b j k.content' h.content' k.signer' h.signer' k.second h.second in
    let at = subst (λ (u : List ℕ). IsCompared u h.signer h.content' h.signer' y) p.0
    (subst (λ (u : SignerValue). IsCompared k.content u h.content' h.signer' y) p.1
    (subst (λ (u : List ℕ). IsCompared k.content k.signer u h.signer' y) q.0
    (subst (λ (u : SignerValue). IsCompared k.content k.signer k.content' u y) q.1 k.answers))) in
    one h.content h.content' h.signer h.signer' x y h.answers at

same_which : (a : List ℕ) (i : ℕ) (b : List ℕ) (j : ℕ) (w w' : Which) (r q : CompareRule) → RefusesBy a i b j w r
    → RefusesBy a i b j w' q
    → (w ≡ w') × IsAlike r q
same_which a i b j which.First which.First r q h k = (refl, fails_alone a i r q h k)
same_which a i b j which.First which.Second r q h k = absurd (never_fails a i k.0.0 k.0.1 r k.0.2 h)
same_which a i b j which.Second which.First r q h k = absurd (never_fails a i h.0.0 h.0.1 q h.0.2 k)
same_which a i b j which.Second which.Second r q h k = (refl, fails_alone b j r q h.1 k.1)

pub one_refusal : OneRefusal
one_refusal a i b j f g h k = same_which a i b j f.which g.which f.rule g.rule h k

-- ---- what is answered

-- of two contents whose signers sign alike
pub collision : (a : List ℕ) (i : ℕ) (b : List ℕ) (j : ℕ) (content content' : List ℕ) (s s' : SignerValue)
    → IsSignedBy a i content s
    → IsSignedBy b j content' s' → SignAlike s s' → (content ≡ content' → ⊥)
    → IsCompared content s content' s' compared.Collision
collision a i b j content content' s s' h k alike differ =
    (alike, differ, bound a i content s h b j content' s' k alike)

-- what is answered about the signers of two files
pub compares : (a : List ℕ) (i : ℕ) (b : List ℕ) (j : ℕ) (content content' : List ℕ) (s s' : SignerValue) (x : Compared)
    → IsSignedBy a i content s
    → IsSignedBy b j content' s' → IsCompared content s content' s' x → Compares a i b j x
compares a i b j content content' s s' x h k is =
    record { content = content; signer = s; first = h; content' = content'; signer' = s'; second = k; answers = is }

abbrev Outcome : Type 0
Outcome = Result Compared CompareFault

-- of files that are refused there is no answer
pub no_answer : (a : List ℕ) (i : ℕ) (b : List ℕ) (j : ℕ) (f : CompareFault) → RefusesToCompare a i b j f
    → (r : Outcome) → r ≡ Err f → (x : Compared)
    → (r ≡ Ok x) ↔ Compares a i b j x
no_answer a i b j f h r e x =
    (λ d. let z : Err f ≡ Ok x = sym e ∙ d in absurd cc, λ c. absurd (never_both a i b j x f c h))

same_ok : (x y : Compared) → (let r : Outcome = Ok x in r) ≡ Ok y → x ≡ y
same_ok x y e = cc

-- of files that are compared there is this one
pub the_answer : (a : List ℕ) (i : ℕ) (b : List ℕ) (j : ℕ) (y : Compared) → Compares a i b j y → (r : Outcome)
    → r ≡ Ok y → (x : Compared)
    → (r ≡ Ok x) ↔ Compares a i b j x
the_answer a i b j y h r e x = (
  λ d. subst (Compares a i b j) (same_ok y x (sym e ∙ d)) h,
  λ k. e ∙ ap (λ (u : Compared). let r : Outcome = Ok u in r) (one_answer a i b j y x h k),
)

-- ---- every two files are compared or refused

abbrev Or : Type 0 → Type 0
Or A = A ⊎ (A → ⊥)

pub differ : (xs ys : List ℕ) → is_same xs ys ≡ false → xs ≡ ys → ⊥
differ xs ys e d = let w : true ≡ false = sym (same_again xs) ∙ ap (is_same xs) d ∙ e in absurd cc

octets_or : (xs ys : List ℕ) → Or (xs ≡ ys)
octets_or xs ys = by (is_same xs ys) refl
  where
    by : (t : Bool) → is_same xs ys ≡ t → Or (xs ≡ ys)
    by true e = inl (same xs ys e)
    by false e = inr (differ xs ys e)

some_or : (o o' : Option (List ℕ)) → Or (o ≡ o')
some_or None None = inl refl
some_or None (Some y) = inr (λ e. absurd cc)
some_or (Some x) None = inr (λ e. absurd cc)
some_or (Some x) (Some y) = by (octets_or x y)
  where
    by : Or (x ≡ y) → Or (Some x ≡ Some y)
    by (inl e) = inl (ap (λ (u : List ℕ). let o : Option (List ℕ) = Some u in o) e)
    by (inr d) = inr (λ e. d cc)

alg_or : (a b : Alg) → Or (a ≡ b)
alg_or a b = by (is_alg a b) refl
  where
    by : (t : Bool) → is_alg a b ≡ t → Or (a ≡ b)
    by true e = inl (alg_says a b e)
    by false e = inr (alg_says_not a b e)

named_or : (o o' : Option Alg) → Or (o ≡ o')
named_or None None = inl refl
named_or None (Some y) = inr (λ e. absurd cc)
named_or (Some x) None = inr (λ e. absurd cc)
named_or (Some x) (Some y) = by (alg_or x y)
  where
    by : Or (x ≡ y) → Or (Some x ≡ Some y)
    by (inl e) = inl (ap (λ (u : Alg). let o : Option Alg = Some u in o) e)
    by (inr d) = inr (λ e. d cc)

alike_or : (s s' : SignerValue) → Or (SignAlike s s')
alike_or s s' = by (named_or (alg_named s.digest_algorithm) (alg_named s'.digest_algorithm))
    (some_or (option_map signed_octets s.signed_attributes) (option_map signed_octets s'.signed_attributes))
  where
    by : Or (alg_named s.digest_algorithm ≡ alg_named s'.digest_algorithm)
        → Or (option_map signed_octets s.signed_attributes ≡ option_map signed_octets s'.signed_attributes)
        → Or (SignAlike s s')
    by (inl e) (inl d) = inl (record { alg = e; octets = d })
    by (inl e) (inr d) = inr (λ h. d h.octets)
    by (inr e) d = inr (λ h. e h.alg)

pub files_are_compared : FilesAreCompared
files_are_compared a i b j fits fits' = first (signed_by i (reading_of a fits).0) refl
  where
    Judged : Type 0
    Judged = ((x : Compared) × Compares a i b j x) ⊎ ((f : CompareFault) × RefusesToCompare a i b j f)

    answered : (content content' : List ℕ) (s s' : SignerValue) → IsSignedBy a i content s → IsSignedBy b j content' s'
        → Or (SignAlike s s')
        → Or (content ≡ content') → Judged
    answered content content' s s' h k (inr differ) e =
        inl (compared.Different, compares a i b j content content' s s' compared.Different h k differ)
    answered content content' s s' h k (inl alike) (inl e) =
        inl (compared.Same, compares a i b j content content' s s' compared.Same h k (alike, e))
    answered content content' s s' h k (inl alike) (inr d) =
        inl (
          compared.Collision,
          compares a i b j content content' s s' compared.Collision h k
              (collision a i b j content content' s s' h k alike d),
        )

    second : (x : List ℕ × SignerValue) → IsSignedBy a i x.0 x.1 → (r : Result (List ℕ × SignerValue) CompareRule)
        → signed_by j (reading_of b fits').0 ≡ r → Judged
    second x h (Ok y) e = answered x.0 y.0 x.1 y.1 h (signed_is b j (reading_of b fits').0 y (reading_of b fits').1 e)
        (alike_or x.1 y.1) (octets_or x.0 y.0)
    second x h (Err failed) e = inr (
      record { which = which.Second; rule = failed },
      ((x.0, x.1, h), ((reading_of b fits').0, (reading_of b fits').1, e)),
    )

    first : (r : Result (List ℕ × SignerValue) CompareRule) → signed_by i (reading_of a fits).0 ≡ r → Judged
    first (Ok x) e = second x (signed_is a i (reading_of a fits).0 x (reading_of a fits).1 e)
        (signed_by j (reading_of b fits').0) refl
    first (Err failed) e =
        inr (record { which = which.First; rule = failed }, ((reading_of a fits).0, (reading_of a fits).1, e))

-- ---- signers whose tails are at hand

pub unlike : (s s' : SignerValue) (r : Bool) → r ≡ false → (SignAlike s s' → r ≡ true) → SignAlike s s' → ⊥
unlike s s' r e f h = let w : true ≡ false = sym (f h) ∙ e in absurd cc

-- they sign the same octets exactly if their tails are the same
pub same_octets : (o o' : Option (List AttributeValue)) (t t' : List ℕ) → option_map tail_of o ≡ Some t
    → option_map tail_of o' ≡ Some t'
    → t ≡ t' → option_map signed_octets o ≡ option_map signed_octets o'
same_octets (Some xs) (Some ys) t t' e d is = let q : tail_of xs ≡ t = cc in let q' : tail_of ys ≡ t' = cc in
    ap (λ (u : List ℕ). let o : Option (List ℕ) = Some (0x31 ∷ u) in o) (q ∙ is ∙ sym q')
same_octets None o' t t' e d is = absurd cc
same_octets (Some xs) None t t' e d is = absurd cc

pub same_tails : (o o' : Option (List AttributeValue)) (t t' : List ℕ) → option_map tail_of o ≡ Some t
    → option_map tail_of o' ≡ Some t'
    → option_map signed_octets o ≡ option_map signed_octets o' → t ≡ t'
same_tails (Some xs) (Some ys) t t' e d is =
    let q : tail_of xs ≡ t = cc in let q' : tail_of ys ≡ t' = cc in
    let z : signed_octets xs ≡ signed_octets ys = cc in sym q ∙ ap (λ (u : List ℕ). drop 1 u) z ∙ q'
same_tails None o' t t' e d is = absurd cc
same_tails (Some xs) None t t' e d is = absurd cc

pub alike_by_tails : (s s' : SignerValue) (t t' : List ℕ) → option_map tail_of s.signed_attributes ≡ Some t
    → option_map tail_of s'.signed_attributes ≡ Some t' → alg_named s.digest_algorithm ≡ alg_named s'.digest_algorithm
    → (r : Bool) → r ≡ is_same t t' → (r ≡ true) ↔ SignAlike s s'
alike_by_tails s s' t t' e d named r is = (
  λ h. record {
    alg = named;
    octets = same_octets s.signed_attributes s'.signed_attributes t t' e d (same t t' (sym is ∙ h));
  },
  λ h. is ∙ ap (is_same t) (sym (same_tails s.signed_attributes s'.signed_attributes t t' e d h.octets)) ∙ same_again t,
)
