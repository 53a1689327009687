-- Content and attributes belong together exactly when no rule fails.
use Rattle.std.proofs.Common.{◌≡◌, ℕ, ◌<◌, ◌^◌, nat_lt, Bool, true, false, cond, List, length, Option, Some, None}
use Rattle.std.proofs.Common.{Result, Ok, Err, refl, sym, ap, subst, ◌∙◌}
use Rattle.std.proofs.Common.{arith}
use Rattle.std.specs.Prelude.{◌↔◌, IsOk, MatchResult}
use Rattle.std.specs.Option.{ok_or}
use Rattle.std.proofs.lemmas.Bool.{lt-ltb, ltb-true}
use Rattle.der_core.specs.Element.{el, has_tag}
use Rattle.der_core.specs.Lists.{is_same}
use Rattle.der_core.specs.Results.{◌>>=◌}
use Rattle.der_core.proofs.Encoded.{same}
use Rattle.der_core.proofs.Refuted.{and_true}
use Rattle.der_core.proofs.Results.{bind_ok}
use Rattle.digests.specs.Algorithms.{Names}
use Rattle.digests.specs.Messages.{digest_of}
use Rattle.digests.specs.Named.{alg_named}
use Rattle.digests.specs.declared.algorithm.Alg.{Alg}
use Rattle.digests.proofs.Lengths.{digest_length, length_most}
use Rattle.digests.proofs.Named.{named_says, named_is}
use Rattle.cms_types.specs.AttributeValue.{AttributeValue}
use Rattle.cms_types.specs.SignerValue.{SignerValue}
use Rattle.check_fit.specs.declared.policy.Policy.{Policy}
use Rattle.check_fit.specs.declared.rules.SignerRule.{SignerRule}
use Rattle.check_fit.specs.declared.rules.SignerRule.TheVariants as rule
use Rattle.check_fit.specs.Attributes.{single_value, is_element_of}
use Rattle.check_fit.specs.Fitting.{Fits, FailsFirst, Wants, is_allowed, allowed, content_type_fits, stated_digest}
use Rattle.check_fit.specs.Fitting.{digest_fits, signer_claim, signer_answer}
use Rattle.check_fit.specs.Fitting.{id_content_type, id_message_digest}
use Rattle.der_core.proofs.SameOctets.{same_again}

ok_or_ok : {A : Type 0} (o : Option A) (e : SignerRule) (x : A) → ok_or o e ≡ Ok x → o ≡ Some x
ok_or_ok None e x h = absurd cc
ok_or_ok (Some y) e x h = cc

guard_ok : {A : Type 0} (b : Bool) (r : Result A SignerRule) (e : SignerRule) (y : A) → cond b r (Err e) ≡ Ok y
    → (b ≡ true) × (r ≡ Ok y)
guard_ok true r e y h = (refl, h)
guard_ok false r e y h = absurd cc

-- ---- elements

pub element_is : (t : ℕ) (b x : List ℕ) → is_element_of t b x ≡ true → (length b < 2 ^ 32) × (x ≡ el t b)
element_is t b x h = let p = and_true (nat_lt (length b) (2 ^ 32)) (is_same x (el t b)) h in
    (ltb-true (length b) (2 ^ 32) p.0, same x (el t b) p.1)

pub element_again : (t : ℕ) (b : List ℕ) → length b < 2 ^ 32 → is_element_of t b (el t b) ≡ true
element_again t b lt = rw (lt-ltb (length b) (2 ^ 32) lt) (same_again (el t b))

-- ---- what the attributes claim

abbrev stating : List ℕ × Alg → Result (List ℕ × Alg) SignerRule
stating x = Ok x

same_pair : (x z : List ℕ × Alg) → stating x ≡ stating z → x ≡ z
same_pair x z e = cc

-- what follows if none of the rules S1 to S5 refuses
pub record Claims (policy : Policy) (econtent_type : List ℕ) (s : SignerValue) (y : List ℕ) (alg : Alg) : Type 0 where
  pub attributes : List AttributeValue
  pub present : s.signed_attributes ≡ Some attributes
  pub content_type : single_value attributes id_content_type ≡ Some (el 0x06 econtent_type)
  pub size : length econtent_type < 2 ^ 32
  pub named : Names s.digest_algorithm.oid s.digest_algorithm.parameters alg
  pub allows : is_allowed policy alg ≡ true
  pub stated : single_value attributes id_message_digest ≡ Some y

abbrev some : List ℕ → Option (List ℕ)
some x = Some x

abbrev some_alg : Alg → Option Alg
some_alg alg = Some alg

-- an algorithm that is allowed is the one that was named
pub allowed_is : (policy : Policy) (named : Option Alg) (alg : Alg) → allowed policy named ≡ Some alg
    → (named ≡ Some alg) × (is_allowed policy alg ≡ true)
allowed_is policy None alg h = absurd cc
allowed_is policy (Some a) alg h = go (is_allowed policy a) refl h
  where
    go : (b : Bool) → is_allowed policy a ≡ b → cond b (Some a) None ≡ Some alg
        → (Some a ≡ Some alg) × (is_allowed policy alg ≡ true)
    go true t e = let q : a ≡ alg = cc in (e, subst (λ (x : Alg). is_allowed policy x ≡ true) q t)
    go false t e = absurd cc

type_says : (attributes : List AttributeValue) (econtent_type : List ℕ) (u : Unit {0})
    → content_type_fits attributes econtent_type ≡ Ok u
    → (single_value attributes id_content_type ≡ Some (el 0x06 econtent_type)) × (length econtent_type < 2 ^ 32)
unfolding content_type_fits
type_says attributes econtent_type u h =
    let x = bind_ok (ok_or (single_value attributes id_content_type) rule.ContentTypeAttr) (λ x. cond (has_tag 0x06 x)
    (cond (is_element_of 0x06 econtent_type x) (Ok tt) (Err rule.ContentTypeDiffers)) (Err rule.ContentTypeAttr)) u h in
    let a = guard_ok (has_tag 0x06 x.0) (cond (is_element_of 0x06 econtent_type x.0) (Ok tt)
    (Err rule.ContentTypeDiffers)) rule.ContentTypeAttr u x.2 in
    let b = guard_ok (is_element_of 0x06 econtent_type x.0) (Ok tt) rule.ContentTypeDiffers u a.1 in
    let e = element_is 0x06 econtent_type x.0 b.0 in
    (rw (← e.1) (ok_or_ok (single_value attributes id_content_type) rule.ContentTypeAttr x.0 x.1), e.0)

digest_says : (attributes : List AttributeValue) (y : List ℕ) → stated_digest attributes ≡ Ok y
    → single_value attributes id_message_digest ≡ Some y
unfolding stated_digest
digest_says attributes y h =
    let x = bind_ok (ok_or (single_value attributes id_message_digest) rule.DigestAttr)
    (λ x. cond (has_tag 0x04 x) (Ok x) (Err rule.DigestAttr)) y h in
    let a = guard_ok (has_tag 0x04 x.0) (Ok x.0) rule.DigestAttr y x.2 in
    let q : Ok x.0 ≡ Ok y = a.1 in
    let e : x.0 ≡ y = cc in
    rw (← e) (ok_or_ok (single_value attributes id_message_digest) rule.DigestAttr x.0 x.1)

-- a signer that the rules don't refuse has attributes that claim this
pub claim_says : (policy : Policy) (econtent_type : List ℕ) (s : SignerValue) (y : List ℕ) (alg : Alg)
    → signer_claim policy econtent_type s ≡ Ok (y, alg) → Claims policy econtent_type s y alg
unfolding signer_claim
claim_says policy econtent_type s y alg h =
    let a =
    bind_ok (ok_or s.signed_attributes rule.NoSignedAttrs) (λ attributes. content_type_fits attributes econtent_type
    >>= λ u. stated_digest attributes >>= λ y. ok_or named rule.DigestAlgorithm >>= λ alg. Ok (y, alg)) (y, alg) h in
    let t = bind_ok (content_type_fits a.0 econtent_type)
    (λ u. stated_digest a.0 >>= λ y. ok_or named rule.DigestAlgorithm >>= λ alg. Ok (y, alg)) (y, alg) a.2 in
    let d = bind_ok (stated_digest a.0) (λ y. ok_or named rule.DigestAlgorithm >>= λ alg. Ok (y, alg)) (y, alg) t.2 in
    let g = bind_ok (ok_or named rule.DigestAlgorithm) (λ alg. Ok (d.0, alg)) (y, alg) d.2 in
    joined a.0 d.0 g.0 (ok_or_ok s.signed_attributes rule.NoSignedAttrs a.0 a.1) (type_says a.0 econtent_type t.0 t.1)
    (digest_says a.0 d.0 d.1)
    (ok_or_ok named rule.DigestAlgorithm g.0 g.1) g.2
  where
    named : Option Alg
    named = allowed policy (alg_named s.digest_algorithm)

    joined : (attributes : List AttributeValue) (y' : List ℕ) (alg' : Alg) → s.signed_attributes ≡ Some attributes
        → (single_value attributes id_content_type ≡ Some (el 0x06 econtent_type)) × (length econtent_type < 2 ^ 32)
        → single_value attributes id_message_digest ≡ Some y'
        → allowed policy (alg_named s.digest_algorithm) ≡ Some alg'
        → stating (y', alg') ≡ stating (y, alg) → Claims policy econtent_type s y alg
    joined attributes y' alg' present type stated allows same =
        let pair : (y', alg') ≡ (y, alg) = same_pair (y', alg') (y, alg) same in
        let names = allowed_is policy (alg_named s.digest_algorithm) alg
        (allows ∙ ap (λ (p : List ℕ × Alg). some_alg p.1) pair) in
        record {
          attributes = attributes;
          present = present;
          content_type = type.0;
          size = type.1;
          named = named_says s.digest_algorithm alg names.0;
          allows = names.1;
          stated = stated ∙ ap (λ (p : List ℕ × Alg). some p.0) pair;
        }

-- if they belong together, none of the rules S1 to S5 fails
pub claim_from : (policy : Policy) (content econtent_type : List ℕ) (s : SignerValue)
    → (f : Fits policy content econtent_type s)
    → signer_claim policy econtent_type s ≡ Ok (el 0x04 (digest_of f.alg content), f.alg)
unfolding signer_claim content_type_fits stated_digest
claim_from policy content econtent_type s f =
    rw (
      f.present,
      f.content_type,
      element_again 0x06 econtent_type f.size,
      f.digest,
      named_is s.digest_algorithm f.alg f.named,
      f.allows,
    ) refl

-- ---- the result

-- an OCTET STRING can hold a digest
pub small : (alg : Alg) (content : List ℕ) → length (digest_of alg content) < 2 ^ 32
small alg content = omega (arith, digest_length alg content, length_most alg)

-- if they belong together, none of S1 to S6 fails
pub fit_from : (policy : Policy) (content econtent_type : List ℕ) (s : SignerValue)
    → Fits policy content econtent_type s
    → signer_answer policy content econtent_type s ≡ Ok tt
fit_from policy content econtent_type s f =
    rw (claim_from policy content econtent_type s f, element_again 0x04 (digest_of f.alg content) (small f.alg content))
    refl

-- if none fails, they belong together
pub fit_is : (policy : Policy) (content econtent_type : List ℕ) (s : SignerValue) (u : Unit {0})
    → signer_answer policy content econtent_type s ≡ Ok u
    → Fits policy content econtent_type s
fit_is policy content econtent_type s u e =
    let a = bind_ok (signer_claim policy econtent_type s) (λ c. digest_fits (digest_of c.1 content) c.0) u e in
    let c = claim_says policy econtent_type s a.0.0 a.0.1 a.1 in
    let g = guard_ok (is_element_of 0x04 (digest_of a.0.1 content) a.0.0) (Ok tt) rule.DigestDiffers u a.2 in
    record {
      attributes = c.attributes;
      present = c.present;
      content_type = c.content_type;
      size = c.size;
      alg = a.0.1;
      named = c.named;
      allows = c.allows;
      digest = c.stated ∙ ap some (element_is 0x04 (digest_of a.0.1 content) a.0.0 g.0).1;
    }

-- so a rule fails first only if they don't
pub fits_not_fails : (policy : Policy) (content econtent_type : List ℕ) (s : SignerValue) (failed : SignerRule)
    → Fits policy content econtent_type s
    → FailsFirst policy content econtent_type s failed → ⊥
fits_not_fails policy content econtent_type s failed f h =
    let z = sym (fit_from policy content econtent_type s f) ∙ h in cc

-- a result that follows the order is good exactly when they belong together
pub exactly_fits :
    (policy : Policy) (content econtent_type : List ℕ) (s : SignerValue) (r : Result (Unit {0}) SignerRule)
    → r ≡ signer_answer policy content econtent_type s → IsOk r ↔ Fits policy content econtent_type s
exactly_fits policy content econtent_type s (Ok u) e =
    ((λ good. fit_is policy content econtent_type s u (sym e)), (λ fits. refl))
exactly_fits policy content econtent_type s (Err failed) e =
    ((λ good. absurd cc), (λ fits. absurd (fits_not_fails policy content econtent_type s failed fits (sym e))))

-- and names the rule that fails first
pub tells_fit : (policy : Policy) (content econtent_type : List ℕ) (s : SignerValue) (r : Result (Unit {0}) SignerRule)
    → r ≡ signer_answer policy content econtent_type s
    → MatchResult r (λ u. Fits policy content econtent_type s) (FailsFirst policy content econtent_type s)
tells_fit policy content econtent_type s (Ok u) e = fit_is policy content econtent_type s u (sym e)
tells_fit policy content econtent_type s (Err failed) e = sym e

-- a signer that none of the rules S1 to S5 refuses wants the algorithm
pub claim_wants : (policy : Policy) (econtent_type : List ℕ) (s : SignerValue) (y : List ℕ) (alg : Alg)
    → signer_claim policy econtent_type s ≡ Ok (y, alg) → Wants policy s alg
claim_wants policy econtent_type s y alg h =
    let c = claim_says policy econtent_type s y alg h in rw (named_is s.digest_algorithm alg c.named, c.allows) refl
