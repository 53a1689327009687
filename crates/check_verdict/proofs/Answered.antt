-- A verdict rests on the answers to those questions alone that are asked: about signers that fit the content, and their
-- tokens, under entries that passed the earlier filters.
use Rattle.std.proofs.Common.{◌≡◌, ℕ, zero, suc, ◌+◌, ◌-◌, Bool, List, [], take, Option, Some, Result, Ok, Err, ◌⊎◌}
use Rattle.std.proofs.Common.{refl, sym, ap, ap₂, subst, ◌∙◌, arith, inl, inr}
use Rattle.std.specs.Prelude.{Contains, unwrap_or}
use Rattle.cms_types.specs.AttributeValue.{AttributeValue}
use Rattle.cms_types.specs.SignerValue.{SignerValue}
use Rattle.cms_types.specs.SignedDataValue.{SignedDataValue}
use Rattle.cms_types.specs.declared.fault.CmsFault.{CmsFault}
use Rattle.tsp_types.specs.TstValue.{EncodesTst}
use Rattle.trust_lists.specs.Entries.{EntryValue}
use Rattle.trust_lists.specs.Asking.{Asked}
use Rattle.check_fit.specs.Fitting.{Fits}
use Rattle.check_fit.specs.declared.rules.SignerRule.{SignerRule}
use Rattle.check_fit.specs.declared.rules.TokenRule.{TokenRule}
use Rattle.check_fit.specs.declared.rules.Refused.{Refused}
use Rattle.check_fit.specs.declared.rules.Refused.TheVariants as refused
use Rattle.check_verdict.specs.Trusted.{asked}
use Rattle.check_verdict.specs.Filters.{StopsAt}
use Rattle.check_verdict.specs.Passing.{Terms, Due, of_octets, StampedUnder, PassesFor, Passes}
use Rattle.check_verdict.specs.TokenRules.{Reads, TokenClaim, IsClaim, claimed, token_claim, LeftForToken, RunsOut}
use Rattle.check_verdict.specs.TokenRules.{TokenFailsFor}
use Rattle.check_verdict.specs.Asks.{IsAskedFor, IsAskedOfToken, IsAskedOfSigner, IsAskedIn}
use Rattle.check_verdict.specs.Questions.{with_answers}
use Rattle.check_verdict.specs.Verdicts.{tokens, IsStamped, SignedUnder, Signs, IsMoment, SignerPasses, Accepts}
use Rattle.check_verdict.specs.Verdicts.{IsSigners}
use Rattle.check_verdict.specs.Verdicts.{LeftForSigner, SignerFails, TokensFail, FirstBad, Judges}
use Rattle.check_verdict.proofs.Lists.{along, all-along, from_get, from_take}
use Rattle.check_verdict.proofs.Tokens.{passing_claim}
use Rattle.check_verdict.proofs.PassesBy.{stamped_by, passes_by}

-- two verifiers say the same of each question of a kind
abbrev pub Agree : (Asked → Type 0) → (v w : Asked → Bool) → Type 0
Agree Question v w = (q : Asked) → Question q → v q ≡ w q

-- ---- tokens

abbrev signed_ok : SignedDataValue → Result SignedDataValue CmsFault
signed_ok v = Ok v

abbrev claim_ok : TokenClaim → Result TokenClaim TokenRule
claim_ok c = Ok c

same_signed : (v w : SignedDataValue) → signed_ok v ≡ signed_ok w → v ≡ w
same_signed v w e = cc

same_content : (a b : List ℕ) (o : Option (List ℕ)) → o ≡ Some a → o ≡ Some b → a ≡ b
same_content a b o e h = let z = sym e ∙ h in cc

same_attributes : (a b : List AttributeValue) (o : Option (List AttributeValue)) → o ≡ Some a → o ≡ Some b → a ≡ b
same_attributes a b o e h = let z = sym e ∙ h in cc

attributes_there : (o : Option (List AttributeValue)) (a : List AttributeValue) → o ≡ Some a → unwrap_or o [] ≡ a
attributes_there o a e = rw e refl

-- what a token states that passes
abbrev made : SignerValue → List AttributeValue → ℕ → TokenClaim
made s attributes moment = record { signer = s; attributes = attributes; moment = moment }

abbrev claim_of : (t : Terms) (token : List ℕ) (due : Due) (m : ℕ) → PassesFor t token due m → TokenClaim
claim_of t token due m p = made p.signer p.attributes m

claim_is : (t : Terms) (token : List ℕ) (due : Due) (m : ℕ) (p : PassesFor t token due m)
    → claimed p.signer p.stamp ≡ claim_of t token due m p
claim_is t token due m p = ap₂ (λ (a : List AttributeValue) (n : ℕ). made p.signer a n)
    (attributes_there p.signer.signed_attributes p.attributes p.has) p.moment

reads_of : (t : Terms) (token : List ℕ) (due : Due) (m : ℕ) (p : PassesFor t token due m)
    → Reads token (Ok p.signed) (Ok p.stamp)
reads_of t token due m p = record {
  is_signed = p.encodes;
  is_stamp = λ v content e present. subst (λ (c : List ℕ). EncodesTst c p.stamp)
      (same_content p.content content v.encapsulated.content
      (subst (λ (u : SignedDataValue). u.encapsulated.content ≡ Some p.content) (same_signed p.signed v e) p.present)
      present) p.encodes_stamp;
}

states : (t : Terms) (token : List ℕ) (due : Due) (m : ℕ) (p : PassesFor t token due m)
    → token_claim t.policy due (Ok p.signed) (Ok p.stamp) ≡ Ok (claim_of t token due m p)
states t token due m p =
    passing_claim t token due m p (Ok p.signed) (Ok p.stamp) (reads_of t token due m p)
    ∙ ap (λ (c : TokenClaim). claim_ok c) (claim_is t token due m p)

pub passes : (t : Terms) (w : Asked → Bool) (token : List ℕ) (due : Due) (m : ℕ)
    → Agree (IsAskedFor t.policy t.trust due token) t.vouches w
    → PassesFor t token due m → PassesFor (with_answers t w) token due m
passes t w token due m same p = passes_by t t.trust w token due m p
    (along (StampedUnder t p.signer p.attributes m) (StampedUnder (with_answers t w) p.signer p.attributes m) t.trust
    (λ e c s. stamped_by t t.trust w p.signer p.attributes m e s
    (sym (same (asked e.certificate p.signer p.attributes) (record {
      claim = claim_of t token due m p;
      is_claim = (Ok p.signed, Ok p.stamp, reads_of t token due m p, sym (states t token due m p));
      entry = e;
      trusted = c;
      passed = ((((s.role, s.matches), s.named), s.purpose), s.period);
      is = refl;
    })) ∙ s.vouched)) p.entry)

stops-along : {E : Type 0} (Left Left' : ℕ → E → Type 0) (total : ℕ) (es : List E) (n : ℕ)
    → ((k : ℕ) (e : E) → Contains es e → Left k e → Left' k e)
    → ((k : ℕ) (e : E) → Contains es e → Left' k e → Left k e) → StopsAt Left total es n → StopsAt Left' total es n
stops-along Left Left' total es n f b h = record {
  within = h.within;
  left = λ some. along (Left n) (Left' n) es (f n) (h.left some);
  none = all-along (λ e. Left (n + 1) e → ⊥) (λ e. Left' (n + 1) e → ⊥) es (λ e c no p. no (b (n + 1) e c p)) h.none;
}

token_left : (t : Terms) (w : Asked → Bool) (token : List ℕ) (due : Due) (c : TokenClaim)
    → IsClaim t.policy due token (Ok c)
    → Agree (IsAskedFor t.policy t.trust due token) t.vouches w → (k : ℕ) (e : EntryValue) → Contains t.trust e
    → LeftForToken t c k e
    → LeftForToken (with_answers t w) c k e
token_left t w token due c claim same zero e k p = tt
token_left t w token due c claim same (suc zero) e k p = p
token_left t w token due c claim same (suc (suc zero)) e k p = p
token_left t w token due c claim same (suc (suc (suc zero))) e k p = p
token_left t w token due c claim same (suc (suc (suc (suc zero)))) e k p = p
token_left t w token due c claim same (suc (suc (suc (suc (suc n))))) e k p = (
  p.0,
  sym (same (asked e.certificate c.signer c.attributes)
      (record { claim = c; is_claim = claim; entry = e; trusted = k; passed = p.0; is = refl })) ∙ p.1,
)

pub token_fails : (t : Terms) (w : Asked → Bool) (token : List ℕ) (due : Due) (failed : TokenRule)
    → Agree (IsAskedFor t.policy t.trust due token) t.vouches w → TokenFailsFor t token due failed
    → TokenFailsFor (with_answers t w) token due failed
token_fails t w token due failed same f =
    record { signed = f.signed; stamp = f.stamp; reads = f.reads; first = by_rule f.first }
  where
    by_rule : ((token_claim t.policy due f.signed f.stamp ≡ Err failed)
        ⊎ ((c : TokenClaim) × (token_claim t.policy due f.signed f.stamp ≡ Ok c) × RunsOut t c failed))
        → (token_claim t.policy due f.signed f.stamp ≡ Err failed)
        ⊎ ((c : TokenClaim) × (token_claim t.policy due f.signed f.stamp ≡ Ok c)
        × RunsOut (with_answers t w) c failed)
    by_rule (inl e) = inl e
    by_rule (inr (c, e, out)) = inr (
      c,
      e,
      record {
        filter = out.filter;
        stops = stops-along (LeftForToken t c) (LeftForToken (with_answers t w) c) 5 t.trust out.filter
            (token_left t w token due c (f.signed, f.stamp, f.reads, sym e) same)
            (token_left (with_answers t w) t.vouches token due c (f.signed, f.stamp, f.reads, sym e)
            (λ q k. sym (same q k))) out.stops;
        is = out.is;
      },
    )

-- ---- a signer

-- two verifiers say the same of each question that is asked about a signer and its tokens
pub record AgreeOn (t : Terms) (s : SignerValue) (w : Asked → Bool) : Type 0 where
  pub signer : (attributes : List AttributeValue) → s.signed_attributes ≡ Some attributes
      → Agree (IsAskedOfSigner t s attributes) t.vouches w
  pub token : (token : List ℕ) → Contains (tokens s) token
      → Agree (IsAskedOfToken t.policy t.trust s.signature token) t.vouches w

-- of tokens alone, which is the same both ways
abbrev AgreeOnTokens : Terms → SignerValue → (Asked → Bool) → Type 0
AgreeOnTokens t s w = (token : List ℕ) → Contains (tokens s) token
    → Agree (IsAskedOfToken t.policy t.trust s.signature token) t.vouches w

tokens_back : (t : Terms) (s : SignerValue) (w : Asked → Bool) → AgreeOnTokens t s w
    → AgreeOnTokens (with_answers t w) s t.vouches
tokens_back t s w h = λ token c q k. sym (h token c q k)

stamped_along : (t : Terms) (w : Asked → Bool) (s : SignerValue) (m : ℕ) → AgreeOnTokens t s w → IsStamped t s m
    → IsStamped (with_answers t w) s m
stamped_along t w s m h =
    along (λ x. Passes t x s.signature m) (λ x. Passes (with_answers t w) x s.signature m) (tokens s)
    (λ x c p. passes t w x (of_octets s.signature) m (h x c) p)

stamped_back : (t : Terms) (w : Asked → Bool) (s : SignerValue) (m : ℕ) → AgreeOnTokens t s w
    → IsStamped (with_answers t w) s m → IsStamped t s m
stamped_back t w s m h = stamped_along (with_answers t w) t.vouches s m (tokens_back t s w h)

signers_left : (t : Terms) (w : Asked → Bool) (s : SignerValue) → AgreeOnTokens t s w → (e : EntryValue)
    → IsSigners t s e → IsSigners (with_answers t w) s e
signers_left t w s h e p = record {
  role = p.role;
  matches = p.matches;
  period = λ n k. let x = p.period n (stamped_back t w s n h k) in (x.0, stamped_along t w s x.0 h x.1, x.2);
}

back : (t : Terms) (w : Asked → Bool) (s : SignerValue) → AgreeOn t s w → AgreeOn (with_answers t w) s t.vouches
back t w s h = record {
  signer = λ attributes has q k. sym (h.signer attributes has q (record {
    entry = k.entry;
    trusted = k.trusted;
    passed = (signers_left (with_answers t w) t.vouches s (tokens_back t s w h.token) k.entry k.passed.0, k.passed.1);
    is = k.is;
  }));
  token = tokens_back t s w h.token;
}

moment_along : (t : Terms) (w : Asked → Bool) (s : SignerValue) (m : ℕ) → AgreeOn t s w → IsMoment t s m
    → IsMoment (with_answers t w) s m
moment_along t w s m h i = record {
  stamped = stamped_along t w s m h.token i.stamped;
  attributes = i.attributes;
  has = i.has;
  entry = along (SignedUnder t s i.attributes m) (SignedUnder (with_answers t w) s i.attributes m) t.trust
      (λ e c u. record {
        role = u.role;
        matches = u.matches;
        named = u.named;
        period = u.period;
        vouched = sym (h.signer i.attributes i.has (asked e.certificate s i.attributes) (record {
          entry = e;
          trusted = c;
          passed = (record { role = u.role; matches = u.matches; period = λ n k. (m, i.stamped, u.period) }, u.named);
          is = refl;
        })) ∙ u.vouched;
      }) i.entry;
}

signer_left : (t : Terms) (w : Asked → Bool) (s : SignerValue) (attributes : List AttributeValue)
    → s.signed_attributes ≡ Some attributes
    → AgreeOn t s w → (k : ℕ) (e : EntryValue) → Contains t.trust e → LeftForSigner t s attributes k e
    → LeftForSigner (with_answers t w) s attributes k e
signer_left t w s attributes has h zero e k p = tt
signer_left t w s attributes has h (suc zero) e k p = signers_left t w s h.token e p
signer_left t w s attributes has h (suc (suc zero)) e k p = (signers_left t w s h.token e p.0, p.1)
signer_left t w s attributes has h (suc (suc (suc n))) e k p = (
  (signers_left t w s h.token e p.0.0, p.0.1),
  sym (h.signer attributes has (asked e.certificate s attributes)
      (record { entry = e; trusted = k; passed = p.0; is = refl })) ∙ p.1,
)

-- ---- signers of a content

module _ (content econtent_type : List ℕ) where
  -- of a signer that fits the content
  abbrev pub Ready : Terms → (Asked → Bool) → SignerValue → Type 0
  Ready t w s = Fits t.policy content econtent_type s → AgreeOn t s w

  ready_back : (t : Terms) (w : Asked → Bool) (s : SignerValue) → Ready t w s → Ready (with_answers t w) t.vouches s
  ready_back t w s h fits = back t w s (h fits)

  pub signer_passes : (t : Terms) (w : Asked → Bool) (s : SignerValue) (m : ℕ) → Ready t w s
      → SignerPasses t content econtent_type s m
      → SignerPasses (with_answers t w) content econtent_type s m
  signer_passes t w s m ready p = let h = ready p.fits in record {
    fits = p.fits;
    earliest = record {
      has = moment_along t w s m h p.earliest.has;
      least = λ n i. p.earliest.least n (moment_along (with_answers t w) t.vouches s n (back t w s h) i);
    };
  }

  signs_along : (t : Terms) (w : Asked → Bool) (s : SignerValue) → Ready t w s → Signs t content econtent_type s
      → Signs (with_answers t w) content econtent_type s
  signs_along t w s ready g = record {
    fits = g.fits;
    attributes = g.attributes;
    has = g.has;
    entry = along (LeftForSigner t s g.attributes 3) (LeftForSigner (with_answers t w) s g.attributes 3) t.trust
        (signer_left t w s g.attributes g.has (ready g.fits) 3) g.entry;
  }

  pub signer_fails : (t : Terms) (w : Asked → Bool) (s : SignerValue) (failed : SignerRule) → Ready t w s
      → SignerFails t content econtent_type s failed
      → SignerFails (with_answers t w) content econtent_type s failed
  signer_fails t w s failed ready (inl e) = inl e
  signer_fails t w s failed ready (inr (inl out)) = let h = ready out.fits in inr (inl (record {
    fits = out.fits;
    attributes = out.attributes;
    has = out.has;
    filter = out.filter;
    stops = stops-along (LeftForSigner t s out.attributes)
        (LeftForSigner (with_answers t w) s out.attributes) 3 t.trust out.filter
        (signer_left t w s out.attributes out.has h)
        (signer_left (with_answers t w) t.vouches s out.attributes out.has (back t w s h)) out.stops;
    is = out.is;
  }))
  signer_fails t w s failed ready (inr (inr none)) = inr (inr (signs_along t w s ready none.0, none.1, none.2))

  pub tokens_fail : (t : Terms) (w : Asked → Bool) (s : SignerValue) (number : ℕ) (failed : TokenRule) → Ready t w s
      → TokensFail t content econtent_type s number failed
      → TokensFail (with_answers t w) content econtent_type s number failed
  tokens_fail t w s number failed ready f =
      let h = ready f.signs.fits in
      let among : Contains (tokens s) f.first =
      subst (λ (xs : List (List ℕ)). Contains xs f.first) (sym f.are) (0, omega arith, refl) in
      record {
        signs = signs_along t w s ready f.signs;
        none = λ m any. f.none m (stamped_back t w s m h.token any);
        first = f.first;
        others = f.others;
        are = f.are;
        is_first = f.is_first;
        fails = token_fails t w f.first (of_octets s.signature) failed (h.token f.first among) f.fails;
      }

  first_bad : (t : Terms) (w : Asked → Bool) (signers : List SignerValue) (number : ℕ) (P Q : SignerValue → Type 0)
      → ((s : SignerValue) → Contains signers s → Ready t w s) → ((s : SignerValue) → Contains signers s → P s → Q s)
      → FirstBad t content econtent_type signers number P
      → FirstBad (with_answers t w) content econtent_type signers number Q
  first_bad t w signers number P Q h f b = record {
    counts = b.counts;
    before = all-along (λ s. (n : ℕ) × SignerPasses t content econtent_type s n)
        (λ s. (n : ℕ) × SignerPasses (with_answers t w) content econtent_type s n)
        (take (number - 1) signers)
        (λ s c p. (p.0, signer_passes t w s p.0 (h s (from_take signers (number - 1) s c)) p.1)) b.before;
    signer = b.signer;
    is = b.is;
    bad = f b.signer (from_get signers (number - 1) b.signer b.is) b.bad;
  }

  accepts : (t : Terms) (w : Asked → Bool) (signers : List SignerValue) (m : ℕ)
      → ((s : SignerValue) → Contains signers s → Ready t w s)
      → Accepts t content econtent_type signers m → Accepts (with_answers t w) content econtent_type signers m
  accepts t w signers m h y = record {
    each = all-along (λ s. (n : ℕ) × SignerPasses t content econtent_type s n)
        (λ s. (n : ℕ) × SignerPasses (with_answers t w) content econtent_type s n)
        signers (λ s c p. (p.0, signer_passes t w s p.0 (h s c) p.1)) y.each;
    latest = record {
      has = along (λ s. SignerPasses t content econtent_type s m)
          (λ s. SignerPasses (with_answers t w) content econtent_type s m) signers
          (λ s c p. signer_passes t w s m (h s c) p) y.latest.has;
      greatest = λ n any. y.latest.greatest n (along (λ s. SignerPasses (with_answers t w) content econtent_type s n)
          (λ s. SignerPasses t content econtent_type s n) signers
          (λ s c p. signer_passes (with_answers t w) t.vouches s n (ready_back t w s (h s c)) p) any);
    };
  }

pub judges : (t : Terms) (w : Asked → Bool) (content : List ℕ) (v : SignedDataValue) (result : Result ℕ Refused)
    → ((s : SignerValue) → Contains v.signers s → Ready content v.encapsulated.content_type t w s)
    → Judges t content v result → Judges (with_answers t w) content v result
judges t w content v (Ok m) h j = accepts content v.encapsulated.content_type t w v.signers m h j
judges t w content v (Err (refused.File failed)) h j = j
judges t w content v (Err (refused.Signer number failed)) h j = let type : List ℕ = v.encapsulated.content_type in
    first_bad content type t w v.signers number (λ s. SignerFails t content type s failed)
    (λ s. SignerFails (with_answers t w) content type s failed) h
    (λ s c. signer_fails content type t w s failed (h s c)) j
judges t w content v (Err (refused.Token number token failed)) h j = let type : List ℕ = v.encapsulated.content_type in
    first_bad content type t w v.signers number (λ s. TokensFail t content type s token failed)
    (λ s. TokensFail (with_answers t w) content type s token failed)
    h (λ s c. tokens_fail content type t w s token failed (h s c)) j
judges t w content v (Err (refused.Device fault)) h j = j

-- what is said of the signers of a SignedData and this content
pub ready_of : (t : Terms) (w : Asked → Bool) (content : List ℕ) (v : SignedDataValue)
    → ((q : Asked) → IsAskedIn t content v q → w q ≡ t.vouches q)
    → (s : SignerValue) → Contains v.signers s → Ready content v.encapsulated.content_type t w s
ready_of t w content v agree s c fits = record {
  signer = λ attributes has q k. sym (agree q (record {
    signer = s;
    among = c;
    about = record {
      fits = fits;
      about = inl (subst (λ (a : List AttributeValue). IsAskedOfSigner t s a q)
          (same_attributes attributes fits.attributes s.signed_attributes has
          fits.present) k);
    };
  }));
  token = λ token among q k.
      sym (agree q (record { signer = s; among = c; about = record { fits = fits; about = inr (token, among, k) } }));
}
