-- A file is never both accepted and refused, it is accepted with one moment, and it is refused by one rule.
use Rattle.std.proofs.Common.{◌≡◌, ℕ, zero, suc, ◌-◌, ◌<◌, Bool, true, false, cond, List, [], ◌∷◌, length, Option, Some}
use Rattle.std.proofs.Common.{None, Result, Ok, Err, refl, sym, ap}
use Rattle.std.proofs.Common.{subst, ◌∙◌, arith, inl, inr}
use Rattle.std.specs.Prelude.{Any, slice_get, is_some, ◌==◌}
use Rattle.std.proofs.lemmas.Bool.{cases_lt, ne_eqb}
use Rattle.std.proofs.lemmas.Option.{slice_get_within}
use Rattle.cms_types.specs.AttributeValue.{AttributeValue}
use Rattle.cms_types.specs.SignerValue.{SignerValue}
use Rattle.cms_types.specs.SignedDataValue.{SignedDataValue, EncodesSignedData}
use Rattle.cms_types.specs.declared.fault.CmsFault.{CmsFault}
use Rattle.cms_types.specs.declared.fault.CmsFault.TheVariants as cms
use Rattle.check_fit.specs.declared.rules.FileRule.{FileRule}
use Rattle.check_fit.specs.declared.rules.FileRule.TheVariants as rule
use Rattle.check_fit.specs.declared.rules.SignerRule.{SignerRule}
use Rattle.check_fit.specs.declared.rules.TokenRule.{TokenRule}
use Rattle.check_fit.specs.declared.rules.Refused.{Refused}
use Rattle.check_fit.specs.declared.rules.Refused.TheVariants as refused
use Rattle.check_fit.specs.Fitting.{signer_answer}
use Rattle.check_fit.specs.FileFitting.{IsReading, placed, file_rules}
use Rattle.trust_lists.specs.Entries.{EntryValue}
use Rattle.check_verdict.specs.Passing.{Terms, of_octets, Passes}
use Rattle.check_verdict.specs.Filters.{StopsAt}
use Rattle.check_verdict.specs.TokenRules.{TokenFails}
use Rattle.check_verdict.specs.Verdicts.{tokens, SignedUnder, IsMoment, IsGreatest, SignerPasses, IsContent, Accepts}
use Rattle.check_verdict.specs.Verdicts.{LeftForSigner, signer_filter}
use Rattle.check_verdict.specs.Verdicts.{SignerRunsOut, Signs, SignerFails, TokensFail, FirstBad, Judges, Refuses}
use Rattle.check_verdict.specs.Alone.{file_alone, token_alone, alone}
use Rattle.check_verdict.specs.Laws.{FilesNeverBoth, FilesHaveOneMoment, FilesHaveOneRefusal}
use Rattle.check_verdict.proofs.Lists.{along, from_get, at, any_of_none, among_first, never_stops, stops_once}
use Rattle.check_fit.proofs.FitLaw.{fits_not_fails}
use Rattle.check_fit.proofs.Readings.{one_value, reads_it}
use Rattle.check_verdict.proofs.Readings.{reading_alone, one_reading}
use Rattle.check_verdict.proofs.Tokens as tokens_law

-- ---- a signer

one_failure : (a b : SignerRule) (r : Result (Unit {0}) SignerRule) → r ≡ Err a → r ≡ Err b → a ≡ b
one_failure a b r e h = let z = sym e ∙ h in cc

pub falls : (t : Terms) (s : SignerValue) (attributes : List AttributeValue) (k : ℕ) (e : EntryValue)
    → LeftForSigner t s attributes (suc k) e
    → LeftForSigner t s attributes k e
falls t s attributes zero e p = tt
falls t s attributes (suc zero) e p = p.0
falls t s attributes (suc (suc zero)) e p = p.0
falls t s attributes (suc (suc (suc n))) e p = p

same_attributes : (a b : List AttributeValue) (o : Option (List AttributeValue)) → o ≡ Some a → o ≡ Some b → a ≡ b
same_attributes a b o e h = let z = sym e ∙ h in cc

-- the entry of a moment is left after each filter
moment_left : (t : Terms) (s : SignerValue) (m : ℕ) (attributes : List AttributeValue)
    → s.signed_attributes ≡ Some attributes → IsMoment t s m
    → Any (LeftForSigner t s attributes 3) t.trust
moment_left t s m attributes has i =
    let are : i.attributes ≡ attributes = same_attributes i.attributes attributes s.signed_attributes i.has has in
    subst (λ (xs : List AttributeValue). Any (LeftForSigner t s xs 3) t.trust) are
    (along (SignedUnder t s i.attributes m) (LeftForSigner t s i.attributes 3) t.trust
    (λ e c u.
    ((record { role = u.role; matches = u.matches; period = λ n k. (m, i.stamped, u.period) }, u.named), u.vouched))
    i.entry)

-- a signer that is good fails no rule
pub good_not_failing : (t : Terms) (content econtent_type : List ℕ) (s : SignerValue) (m : ℕ) (failed : SignerRule)
    → SignerPasses t content econtent_type s m → SignerFails t content econtent_type s failed → ⊥
good_not_failing t content econtent_type s m failed p (inl h) =
    fits_not_fails t.policy content econtent_type s failed p.fits h
good_not_failing t content econtent_type s m failed p (inr (inl out)) =
    never_stops (LeftForSigner t s out.attributes) 3 t.trust out.filter
    (falls t s out.attributes) (moment_left t s m out.attributes out.has p.earliest.has) out.stops
good_not_failing t content econtent_type s m failed p (inr (inr none)) =
    any_of_none (λ token. Passes t token s.signature m)
    (tokens s) none.1 p.earliest.has.stamped

pub good_tokens : (t : Terms) (content econtent_type : List ℕ) (s : SignerValue) (m number : ℕ) (failed : TokenRule)
    → SignerPasses t content econtent_type s m → TokensFail t content econtent_type s number failed → ⊥
good_tokens t content econtent_type s m number failed p f = f.none m p.earliest.has.stamped

-- a signer fails one rule first
cons_not_nil : (x : List ℕ) (xs ys : List (List ℕ)) → ys ≡ x ∷ xs → ys ≡ [] → ⊥
cons_not_nil x xs ys e h = let z = sym e ∙ h in cc

out_not_signs : (t : Terms) (content econtent_type : List ℕ) (s : SignerValue) (failed : SignerRule)
    → SignerRunsOut t content econtent_type s failed
    → Signs t content econtent_type s → ⊥
out_not_signs t content econtent_type s failed out g =
    let are = same_attributes g.attributes out.attributes s.signed_attributes g.has out.has in
    never_stops (LeftForSigner t s out.attributes) 3 t.trust out.filter (falls t s out.attributes)
    (subst (λ (xs : List AttributeValue). Any (LeftForSigner t s xs 3) t.trust) are g.entry) out.stops

one_out : (t : Terms) (content econtent_type : List ℕ) (s : SignerValue) (a b : SignerRule)
    → SignerRunsOut t content econtent_type s a
    → SignerRunsOut t content econtent_type s b → a ≡ b
one_out t content econtent_type s a b h k =
    let are = same_attributes h.attributes k.attributes s.signed_attributes h.has k.has in
    h.is ∙ ap signer_filter
    (stops_once (LeftForSigner t s k.attributes) 3 t.trust h.filter k.filter (falls t s k.attributes)
    (subst (λ (xs : List AttributeValue). StopsAt (LeftForSigner t s xs) 3 t.trust h.filter) are h.stops) k.stops)
    ∙ sym k.is

pub one_signer_rule : (t : Terms) (content econtent_type : List ℕ) (s : SignerValue) (a b : SignerRule)
    → SignerFails t content econtent_type s a
    → SignerFails t content econtent_type s b → a ≡ b
one_signer_rule t content econtent_type s a b (inl h) (inl k) =
    one_failure a b (signer_answer t.policy content econtent_type s) h k
one_signer_rule t content econtent_type s a b (inl h) (inr (inl k)) =
    absurd (fits_not_fails t.policy content econtent_type s a k.fits h)
one_signer_rule t content econtent_type s a b (inl h) (inr (inr k)) =
    absurd (fits_not_fails t.policy content econtent_type s a k.0.fits h)
one_signer_rule t content econtent_type s a b (inr (inl h)) (inl k) =
    absurd (fits_not_fails t.policy content econtent_type s b h.fits k)
one_signer_rule t content econtent_type s a b (inr (inl h)) (inr (inl k)) = one_out t content econtent_type s a b h k
one_signer_rule t content econtent_type s a b (inr (inl h)) (inr (inr k)) =
    absurd (out_not_signs t content econtent_type s a h k.0)
one_signer_rule t content econtent_type s a b (inr (inr h)) (inl k) =
    absurd (fits_not_fails t.policy content econtent_type s b h.0.fits k)
one_signer_rule t content econtent_type s a b (inr (inr h)) (inr (inl k)) =
    absurd (out_not_signs t content econtent_type s b k h.0)
one_signer_rule t content econtent_type s a b (inr (inr h)) (inr (inr k)) = h.2 ∙ sym k.2

pub rule_not_tokens :
    (t : Terms) (content econtent_type : List ℕ) (s : SignerValue) (a : SignerRule) (number : ℕ) (b : TokenRule)
    → SignerFails t content econtent_type s a → TokensFail t content econtent_type s number b → ⊥
rule_not_tokens t content econtent_type s a number b (inl h) f =
    fits_not_fails t.policy content econtent_type s a f.signs.fits h
rule_not_tokens t content econtent_type s a number b (inr (inl h)) f =
    out_not_signs t content econtent_type s a h f.signs
rule_not_tokens t content econtent_type s a number b (inr (inr h)) f =
    cons_not_nil f.first f.others (tokens s) f.are h.1

same_first : (x y : List ℕ) (xs ys zs : List (List ℕ)) → zs ≡ x ∷ xs → zs ≡ y ∷ ys → x ≡ y
same_first x y xs ys zs e h = let z = sym e ∙ h in cc

pub one_token_rule : (t : Terms) (content econtent_type : List ℕ) (s : SignerValue) (n k : ℕ) (a b : TokenRule)
    → TokensFail t content econtent_type s n a → TokensFail t content econtent_type s k b
    → (n ≡ k) × (token_alone a ≡ token_alone b)
one_token_rule t content econtent_type s n k a b f g =
    let first = same_first f.first g.first f.others g.others (tokens s) f.are g.are in (
      f.is_first ∙ sym g.is_first,
      tokens_law.one_rule t g.first (of_octets s.signature) a b
          (subst (λ (x : List ℕ). TokenFails t x s.signature a) first f.fails) g.fails,
    )

-- ---- the first signer that isn't good

abbrev Good : Terms → (content econtent_type : List ℕ) → SignerValue → Type 0
Good t content econtent_type s = (n : ℕ) × SignerPasses t content econtent_type s n

-- what no good signer is
abbrev Refutes : Terms → (content econtent_type : List ℕ) → (SignerValue → Type 0) → Type 0
Refutes t content econtent_type Bad = (s : SignerValue) → Good t content econtent_type s → Bad s → ⊥

module _ (t : Terms) (content econtent_type : List ℕ) (signers : List SignerValue) (n k : ℕ)
    (P Q : SignerValue → Type 0) where
  before_it : Refutes t content econtent_type P → FirstBad t content econtent_type signers n P
      → FirstBad t content econtent_type signers k Q → n < k → ⊥
  before_it never f g lt =
      never f.signer (among_first signers (n - 1) (k - 1) f.signer (Good t content econtent_type) f.is
      (omega (arith, lt, f.counts)) g.before) f.bad

module _ (t : Terms) (content econtent_type : List ℕ) (signers : List SignerValue) (n k : ℕ)
    (P Q : SignerValue → Type 0) where
  one_number : Refutes t content econtent_type P → Refutes t content econtent_type Q
      → FirstBad t content econtent_type signers n P
      → FirstBad t content econtent_type signers k Q → n ≡ k
  one_number p q f g = elim (cases_lt n k) [
    | inl lt ↦ absurd (before_it t content econtent_type signers n k P Q p f g lt)
    | inr ge ↦ elim (cases_lt k n) [
      | inl lt ↦ absurd (before_it t content econtent_type signers k n Q P q g f lt)
      | inr le ↦ omega (arith, ge, le)
    ]
  ]

pub same_signer : (a b : SignerValue) (o : Option SignerValue) → o ≡ Some a → o ≡ Some b → a ≡ b
same_signer a b o e h = let z = sym e ∙ h in cc

-- two such name one signer, for which both hold
abbrev OneSigner : (n k : ℕ) (P Q : SignerValue → Type 0) → Type 0
OneSigner n k P Q = (n ≡ k) × (s : SignerValue) × P s × Q s

module _ (t : Terms) (content econtent_type : List ℕ) (signers : List SignerValue) (n k : ℕ)
    (P Q : SignerValue → Type 0) where
  one_signer : Refutes t content econtent_type P → Refutes t content econtent_type Q
      → FirstBad t content econtent_type signers n P
      → FirstBad t content econtent_type signers k Q → OneSigner n k P Q
  one_signer p q f g =
      let e = one_number t content econtent_type signers n k P Q p q f g in
      let is = same_signer f.signer g.signer (slice_get signers (k - 1))
      (subst (λ (i : ℕ). slice_get signers (i - 1) ≡ Some f.signer) e f.is) g.is in
      (e, g.signer, subst P is f.bad, g.bad)

-- ---- a file

pub one_content : (own handed : Option (List ℕ)) (a b : List ℕ) → IsContent own handed a → IsContent own handed b
    → a ≡ b
one_content None None a b h k = absurd h
one_content None (Some x) a b h k = h ∙ sym k
one_content (Some y) None a b h k = h ∙ sym k
one_content (Some y) (Some x) a b h k = absurd h

pub is_placed : (v : SignedDataValue) (own handed : Option (List ℕ)) (content : List ℕ) → IsContent own handed content
    → placed v own (is_some handed) ≡ Ok v
is_placed v None None content h = absurd h
is_placed v None (Some x) content h = refl
is_placed v (Some y) None content h = refl
is_placed v (Some y) (Some x) content h = absurd h

-- a file with a signer and one content fails none of C1 to C5
module _ (file : List ℕ) (handed : Option (List ℕ)) (v : SignedDataValue) (content : List ℕ)
    (reading : Result SignedDataValue CmsFault) (i : ℕ)
    (failed : Refused) where
  no_file_rule : EncodesSignedData file v → IsContent v.encapsulated.content handed content → i < length v.signers
      → IsReading file reading
      → file_rules reading (is_some handed) ≡ Err failed → ⊥
  no_file_rule encodes is within reads e =
      let is_v : reading ≡ Ok v = reads_it file reading v reads encodes in
      let some : (length v.signers == 0) ≡ false =
      ne_eqb (length v.signers) 0 (λ z. absurd (omega (arith, within, z))) in
      let good : file_rules (Ok v) (is_some handed) ≡ Ok v =
      rw (some) (is_placed v v.encapsulated.content handed content is) in
      let z : Ok v ≡ Err failed = sym good
      ∙ ap (λ (r : Result SignedDataValue CmsFault). file_rules r (is_some handed)) (sym is_v) ∙ e in
      absurd cc

-- what is refused before its signers are looked at is refused by a rule of the file
abbrev pub OfRule : Refused → Type 0
OfRule r = (f : FileRule) × (r ≡ refused.File f)

abbrev refusal : Refused → Result SignedDataValue Refused
refusal r = Err r

is_rule : (f : FileRule) (r : Refused) → refusal (refused.File f) ≡ Err r → OfRule r
is_rule f r e = (f, cc)

placed_rule : (v : SignedDataValue) (own : Option (List ℕ)) (handed : Bool) (r : Refused) → placed v own handed ≡ Err r
    → OfRule r
placed_rule v None false r e = is_rule rule.NoContent r e
placed_rule v None true r e = absurd cc
placed_rule v (Some b) false r e = absurd cc
placed_rule v (Some b) true r e = is_rule rule.ContentTwice r e

pub file_refusal : (file : List ℕ) (reading : Result SignedDataValue CmsFault) (handed : Bool) (r : Refused)
    → IsReading file reading
    → file_rules reading handed ≡ Err r → OfRule r
file_refusal file (Err (cms.Malformed f)) handed r is e = is_rule (rule.Malformed f) r e
file_refusal file (Err cms.NotSignedData) handed r is e = is_rule rule.NotSignedData r e
file_refusal file (Err cms.OutOfMemory) handed r is e = absurd is
file_refusal file (Ok v) handed r is e = go (length v.signers == 0) e
  where
    go : (b : Bool) → cond b (refusal (refused.File rule.NoSigner)) (placed v v.encapsulated.content handed) ≡ Err r
        → OfRule r
    go true k = is_rule rule.NoSigner r k
    go false k = placed_rule v v.encapsulated.content handed r k

-- what is said of one value and one content is said of each
abbrev Said : Terms → (file : List ℕ) → (handed : Option (List ℕ)) → Refused → Type 0
Said t file handed r = (v : SignedDataValue) × EncodesSignedData file v × (content : List ℕ)
    × IsContent v.encapsulated.content handed content
    × Judges t content v (Err r)

said_of : (t : Terms) (file : List ℕ) (handed : Option (List ℕ)) (r : Refused) (v : SignedDataValue) (content : List ℕ)
    → EncodesSignedData file v
    → IsContent v.encapsulated.content handed content → Said t file handed r → Judges t content v (Err r)
said_of t file handed r v content encodes is (w, e, other, k, judged) =
    let same = one_value file w v e encodes in
    let k' : IsContent v.encapsulated.content handed other =
    subst (λ (x : SignedDataValue). IsContent x.encapsulated.content handed other) same k in
    let j : Judges t other v (Err r) = subst (λ (x : SignedDataValue). Judges t other x (Err r)) same judged in
    subst (λ (c : List ℕ). Judges t c v (Err r)) (one_content v.encapsulated.content handed other content k' is) j

never_rule : (t : Terms) (content econtent_type : List ℕ) (failed : SignerRule)
    → Refutes t content econtent_type (λ s. SignerFails t content econtent_type s failed)
never_rule t content econtent_type failed s p f = good_not_failing t content econtent_type s p.0 failed p.1 f

never_tokens : (t : Terms) (content econtent_type : List ℕ) (number : ℕ) (failed : TokenRule)
    → Refutes t content econtent_type (λ s. TokensFail t content econtent_type s number failed)
never_tokens t content econtent_type number failed s p f = good_tokens t content econtent_type s p.0 number failed p.1 f

accepts_none : (t : Terms) (content econtent_type : List ℕ) (signers : List SignerValue) (m number : ℕ)
    (Bad : SignerValue → Type 0)
    → Refutes t content econtent_type Bad → Accepts t content econtent_type signers m
    → FirstBad t content econtent_type signers number Bad → ⊥
accepts_none t content econtent_type signers m number Bad never y b =
    never b.signer
    (at (Good t content econtent_type) signers b.signer y.each (from_get signers (number - 1) b.signer b.is)) b.bad

pub never_both : FilesNeverBoth
never_both t file handed m (refused.Device fault) y r = r
never_both t file handed m (refused.File failed) y (reading, is, e) =
    no_file_rule file handed y.signed y.content reading y.accepts.latest.has.0
    (refused.File failed) y.encodes y.is_content y.accepts.latest.has.2 is e
never_both t file handed m (refused.Signer number failed) y r =
    let econtent_type : List ℕ = y.signed.encapsulated.content_type in
    accepts_none t y.content econtent_type y.signed.signers m number
    (λ s. SignerFails t y.content econtent_type s failed) (never_rule t y.content
    econtent_type failed) y.accepts
    (said_of t file handed (refused.Signer number failed) y.signed y.content y.encodes y.is_content r)
never_both t file handed m (refused.Token number token failed) y r =
    let econtent_type : List ℕ = y.signed.encapsulated.content_type in
    accepts_none t y.content econtent_type y.signed.signers m number
    (λ s. TokensFail t y.content econtent_type s token failed)
    (never_tokens t y.content econtent_type token failed) y.accepts
    (said_of t file handed (refused.Token number token failed) y.signed y.content y.encodes y.is_content r)

one_greatest : (P : ℕ → Type 0) (m n : ℕ) → IsGreatest P m → IsGreatest P n → m ≡ n
one_greatest P m n h k = omega (arith, k.greatest m h.has, h.greatest n k.has)

pub one_moment : FilesHaveOneMoment
one_moment t file handed m n y z =
    let same = one_value file y.signed z.signed y.encodes z.encodes in
    let content : y.content ≡ z.content = one_content z.signed.encapsulated.content handed y.content z.content
    (subst (λ (v : SignedDataValue). IsContent v.encapsulated.content handed y.content) same y.is_content)
    z.is_content in
    let there : Accepts t y.content z.signed.encapsulated.content_type z.signed.signers m =
    subst (λ (v : SignedDataValue). Accepts t y.content v.encapsulated.content_type v.signers m) same y.accepts in
    let accepts : Accepts t z.content z.signed.encapsulated.content_type z.signed.signers m =
    subst (λ (c : List ℕ). Accepts t c z.signed.encapsulated.content_type z.signed.signers m) content there in
    one_greatest (λ k. Any (λ s. SignerPasses t z.content z.signed.encapsulated.content_type s k) z.signed.signers) m n
    accepts.latest z.accepts.latest

-- ---- one refusal

abbrev pub rules_alone : Result SignedDataValue Refused → Result SignedDataValue Refused
rules_alone (Ok v) = Ok v
rules_alone (Err e) = Err (alone e)

same_value : (v w : SignedDataValue) → reading_alone (Ok v) ≡ reading_alone (Ok w) → v ≡ w
same_value v w e = cc

pub rules_alike : (handed : Bool) (r r' : Result SignedDataValue CmsFault) → reading_alone r ≡ reading_alone r'
    → rules_alone (file_rules r handed) ≡ rules_alone (file_rules r' handed)
rules_alike handed (Ok v) (Ok w) e =
    ap (λ (x : SignedDataValue). rules_alone (file_rules (Ok x) handed)) (same_value v w e)
rules_alike handed (Ok v) (Err g) e = absurd cc
rules_alike handed (Err f) (Ok w) e = absurd cc
rules_alike handed (Err (cms.Malformed f)) (Err (cms.Malformed g)) e = refl
rules_alike handed (Err (cms.Malformed f)) (Err cms.NotSignedData) e = absurd cc
rules_alike handed (Err (cms.Malformed f)) (Err cms.OutOfMemory) e = absurd cc
rules_alike handed (Err cms.NotSignedData) (Err (cms.Malformed g)) e = absurd cc
rules_alike handed (Err cms.NotSignedData) (Err cms.NotSignedData) e = refl
rules_alike handed (Err cms.NotSignedData) (Err cms.OutOfMemory) e = absurd cc
rules_alike handed (Err cms.OutOfMemory) (Err (cms.Malformed g)) e = absurd cc
rules_alike handed (Err cms.OutOfMemory) (Err cms.NotSignedData) e = absurd cc
rules_alike handed (Err cms.OutOfMemory) (Err cms.OutOfMemory) e = refl

pub same_file_rule : (a b : FileRule) → rules_alone (Err (refused.File a)) ≡ rules_alone (Err (refused.File b))
    → file_alone a ≡ file_alone b
same_file_rule a b e = cc

one_file_rule : (file : List ℕ) (handed : Bool) (r r' : Result SignedDataValue CmsFault) (a b : FileRule)
    → IsReading file r → IsReading file r'
    → file_rules r handed ≡ Err (refused.File a) → file_rules r' handed ≡ Err (refused.File b)
    → file_alone a ≡ file_alone b
one_file_rule file handed r r' a b is is' e h =
    same_file_rule a b
    (sym (ap rules_alone e) ∙ rules_alike handed r r' (one_reading file r r' is is') ∙ ap rules_alone h)

abbrev OneRefusal : Terms → (file : List ℕ) → (handed : Option (List ℕ)) → Refused → Refused → Type 0
OneRefusal t file handed a b = Refuses t file handed a → Refuses t file handed b → alone a ≡ alone b

module _ (t : Terms) (file : List ℕ) (handed : Option (List ℕ)) (failed : FileRule) (number : ℕ)
    (Bad : (content econtent_type : List ℕ) → SignerValue → Type 0) (v : SignedDataValue) (content : List ℕ) where
  file_not_signer : EncodesSignedData file v → IsContent v.encapsulated.content handed content
      → FirstBad t content v.encapsulated.content_type v.signers number (Bad content v.encapsulated.content_type)
      → Refuses t file handed (refused.File failed) → ⊥
  file_not_signer encodes is b (reading, reads, e) = no_file_rule file handed v content reading (number - 1)
      (refused.File failed) encodes is (slice_get_within v.signers (number - 1) b.signer b.is) reads e

signer_signer : (t : Terms) (file : List ℕ) (handed : Option (List ℕ)) (n k : ℕ) (a b : SignerRule)
    → OneRefusal t file handed (refused.Signer n a) (refused.Signer k b)
signer_signer t file handed n k a b x (v, e, content, is, bad) =
    let econtent_type : List ℕ = v.encapsulated.content_type in
    let o = one_signer t content econtent_type v.signers n k (λ s. SignerFails t content econtent_type s a)
    (λ s. SignerFails t content econtent_type s b) (never_rule t content econtent_type a)
    (never_rule t content econtent_type b)
    (said_of t file handed (refused.Signer n a) v content e is x) bad in
    let r : a ≡ b = one_signer_rule t content econtent_type o.1 a b o.2 o.3 in
    ap (λ (i : ℕ). refused.Signer i a) o.0 ∙ ap (λ (q : SignerRule). refused.Signer k q) r

signer_token : (t : Terms) (file : List ℕ) (handed : Option (List ℕ)) (n k i : ℕ) (a : SignerRule) (b : TokenRule)
    → Refuses t file handed (refused.Signer n a) → Refuses t file handed (refused.Token k i b) → ⊥
signer_token t file handed n k i a b x (v, e, content, is, bad) =
    let econtent_type : List ℕ = v.encapsulated.content_type in
    let o = one_signer t content econtent_type v.signers n k (λ s. SignerFails t content econtent_type s a)
    (λ s. TokensFail t content econtent_type s i b) (never_rule t content econtent_type a)
    (never_tokens t content econtent_type i b)
    (said_of t file handed (refused.Signer n a) v content e is x) bad in
    rule_not_tokens t content econtent_type o.1 a i b o.2 o.3

token_token : (t : Terms) (file : List ℕ) (handed : Option (List ℕ)) (n k i j : ℕ) (a b : TokenRule)
    → OneRefusal t file handed (refused.Token n i a) (refused.Token k j b)
token_token t file handed n k i j a b x (v, e, content, is, bad) =
    let econtent_type : List ℕ = v.encapsulated.content_type in
    let o = one_signer t content econtent_type v.signers n k (λ s. TokensFail t content econtent_type s i a)
    (λ s. TokensFail t content econtent_type s j b) (never_tokens t content econtent_type i a)
    (never_tokens t content econtent_type j b)
    (said_of t file handed (refused.Token n i a) v content e is x) bad in
    let r = one_token_rule t content econtent_type o.1 i j a b o.2 o.3 in
    ap (λ (l : ℕ). refused.Token l i (token_alone a)) o.0 ∙ ap (λ (l : ℕ). refused.Token k l (token_alone a)) r.0
    ∙ ap (λ (q : TokenRule). refused.Token k j q) r.1

pub one_refusal : FilesHaveOneRefusal
one_refusal t file handed (refused.Device f) b x y = absurd x
one_refusal t file handed (refused.File a) (refused.Device f) x y = absurd y
one_refusal t file handed (refused.File a) (refused.File b) x y = ap (λ (q : FileRule). refused.File q)
    (one_file_rule file (is_some handed) x.0 y.0 a b x.1 y.1 x.2 y.2)
one_refusal t file handed (refused.File a) (refused.Signer k b) x (v, e, content, is, bad) =
    absurd (file_not_signer t file handed a k
    (λ c econtent_type s. SignerFails t c econtent_type s b) v content e is bad x)
one_refusal t file handed (refused.File a) (refused.Token k j b) x (v, e, content, is, bad) =
    absurd (file_not_signer t file handed a k
    (λ c econtent_type s. TokensFail t c econtent_type s j b) v content e is bad x)
one_refusal t file handed (refused.Signer n a) (refused.Device f) x y = absurd y
one_refusal t file handed (refused.Signer n a) (refused.File b) (v, e, content, is, bad) y =
    absurd (file_not_signer t file handed b n
    (λ c econtent_type s. SignerFails t c econtent_type s a) v content e is bad y)
one_refusal t file handed (refused.Signer n a) (refused.Signer k b) x y = signer_signer t file handed n k a b x y
one_refusal t file handed (refused.Signer n a) (refused.Token k j b) x y =
    absurd (signer_token t file handed n k j a b x y)
one_refusal t file handed (refused.Token n i a) (refused.Device f) x y = absurd y
one_refusal t file handed (refused.Token n i a) (refused.File b) (v, e, content, is, bad) y =
    absurd (file_not_signer t file handed b n
    (λ c econtent_type s. TokensFail t c econtent_type s i a) v content e is bad y)
one_refusal t file handed (refused.Token n i a) (refused.Signer k b) x y =
    absurd (signer_token t file handed k n i b a y x)
one_refusal t file handed (refused.Token n i a) (refused.Token k j b) x y = token_token t file handed n k i j a b x y
