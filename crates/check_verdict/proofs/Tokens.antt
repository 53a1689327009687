-- A token never both passes and fails, it passes with one moment, and it fails one rule first.
use Rattle.std.proofs.Common.{◌≡◌, ◌≤◌, ℕ, zero, suc, List, [], Option, Some, Result, Ok, Err, refl, sym, ap, subst}
use Rattle.std.proofs.Common.{◌∙◌, inl, inr, ◌⊎◌, arith}
use Rattle.std.specs.Prelude.{Any, unwrap_or}
use Rattle.der_core.specs.declared.fault.Fault.{Fault}
use Rattle.der_core.specs.Results.{◌>>=◌, or_as}
use Rattle.der_core.proofs.ReadLengths.{ok_is}
use Rattle.cert_types.specs.Purposes.{IsStampingOnly}
use Rattle.der_time.specs.Moments.{generalized_moment}
use Rattle.cms_types.specs.AttributeValue.{AttributeValue}
use Rattle.cms_types.specs.SignerValue.{SignerValue}
use Rattle.cms_types.specs.SignedDataValue.{SignedDataValue}
use Rattle.cms_types.specs.declared.fault.CmsFault.{CmsFault}
use Rattle.check_fit.specs.declared.policy.Policy.{Policy}
use Rattle.check_fit.specs.declared.rules.TokenRule.{TokenRule}
use Rattle.check_fit.specs.declared.rules.TokenRule.TheVariants as rule
use Rattle.tsp_types.specs.TstValue.{TstValue, EncodesTst}
use Rattle.trust_lists.specs.Entries.{EntryValue}
use Rattle.check_verdict.specs.Trusted.{Holds}
use Rattle.check_verdict.specs.Filters.{Comes}
use Rattle.digests.specs.Named.{alg_named}
use Rattle.check_verdict.specs.Passing.{Terms, Vouched, Due, StampedUnder, PassesFor}
use Rattle.check_names.specs.Naming.{MustName}
use Rattle.check_verdict.specs.TokenRules.{Reads, TokenClaim, Statement, held, signed_by, imprint_alg, claimed, stated}
use Rattle.check_verdict.specs.TokenRules.{token_statement, due_claim, token_claim, LeftForToken, token_filter, RunsOut}
use Rattle.check_verdict.specs.Alone.{cms_alone, token_alone}
use Rattle.check_verdict.specs.Laws.{TokensNeverBoth, TokensHaveOneMoment, TokensFailOneRule}
use Rattle.check_verdict.proofs.Lists.{along, never_stops, stops_once, lowered}
use Rattle.digests.proofs.Named.{named_is}
use Rattle.check_verdict.proofs.Claims.{held_says, claim_from, due_is}
use Rattle.check_fit.proofs.Readings.{one_value, reads_it}
use Rattle.check_verdict.proofs.Readings.{reading_alone, one_reading, one_tst, reads_tst, tst_alone, one_tst_reading}

pub falls : (t : Terms) (c : TokenClaim) (k : ℕ) (e : EntryValue) → LeftForToken t c (suc k) e → LeftForToken t c k e
falls t c zero e p = tt
falls t c (suc zero) e p = p.0
falls t c (suc (suc zero)) e p = p.0
falls t c (suc (suc (suc zero))) e p = p.0
falls t c (suc (suc (suc (suc zero)))) e p = p.0
falls t c (suc (suc (suc (suc (suc n))))) e p = p

-- an entry that passes K12 has a certificate for time-stamping alone
pub past_purpose : (t : Terms) (c : TokenClaim) (e : EntryValue) (k : ℕ) → 3 ≤ k → Comes (LeftForToken t c) 5 e k
    → IsStampingOnly e.certificate
past_purpose t c e k le h = (lowered (LeftForToken t c) (falls t c) 3 k e le (h.left (omega (arith, le)))).1

abbrev claim_ok : TokenClaim → Result TokenClaim TokenRule
claim_ok c = Ok c

same_claim : (a b : TokenClaim) → claim_ok a ≡ claim_ok b → a ≡ b
same_claim a b e = cc

some_attributes : (a b : List AttributeValue) (o : Option (List AttributeValue)) → o ≡ Some a → o ≡ Some b → a ≡ b
some_attributes a b o e h = let z = sym e ∙ h in cc

-- what a token says that passes
pub passing_claim : (t : Terms) (token : List ℕ) (due : Due) (m : ℕ) (p : PassesFor t token due m)
    (signed : Result SignedDataValue CmsFault)
    (stamp : Result TstValue Fault) → Reads token signed stamp
    → token_claim t.policy due signed stamp ≡ Ok (claimed p.signer p.stamp)
passing_claim t token due m p signed stamp r =
    let is : signed ≡ Ok p.signed = reads_it token signed p.signed r.is_signed p.encodes in
    let is_stamp : stamp ≡ Ok p.stamp =
    reads_tst p.content stamp p.stamp (r.is_stamp p.signed p.content is p.present) p.encodes_stamp in
    let named : alg_named p.stamp.imprint.algorithm ≡ Some p.imprint.alg =
    named_is p.stamp.imprint.algorithm p.imprint.alg p.imprint.named in
    claim_from t.policy signed stamp p.signed p.content p.signer p.stamp p.imprint.alg due is p.econtent_type
    p.present p.one_signer p.fits is_stamp p.calm
    (rw (named, p.imprint.allows) refl) (due_is (due p.imprint.alg) p.stamp.imprint.digest p.imprint.digest)

-- an entry that it passes under is left after each filter
passing_left : (t : Terms) (token : List ℕ) (due : Due) (m : ℕ) (p : PassesFor t token due m)
    → Any (LeftForToken t (claimed p.signer p.stamp) 5) t.trust
passing_left t token due m p =
    along (StampedUnder t p.signer p.attributes m) (LeftForToken t (claimed p.signer p.stamp) 5) t.trust
    (λ e c u. left e u) p.entry
  where
    are : p.attributes ≡ unwrap_or p.signer.signed_attributes []
    are = sym (ap (λ (o : Option (List AttributeValue)). unwrap_or o []) p.has)

    left : (e : EntryValue) → StampedUnder t p.signer p.attributes m e → LeftForToken t (claimed p.signer p.stamp) 5 e
    left e u = (
      (
        (((u.role, u.matches), subst (λ (xs : List AttributeValue). MustName xs e.certificate) are u.named), u.purpose),
        subst (λ (n : ℕ). Holds e n) (sym p.moment) u.period,
      ),
      subst (λ (xs : List AttributeValue). Vouched t e p.signer xs) are u.vouched,
    )

not_failing : (c : TokenClaim) (failed : TokenRule) (r : Result TokenClaim TokenRule) → r ≡ Ok c → r ≡ Err failed → ⊥
not_failing c failed r e h = let z = sym e ∙ h in cc

pub never_both : TokensNeverBoth
never_both t token due m failed p f = by_rule f.first
  where
    claim : token_claim t.policy due f.signed f.stamp ≡ Ok (claimed p.signer p.stamp)
    claim = passing_claim t token due m p f.signed f.stamp f.reads

    by_rule : ((token_claim t.policy due f.signed f.stamp ≡ Err failed)
        ⊎ ((c : TokenClaim) × (token_claim t.policy due f.signed f.stamp ≡ Ok c) × RunsOut t c failed)) → ⊥
    by_rule (inl e) =
        not_failing (claimed p.signer p.stamp) failed (token_claim t.policy due f.signed f.stamp) claim e
    by_rule (inr (c, e, out)) =
        let is : claimed p.signer p.stamp ≡ c = same_claim (claimed p.signer p.stamp) c (sym claim ∙ e) in
        let any : Any (LeftForToken t c 5) t.trust =
        subst (λ (x : TokenClaim). Any (LeftForToken t x 5) t.trust) is (passing_left t token due m p) in
        never_stops (LeftForToken t c) 5 t.trust out.filter (falls t c) any out.stops

-- ---- one moment

some_content : (a b : List ℕ) (o : Option (List ℕ)) → o ≡ Some a → o ≡ Some b → a ≡ b
some_content a b o e h = let z = sym e ∙ h in cc

pub one_moment : TokensHaveOneMoment
one_moment t token due m n p q =
    let v : p.signed ≡ q.signed = one_value token p.signed q.signed p.encodes q.encodes in
    let content : p.content ≡ q.content = some_content p.content q.content q.signed.encapsulated.content
    (subst (λ (x : SignedDataValue). x.encapsulated.content ≡ Some p.content) v p.present) q.present in
    let x : p.stamp ≡ q.stamp = one_tst q.content p.stamp q.stamp
    (subst (λ (b : List ℕ). EncodesTst b p.stamp) content p.encodes_stamp) q.encodes_stamp in
    sym p.moment ∙ ap (λ (y : TstValue). generalized_moment y.time) x ∙ q.moment

-- ---- one rule

abbrev statement_alone : Result Statement TokenRule → Result Statement TokenRule
statement_alone (Ok s) = Ok s
statement_alone (Err e) = Err (token_alone e)

abbrev SameStatement : Result Statement TokenRule → Result Statement TokenRule → Type 0
SameStatement a b = statement_alone a ≡ statement_alone b

abbrev claim_alone : Result TokenClaim TokenRule → Result TokenClaim TokenRule
claim_alone (Ok c) = Ok c
claim_alone (Err e) = Err (token_alone e)

abbrev Alike : Result TokenClaim TokenRule → Result TokenClaim TokenRule → Type 0
Alike a b = claim_alone a ≡ claim_alone b

-- what a token states whose signer is this one and whose content reads so
abbrev pub states : Policy → SignerValue → TstValue → Result Statement TokenRule
states policy s x = imprint_alg policy x >>= λ alg. Ok (stated s x alg)

bind_alike : {A : Type 0} (r : Result A TokenRule) (f g : A → Result Statement TokenRule)
    → ((x : A) → r ≡ Ok x → SameStatement (f x) (g x))
    → SameStatement (r >>= f) (r >>= g)
bind_alike (Ok x) f g h = h x refl
bind_alike (Err e) f g h = refl

by_stamp : (policy : Policy) (stamp stamp' : Result TstValue Fault) (s : SignerValue)
    → tst_alone stamp ≡ tst_alone stamp'
    → SameStatement (or_as rule.TstMalformed stamp >>= states policy s)
    (or_as rule.TstMalformed stamp' >>= states policy s)
by_stamp policy (Ok x) (Ok y) s e =
    let z : x ≡ y = ok_is x y e in ap (λ (w : TstValue). statement_alone (states policy s w)) z
by_stamp policy (Ok x) (Err g) s e = absurd cc
by_stamp policy (Err f) (Ok y) s e = absurd cc
by_stamp policy (Err f) (Err g) s e = refl

-- what a token states whose octets read so, and its content so
abbrev by_value : Policy → Result TstValue Fault → SignedDataValue → Result Statement TokenRule
by_value policy stamp v =
    held v >>= λ content. signed_by policy v content >>= λ s. or_as rule.TstMalformed stamp >>= states policy s

by_content : (policy : Policy) (stamp stamp' : Result TstValue Fault) (v : SignedDataValue)
    → ((content : List ℕ) → v.encapsulated.content ≡ Some content → tst_alone stamp ≡ tst_alone stamp')
    → SameStatement (by_value policy stamp v) (by_value policy stamp' v)
by_content policy stamp stamp' v h =
    bind_alike (held v)
    (λ content. signed_by policy v content >>= λ s. or_as rule.TstMalformed stamp >>= states policy s)
    (λ content. signed_by policy v content >>= λ s. or_as rule.TstMalformed stamp' >>= states policy s)
    (λ content is.
    bind_alike (signed_by policy v content) (λ s. or_as rule.TstMalformed stamp >>= states policy s)
    (λ s. or_as rule.TstMalformed stamp' >>= states policy s) (λ s k.
    by_stamp policy stamp stamp' s (h content (held_says v content is).1)))

same_fault : (f g : CmsFault) → reading_alone (Err f) ≡ reading_alone (Err g) → cms_alone f ≡ cms_alone g
same_fault f g e = cc

by_reading : (policy : Policy) (signed signed' : Result SignedDataValue CmsFault)
    (stamp stamp' : Result TstValue Fault)
    → reading_alone signed ≡ reading_alone signed'
    → ((v : SignedDataValue) (content : List ℕ) → signed ≡ Ok v → signed' ≡ Ok v → v.encapsulated.content ≡ Some content
    → tst_alone stamp ≡ tst_alone stamp')
    → SameStatement (token_statement policy signed stamp) (token_statement policy signed' stamp')
by_reading policy (Ok v) (Ok w) stamp stamp' e h =
    let is : v ≡ w = same_value v w e in
    subst (λ (x : SignedDataValue). SameStatement (by_value policy stamp v) (by_value policy stamp' x)) is
    (by_content policy stamp stamp' v (λ content k. h v content refl (ap okay (sym is)) k))
  where
    okay : SignedDataValue → Result SignedDataValue CmsFault
    okay x = Ok x

    same_value : (v w : SignedDataValue) → reading_alone (Ok v) ≡ reading_alone (Ok w) → v ≡ w
    same_value v w e = cc
by_reading policy (Ok v) (Err g) stamp stamp' e h = absurd cc
by_reading policy (Err f) (Ok w) stamp stamp' e h = absurd cc
by_reading policy (Err f) (Err g) stamp stamp' e h =
    ap (λ (x : CmsFault). failing (rule.Malformed x)) (same_fault f g e)
  where
    failing : TokenRule → Result Statement TokenRule
    failing x = Err x

-- of one statement there is one claim
by_statement : (due : Due) (a b : Result Statement TokenRule) → SameStatement a b
    → Alike (a >>= due_claim due) (b >>= due_claim due)
by_statement due (Ok s) (Ok z) e = ap (λ (x : Statement). claim_alone (due_claim due x)) (same s z e)
  where
    same : (s z : Statement) → statement_alone (Ok s) ≡ statement_alone (Ok z) → s ≡ z
    same s z e = cc
by_statement due (Ok s) (Err g) e = absurd cc
by_statement due (Err f) (Ok z) e = absurd cc
by_statement due (Err f) (Err g) e = ap failing (same f g e)
  where
    failing : TokenRule → Result TokenClaim TokenRule
    failing x = Err x

    same : (f g : TokenRule) → statement_alone (Err f) ≡ statement_alone (Err g) → token_alone f ≡ token_alone g
    same f g e = cc

same_failure : (a b : TokenRule) → Alike (Err a) (Err b) → token_alone a ≡ token_alone b
same_failure a b e = cc

one_out : (t : Terms) (c : TokenClaim) (a b : TokenRule) → RunsOut t c a → RunsOut t c b → a ≡ b
one_out t c a b h k = h.is
    ∙ ap token_filter (stops_once (LeftForToken t c) 5 t.trust h.filter k.filter (falls t c) h.stops k.stops) ∙ sym k.is

abbrev First : (t : Terms) (claim : Result TokenClaim TokenRule) (failed : TokenRule) → Type 0
First t claim failed = (claim ≡ Err failed) ⊎ ((c : TokenClaim) × (claim ≡ Ok c) × RunsOut t c failed)

firsts : (t : Terms) (x y : Result TokenClaim TokenRule) (a b : TokenRule) → Alike x y → First t x a → First t y b
    → token_alone a ≡ token_alone b
firsts t x y a b alike (inl e) (inl h) = same_failure a b (sym (ap claim_alone e) ∙ alike ∙ ap claim_alone h)
firsts t x y a b alike (inl e) (inr (d, h, out)) =
    let z = sym (ap claim_alone e) ∙ alike ∙ ap claim_alone h in absurd cc
firsts t x y a b alike (inr (c, e, out)) (inl h) =
    let z = sym (ap claim_alone e) ∙ alike ∙ ap claim_alone h in absurd cc
firsts t x y a b alike (inr (c, e, out)) (inr (d, h, out')) =
    let is : c ≡ d = same_claim c d (sym (ap claim_alone e) ∙ alike ∙ ap claim_alone h) in
    ap token_alone (one_out t d a b (subst (λ (z : TokenClaim). RunsOut t z a) is out) out')

pub one_rule : TokensFailOneRule
one_rule t token due a b f g =
    firsts t (token_claim t.policy due f.signed f.stamp) (token_claim t.policy due g.signed g.stamp) a b
    (by_statement due (token_statement t.policy f.signed f.stamp) (token_statement t.policy g.signed g.stamp)
    (by_reading t.policy f.signed g.signed f.stamp g.stamp
    (one_reading token f.signed g.signed f.reads.is_signed g.reads.is_signed)
    (λ v content is is' present. one_tst_reading content f.stamp g.stamp (f.reads.is_stamp v content is present)
    (g.reads.is_stamp v content is' present)))) f.first g.first
