-- What a token says where K1 to K9 hold, and what it states where K1 to K8 do.
use Rattle.std.proofs.Common.{◌≡◌, ◌≢◌, ℕ, Bool, true, false, ◌||◌, cond, List, [], ◌∷◌, Option, Some, None, Result, Ok}
use Rattle.std.proofs.Common.{Err, refl, sym, ap, subst, ◌∙◌}
use Rattle.std.specs.List.{AllByRecursion}
use Rattle.std.specs.Option.{ok_or}
use Rattle.std.specs.Prelude.{unwrap_or}
use Rattle.der_core.specs.declared.fault.Fault.{Fault}
use Rattle.der_core.specs.declared.flag.Flag.{Flag}
use Rattle.der_core.specs.declared.flag.Flag.TheVariants as flag
use Rattle.der_core.specs.Lists.{some, is_same, only}
use Rattle.der_core.specs.Results.{◌>>=◌, or_as}
use Rattle.der_core.proofs.Encoded.{same}
use Rattle.der_core.proofs.Results.{bind_ok}
use Rattle.digests.specs.declared.algorithm.Alg.{Alg}
use Rattle.cert_types.specs.ExtensionValue.{ExtensionValue}
use Rattle.cms_types.specs.AttributeValue.{AttributeValue}
use Rattle.cms_types.specs.SignerValue.{SignerValue}
use Rattle.cms_types.specs.SignedDataValue.{SignedDataValue}
use Rattle.cms_types.specs.declared.fault.CmsFault.{CmsFault}
use Rattle.check_fit.specs.declared.policy.Policy.{Policy}
use Rattle.check_fit.specs.declared.rules.TokenRule.{TokenRule}
use Rattle.check_fit.specs.declared.rules.TokenRule.TheVariants as rule
use Rattle.check_fit.specs.Fitting.{Fits, allowed, signer_answer}
use Rattle.der_time.specs.Moments.{generalized_moment}
use Rattle.tsp_types.specs.TstValue.{TstValue}
use Rattle.digests.specs.Named.{alg_named}
use Rattle.tsp_types.specs.TstValue.{id_tst_info}
use Rattle.check_verdict.specs.Passing.{IsCalm, Due, IsDue}
use Rattle.check_verdict.specs.TokenRules.{is_critical, TokenClaim, Statement, held, signed_by, imprint_alg, claimed}
use Rattle.check_verdict.specs.TokenRules.{stated, token_statement, due_claim, token_claim}
use Rattle.der_core.proofs.OnlyMember.{only_is}
use Rattle.der_core.proofs.SameOctets.{is_then_same}
use Rattle.check_fit.proofs.FitLaw.{fit_is, fit_from}

unchanged : {A D E : Type 0} (f : D → E) (r : Result A D) (x : A) → or_as f r ≡ Ok x → r ≡ Ok x
unchanged f (Ok y) x e = cc
unchanged f (Err d) x e = absurd cc

given : {A E : Type 0} (o : Option A) (d : E) (x : A) → ok_or o d ≡ Ok x → o ≡ Some x
given None d x e = absurd cc
given (Some y) d x e = cc

chose : {A E : Type 0} (b : Bool) (r : Result A E) (d : E) (y : A) → cond b r (Err d) ≡ Ok y → (b ≡ true) × (r ≡ Ok y)
chose true r d y e = (refl, e)
chose false r d y e = absurd cc

passed : {A E : Type 0} (b : Bool) (r : Result A E) (d : E) (y : A) → cond b (Err d) r ≡ Ok y → (b ≡ false) × (r ≡ Ok y)
passed true r d y e = absurd cc
passed false r d y e = (refl, e)

-- ---- critical extensions

is_critical_is : (e : ExtensionValue) → is_critical e ≡ false → e.critical ≢ flag.True
is_critical_is e h = go e.critical refl h
  where
    go : (f : Flag) → e.critical ≡ f → is_critical e ≡ false → e.critical ≢ flag.True
    go flag.Absent is k = λ z. let y = sym is ∙ z in cc
    go flag.False is k = λ z. let y = sym is ∙ z in cc
    go flag.True is k = absurd (let z = rw is at k in cc)

not_critical : (e : ExtensionValue) → e.critical ≢ flag.True → is_critical e ≡ false
not_critical e h = go e.critical refl
  where
    go : (f : Flag) → e.critical ≡ f → is_critical e ≡ false
    go flag.Absent is = rw is refl
    go flag.False is = rw is refl
    go flag.True is = absurd (h is)

or_false : (a b : Bool) → (a || b) ≡ false → (a ≡ false) × (b ≡ false)
or_false true b e = absurd cc
or_false false b e = (refl, e)

abbrev Calm : List ExtensionValue → Type 0
Calm es = AllByRecursion (λ (e : ExtensionValue). e.critical ≢ flag.True) es

pub calm_is : (es : List ExtensionValue) → some is_critical es ≡ false → Calm es
calm_is [] h = tt
calm_is (e ∷ es) h = let p = or_false (is_critical e) (some is_critical es) h in (is_critical_is e p.0, calm_is es p.1)

pub not_calm : (es : List ExtensionValue) → Calm es → some is_critical es ≡ false
not_calm [] h = refl
not_calm (e ∷ es) h = rw (not_critical e h.0) (not_calm es h.1)

-- ---- what K1 to K8 found, and what K1 to K9 did

pub record States (policy : Policy) (signed : Result SignedDataValue CmsFault) (stamp : Result TstValue Fault)
    (s : Statement) : Type 0 where
  pub value : SignedDataValue
  pub reads : signed ≡ Ok value
  pub econtent_type : value.encapsulated.content_type ≡ id_tst_info
  pub content : List ℕ
  pub present : value.encapsulated.content ≡ Some content
  pub one_signer : value.signers ≡ s.claim.signer ∷ []
  pub has : s.claim.signer.signed_attributes ≡ Some s.claim.attributes
  pub fits : Fits policy content id_tst_info s.claim.signer
  pub tst : TstValue
  pub reads_tst : stamp ≡ Ok tst
  pub calm : IsCalm tst
  pub allows : allowed policy (alg_named tst.imprint.algorithm) ≡ Some s.alg
  pub imprint : tst.imprint.digest ≡ s.imprint
  pub moment : generalized_moment tst.time ≡ s.claim.moment

pub record Says (policy : Policy) (due : Due) (signed : Result SignedDataValue CmsFault)
    (stamp : Result TstValue Fault) (c : TokenClaim) : Type 0 where
  pub statement : Statement
  pub states : States policy signed stamp statement
  pub claims : statement.claim ≡ c
  pub digest : due statement.alg ≡ Some statement.imprint

filled : (s : SignerValue) (attributes : List AttributeValue) → s.signed_attributes ≡ Some attributes
    → s.signed_attributes ≡ Some (unwrap_or s.signed_attributes [])
filled s attributes e = rw (e) refl

abbrev claim_ok : TokenClaim → Result TokenClaim TokenRule
claim_ok c = Ok c

same_claim : (a b : TokenClaim) → claim_ok a ≡ claim_ok b → a ≡ b
same_claim a b e = cc

abbrev statement_ok : Statement → Result Statement TokenRule
statement_ok s = Ok s

same_statement : (a b : Statement) → statement_ok a ≡ statement_ok b → a ≡ b
same_statement a b e = cc

-- K2 and K3
pub held_says : (v : SignedDataValue) (content : List ℕ) → held v ≡ Ok content
    → (v.encapsulated.content_type ≡ id_tst_info) × (v.encapsulated.content ≡ Some content)
held_says v content e =
    let b = chose (is_same v.encapsulated.content_type id_tst_info)
    (ok_or v.encapsulated.content rule.NoContent) rule.ContentType content e in
    (same v.encapsulated.content_type id_tst_info b.0, given v.encapsulated.content rule.NoContent content b.1)

-- K4 and K5
signed_says : (policy : Policy) (v : SignedDataValue) (content : List ℕ) (s : SignerValue)
    → signed_by policy v content ≡ Ok s
    → (v.signers ≡ s ∷ []) × Fits policy content id_tst_info s
signed_says policy v content s e =
    let f = bind_ok (ok_or (only v.signers) rule.OneSigner)
    (λ x. or_as rule.Attributes (signer_answer policy content id_tst_info x) >>= λ u. signer_ok x) s e in
    let g = bind_ok (or_as rule.Attributes (signer_answer policy content id_tst_info f.0)) (λ u. signer_ok f.0) s f.2 in
    let is : f.0 ≡ s = same_signer f.0 s g.2 in
    let fit = fit_is policy content id_tst_info f.0 g.0
    (unchanged rule.Attributes (signer_answer policy content id_tst_info f.0) g.0 g.1) in (
      only_is v.signers s (given (only v.signers) rule.OneSigner s (f.1 ∙ ap signer_ok is)),
      subst (λ (x : SignerValue). Fits policy content id_tst_info x) is fit,
    )
  where
    signer_ok : SignerValue → Result SignerValue TokenRule
    signer_ok x = Ok x

    same_signer : (a b : SignerValue) → signer_ok a ≡ Ok b → a ≡ b
    same_signer a b e = cc

-- K7 and K8
imprint_says : (policy : Policy) (x : TstValue) (alg : Alg) → imprint_alg policy x ≡ Ok alg
    → IsCalm x × (allowed policy (alg_named x.imprint.algorithm) ≡ Some alg)
imprint_says policy x alg e =
    let i = passed (some is_critical (unwrap_or x.extensions []))
    (ok_or (allowed policy (alg_named x.imprint.algorithm)) rule.ImprintAlgorithm) rule.CriticalExtension alg e in (
      calm_is (unwrap_or x.extensions []) i.0,
      given (allowed policy (alg_named x.imprint.algorithm)) rule.ImprintAlgorithm alg i.1,
    )

-- K1 to K8
pub statement_says : (policy : Policy) (signed : Result SignedDataValue CmsFault)
    (stamp : Result TstValue Fault) (s : Statement)
    → token_statement policy signed stamp ≡ Ok s → States policy signed stamp s
statement_says policy signed stamp s e =
    let at_stamp : SignerValue → TstValue
    → Result Statement TokenRule = λ y x. (imprint_alg policy x >>= λ alg. statement_ok (stated y x alg)) in
    let at_signer : SignerValue → Result Statement TokenRule = λ y. (or_as rule.TstMalformed stamp >>= at_stamp y) in
    let at_content : SignedDataValue → List ℕ
    → Result Statement TokenRule = λ v content. (signed_by policy v content >>= at_signer) in
    let a = bind_ok (or_as rule.Malformed signed) (λ v. held v >>= at_content v) s e in
    let b = bind_ok (held a.0) (at_content a.0) s a.2 in
    let d = bind_ok (signed_by policy a.0 b.0) at_signer s b.2 in
    let h = bind_ok (or_as rule.TstMalformed stamp) (at_stamp d.0) s d.2 in
    let k = bind_ok (imprint_alg policy h.0) (λ alg. statement_ok (stated d.0 h.0 alg)) s h.2 in
    let is : stated d.0 h.0 k.0 ≡ s = same_statement (stated d.0 h.0 k.0) s k.2 in
    let content = held_says a.0 b.0 b.1 in
    let signer = signed_says policy a.0 b.0 d.0 d.1 in
    let imprint = imprint_says policy h.0 k.0 k.1 in
    subst (States policy signed stamp) {x = stated d.0 h.0 k.0} is (record {
      value = a.0;
      reads = unchanged rule.Malformed signed a.0 a.1;
      econtent_type = content.0;
      content = b.0;
      present = content.1;
      one_signer = signer.0;
      has = filled d.0 signer.1.attributes signer.1.present;
      fits = signer.1;
      tst = h.0;
      reads_tst = unchanged rule.TstMalformed stamp h.0 h.1;
      calm = imprint.0;
      allows = imprint.1;
      imprint = refl {a = h.0.imprint.digest};
      moment = refl {a = generalized_moment h.0.time};
    })

-- K8 and K9
due_says : (due : Due) (s : Statement) (c : TokenClaim) → due_claim due s ≡ Ok c
    → (s.claim ≡ c) × (due s.alg ≡ Some s.imprint)
due_says due s c e =
    let compared : List ℕ → Result TokenClaim TokenRule =
    λ digest. cond (is_same s.imprint digest) (claim_ok s.claim) (Err rule.ImprintDiffers) in
    let a = bind_ok (ok_or (due s.alg) rule.ImprintAlgorithm) compared c e in
    let b = chose (is_same s.imprint a.0) (claim_ok s.claim) rule.ImprintDiffers c a.2 in (
      same_claim s.claim c b.1,
      given (due s.alg) rule.ImprintAlgorithm a.0 a.1 ∙ ap (λ (d : List ℕ). Some d) (sym (same s.imprint a.0 b.0)),
    )

pub claim_says : (policy : Policy) (due : Due) (signed : Result SignedDataValue CmsFault)
    (stamp : Result TstValue Fault) (c : TokenClaim)
    → token_claim policy due signed stamp ≡ Ok c → Says policy due signed stamp c
claim_says policy due signed stamp c e =
    let a = bind_ok (token_statement policy signed stamp) (due_claim due) c e in
    let d = due_says due a.0 c a.2 in record {
      statement = a.0;
      states = statement_says policy signed stamp a.0 a.1;
      claims = d.0;
      digest = d.1;
    }

-- its signer, who is the only one and has these signed attributes
pub signer_says : (policy : Policy) (due : Due) (signed : Result SignedDataValue CmsFault)
    (stamp : Result TstValue Fault) (c : TokenClaim) (says : Says policy due signed stamp c)
    → (says.states.value.signers ≡ c.signer ∷ []) × (c.signer.signed_attributes ≡ Some c.attributes)
signer_says policy due signed stamp c says = subst (λ (d : TokenClaim).
    (says.states.value.signers ≡ d.signer ∷ []) × (d.signer.signed_attributes ≡ Some d.attributes)) says.claims
    (says.states.one_signer, says.states.has)

-- a statement's imprint that is due makes it a claim
pub due_from : (due : Due) (s : Statement) → due s.alg ≡ Some s.imprint → due_claim due s ≡ Ok s.claim
due_from due s e = rw (e, is_then_same s.imprint s.imprint refl) refl

-- what is due, as a fact and as a value
pub due_is : (o : Option (List ℕ)) (octets : List ℕ) → IsDue o octets → o ≡ Some octets
due_is (Some digest) octets e = ap (λ (d : List ℕ). Some d) (sym e)
due_is None octets e = absurd e

pub is_due : (o : Option (List ℕ)) (octets : List ℕ) → o ≡ Some octets → IsDue o octets
is_due o octets e = subst (λ (d : Option (List ℕ)). IsDue d octets) (sym e) (refl {a = octets})

-- what all that holds of is what the token states, and says
module _ (policy : Policy) (signed : Result SignedDataValue CmsFault) (stamp : Result TstValue Fault)
    (v : SignedDataValue)
    (content : List ℕ) (s : SignerValue) (x : TstValue) (alg : Alg) where
  pub statement_from : signed ≡ Ok v → v.encapsulated.content_type ≡ id_tst_info
      → v.encapsulated.content ≡ Some content → v.signers ≡ s ∷ []
      → Fits policy content id_tst_info s → stamp ≡ Ok x → IsCalm x
      → allowed policy (alg_named x.imprint.algorithm) ≡ Some alg
      → token_statement policy signed stamp ≡ Ok (stated s x alg)
  statement_from is econtent_type present one fits is_stamp calm allows =
      rw (
        is,
        is_then_same v.encapsulated.content_type id_tst_info econtent_type,
        present,
        one,
        fit_from policy content id_tst_info s fits,
        is_stamp,
        not_calm (unwrap_or x.extensions []) calm,
        allows,
      ) refl

  pub claim_from : (due : Due) → signed ≡ Ok v → v.encapsulated.content_type ≡ id_tst_info
      → v.encapsulated.content ≡ Some content → v.signers ≡ s ∷ []
      → Fits policy content id_tst_info s → stamp ≡ Ok x → IsCalm x
      → allowed policy (alg_named x.imprint.algorithm) ≡ Some alg → due alg ≡ Some x.imprint.digest
      → token_claim policy due signed stamp ≡ Ok (claimed s x)
  claim_from due is econtent_type present one fits is_stamp calm allows digest =
      ap (λ (r : Result Statement TokenRule). r >>= due_claim due)
      (statement_from is econtent_type present one fits is_stamp calm allows)
      ∙ due_from due (stated s x alg) digest
