-- One signer of a file: its rules, from its judgement to its verdict, and that its verdict is one and rests on the
-- questions.
use Rattle.std.proofs.Common.{◌≡◌, ℕ, zero, suc, Bool, true, false, cond, List, length, Option, Some, None, Result, Ok}
use Rattle.std.proofs.Common.{Err, refl, sym, ap, subst, ◌∙◌, arith}
use Rattle.std.proofs.Common.{inl, inr, ◌⊎◌}
use Rattle.std.specs.Prelude.{IfSome, IsTrue, ◌↔◌, Contains, is_some, option_map, ◌==◌}
use Rattle.std.proofs.lemmas.Bool.{ne_eqb}
use Rattle.der_core.specs.Results.{◌>>=◌}
use Rattle.der_lists.specs.Numbers.{of_number}
use Rattle.digests.specs.declared.algorithm.Alg.{Alg}
use Rattle.digests.specs.declared.set.Algs.{Algs}
use Rattle.digests.specs.declared.selection.WantedDigests.{WantedDigests}
use Rattle.digests.specs.Sets.{is_in}
use Rattle.digests.specs.Selection.{AreOfWanted, set_given}
use Rattle.cms_types.specs.SignerValue.{SignerValue}
use Rattle.cms_types.specs.SignedDataValue.{SignedDataValue, EncodesSignedData}
use Rattle.cms_types.specs.declared.fault.CmsFault.{CmsFault}
use Rattle.check_fit.specs.declared.rules.FileRule.{FileRule}
use Rattle.check_fit.specs.declared.rules.FileRule.TheVariants as rule
use Rattle.check_fit.specs.declared.rules.SignerRule.{SignerRule}
use Rattle.check_fit.specs.declared.rules.TokenRule.{TokenRule}
use Rattle.check_fit.specs.declared.rules.DeviceFault.{DeviceFault}
use Rattle.check_fit.specs.declared.rules.DeviceFault.TheVariants as device
use Rattle.check_fit.specs.declared.rules.Refused.{Refused}
use Rattle.check_fit.specs.declared.rules.Refused.TheVariants as refused
use Rattle.check_fit.specs.declared.policy.Policy.{Policy}
use Rattle.check_fit.specs.Fitting.{Wants}
use Rattle.check_fit.specs.FileFitting.{SourceFacts, IsReading, file_rules, signer_rules, OfSource, fails, too_long}
use Rattle.check_fit.specs.FileFitting.{read, OfContent, OfRules, Hashes}
use Rattle.trust_lists.specs.Asking.{Asked}
use Rattle.check_verdict.specs.Passing.{Terms}
use Rattle.check_verdict.specs.Verdicts.{IsContent, SignerPasses}
use Rattle.check_verdict.specs.Questions.{Answers, with_answers}
use Rattle.check_verdict.specs.Headline.{IsDevice, GivesExactly}
use Rattle.check_verdict.specs.Asks.{IsAskedOf, AsksOnly}
use Rattle.check_verdict.specs.Alone.{file_alone, token_alone, alone}
use Rattle.check_verdict.specs.Checking.{IsUnread}
use Rattle.check_verdict.specs.OneSigner.{JudgesAlone, OfSigner, JudgesSignerOf, SignerYes, SignerRefuses}
use Rattle.check_verdict.specs.OneSigner.{SignerVerdictOrDevice, ChecksSigner}
use Rattle.check_verdict.specs.OneSigner.{JudgesSignerAsking, ChecksSignerAsking, SignersNeverBoth}
use Rattle.check_verdict.specs.OneSigner.{SignersHaveOneMoment, SignersHaveOneRefusal, SignersOfAFile}
use Rattle.check_verdict.specs.declared.signer.SignerRefused.{SignerRefused}
use Rattle.check_verdict.specs.declared.signer.SignerRefused.TheVariants as signer_refused
use Rattle.check_verdict.specs.SignerVerdicts.{JudgesSigner, numbered}
use Rattle.check_verdict.proofs.Lists.{from_get, at}
use Rattle.check_fit.proofs.Readings.{one_value, reads_it}
use Rattle.check_verdict.proofs.Readings.{one_reading}
use Rattle.check_verdict.proofs.Verdicts.{OfRule, file_refusal, good_not_failing, good_tokens, one_signer_rule}
use Rattle.check_verdict.proofs.Verdicts.{rule_not_tokens, one_token_rule, one_content}
use Rattle.check_verdict.proofs.Verdicts.{is_placed, same_signer, rules_alone, rules_alike, same_file_rule}
use Rattle.check_verdict.proofs.Answered.{signer_passes, signer_fails, tokens_fail}
use Rattle.check_verdict.proofs.Sufficiency.{ready}
use Rattle.check_verdict.proofs.Checked.{by_rules, handed_by, opened_by, of_along}

-- a signer that has a number is among them
pub among : (signers : List SignerValue) (number : ℕ) (s : SignerValue) → of_number signers number ≡ Some s
    → Contains signers s
among signers zero s e = absurd cc
among signers (suc n) s e = from_get signers n s e

-- ---- C1 to C6

abbrev okay : SignedDataValue → Result SignedDataValue Refused
okay v = Ok v

abbrev refusal : Refused → Result SignedDataValue Refused
refusal r = Err r

pub rules_good :
    (number : ℕ) (reading : Result SignedDataValue CmsFault) (handed : Bool) (v : SignedDataValue) (s : SignerValue)
    → file_rules reading handed ≡ Ok v → of_number v.signers number ≡ Some s → signer_rules number reading handed ≡ Ok v
rules_good number reading handed v s e is = rw (e) (rw (is) refl)

pub rules_missing : (number : ℕ) (reading : Result SignedDataValue CmsFault) (handed : Bool) (v : SignedDataValue)
    → file_rules reading handed ≡ Ok v
    → of_number v.signers number ≡ None → signer_rules number reading handed ≡ Err (refused.File rule.NoSuchSigner)
rules_missing number reading handed v e is = rw (e) (rw (is) refl)

pub rules_refused : (number : ℕ) (reading : Result SignedDataValue CmsFault) (handed : Bool) (r : Refused)
    → file_rules reading handed ≡ Err r
    → signer_rules number reading handed ≡ Err r
rules_refused number reading handed r e = rw (e) refl

abbrev pub has_number : (number : ℕ) → SignedDataValue → Result SignedDataValue Refused
has_number number v = cond (is_some (of_number v.signers number)) (Ok v) (Err (refused.File rule.NoSuchSigner))

numbered_is : (w v : SignedDataValue) (b : Bool) → cond b (okay w) (refusal (refused.File rule.NoSuchSigner)) ≡ Ok v
    → okay w ≡ okay v
numbered_is w v true k = k
numbered_is w v false k = absurd cc

-- what none of C1 to C6 refuses none of C1 to C5 refuses
pub rules_from : (number : ℕ) (reading : Result SignedDataValue CmsFault) (handed : Bool) (v : SignedDataValue)
    → signer_rules number reading handed ≡ Ok v → file_rules reading handed ≡ Ok v
rules_from number reading handed v e = go (file_rules reading handed) e
  where
    go : (r : Result SignedDataValue Refused) → (r >>= has_number number) ≡ Ok v → r ≡ Ok v
    go (Ok w) k = numbered_is w v (is_some (of_number w.signers number)) k
    go (Err f) k = absurd cc

missing_rule : (w : SignedDataValue) (b : Bool) (r : Refused)
    → cond b (okay w) (refusal (refused.File rule.NoSuchSigner)) ≡ Err r → OfRule r
missing_rule w true r k = absurd cc
missing_rule w false r k = (rule.NoSuchSigner, cc)

pub signer_refusal : (file : List ℕ) (number : ℕ) (reading : Result SignedDataValue CmsFault) (handed : Bool)
    (r : Refused) → IsReading file reading
    → signer_rules number reading handed ≡ Err r → OfRule r
signer_refusal file number reading handed r reads e = go (file_rules reading handed) refl e
  where
    go : (x : Result SignedDataValue Refused) → file_rules reading handed ≡ x → (x >>= has_number number) ≡ Err r
        → OfRule r
    go (Ok w) is k = missing_rule w (is_some (of_number w.signers number)) r k
    go (Err f) is k = file_refusal file reading handed r reads (is ∙ k)

-- what the rules refuse the verdict refuses
pub refused_first :
    {A S : Type 0} (facts : SourceFacts S) (Judges : List ℕ → SignedDataValue → Result A Refused → Type 0)
    (left : Result SignedDataValue Refused) (before : Option S) (e : Refused) → left ≡ Err e
    → OfRules facts Judges left before before (Err e)
refused_first facts Judges left before e is = rw (is) (refl, refl)

-- the digests are those of some content
module _ (wanted : Algs) (digests : WantedDigests) where
  abbrev pub IsHashed : Type 0
  IsHashed = (content : List ℕ) × (set_given digests ≡ wanted) × AreOfWanted digests content

  hashed_by : (v : SignedDataValue) (content : List ℕ) (r : Result WantedDigests Refused) → r ≡ Ok digests
      → Hashes wanted content v r → IsHashed
  hashed_by v content r is h = let k : Hashes wanted content v (Ok digests) =
      subst (λ (x : Result WantedDigests Refused). Hashes wanted content v x) is h in (content, k.0, k.1)

  hashed_source : (v : SignedDataValue) (telling : Type 0) (before after : List ℕ) (count count' : ℕ)
      (r : Result WantedDigests Refused)
      → r ≡ Ok digests → OfSource (λ content. Hashes wanted content v) telling before after count count' r → IsHashed
  hashed_source v telling before after count count' (Err (refused.Device device.ReadFailed)) is (fails e) =
      absurd (let z = is in cc)
  hashed_source v telling before after count count' (Err (refused.Device device.ContentTooLong)) is (too_long e many) =
      absurd (let z = is in cc)
  hashed_source v telling before after count count' r is (read content small e all done h) = hashed_by v content r is h

  hashed_content : {S : Type 0} (facts : SourceFacts S) (v : SignedDataValue) (before after : Option S)
      → OfContent facts (Hashes wanted) v before after (Ok digests) → IsHashed
  hashed_content facts v None after (same, content, is, h) = hashed_by v content (Ok digests) refl h
  hashed_content facts v (Some s) after (s', same, source) =
      hashed_source v (facts.tells s) (facts.rest s) (facts.rest s') (facts.failures s)
      (facts.failures s') (Ok digests) refl source

  pub hashed : {S : Type 0} (facts : SourceFacts S) (v : SignedDataValue) (left : Result SignedDataValue Refused)
      (before after : Option S)
      → left ≡ Ok v → OfRules facts (Hashes wanted) left before after (Ok digests) → IsHashed
  hashed facts v left before after is h =
      hashed_content facts v before after (subst
      (λ (x : Result SignedDataValue Refused). OfRules facts (Hashes wanted) x before after (Ok digests)) is h)

-- the one that the signer wants is among them
pub wants_given : (policy : Policy) (s : SignerValue) (wanted given : Algs) → given ≡ wanted
    → ((alg : Alg) → IsTrue (is_in alg wanted) ↔ Wants policy s alg) → (alg : Alg) → Wants policy s alg
    → is_in alg given ≡ true
wants_given policy s wanted given e iff alg w = rw (e) ((iff alg).1 w)

-- ---- from the verdict about a signer to that about the signer of this number

pub alone_bad : (t : Terms) (content econtent_type : List ℕ) (number : ℕ) (s : SignerValue) (refusal : SignerRefused)
    → JudgesSigner t content econtent_type s (Err refusal)
    → JudgesAlone t content econtent_type number s (Err (numbered number refusal))
alone_bad t content econtent_type number s (signer_refused.Rule failed) j = (refl, j)
alone_bad t content econtent_type number s (signer_refused.Token failed) j = (refl, j)
alone_bad t content econtent_type number s signer_refused.Ask j = refl

pub numbered_read : (number : ℕ) (refusal : SignerRefused) → IsUnread (Err (numbered number refusal)) → ⊥
numbered_read number (signer_refused.Rule failed) unread = unread
numbered_read number (signer_refused.Token failed) unread = unread
numbered_read number signer_refused.Ask unread = unread

-- and of the questions that were asked
module _ (t : Terms) (OnlyAsked : (Asked → Bool) → Type 0) (number : ℕ) (content econtent_type : List ℕ)
    (v : SignedDataValue) (s : SignerValue)
    (result : Result ℕ Refused) where
  pub asking_of : econtent_type ≡ v.encapsulated.content_type → of_number v.signers number ≡ Some s
      → JudgesAlone t content econtent_type number s result
      → AsksOnly OnlyAsked (IsAskedOf t content econtent_type s)
      → JudgesSignerAsking t OnlyAsked number content v result
  asking_of kind is judged asked = (
    record { signer = s; is = is; has = subst (λ (k : List ℕ). JudgesAlone t content k number s result) kind judged },
    λ test asks. asked test (λ q a.
        asks q (record { signer = s; is = is; has = subst (λ (k : List ℕ). IsAskedOf t content k s q) kind a })),
  )

-- ---- the verdict

by_alone : (t : Terms) (file : List ℕ) (number : ℕ) (handed : Option (List ℕ)) (v : SignedDataValue) (content : List ℕ)
    (result : Result ℕ Refused)
    → EncodesSignedData file v → IsContent v.encapsulated.content handed content
    → JudgesSignerOf t number content v result
    → SignerVerdictOrDevice t file handed number result
by_alone t file number handed v content (Ok m) encodes is j =
    inr (record { signed = v; encodes = encodes; content = content; is_content = is; accepts = j })
by_alone t file number handed v content (Err (refused.File failed)) encodes is j = absurd j.has
by_alone t file number handed v content (Err (refused.Signer told failed)) encodes is j =
    inr (v, encodes, content, is, j)
by_alone t file number handed v content (Err (refused.Token told token failed)) encodes is j =
    inr (v, encodes, content, is, j)
by_alone t file number handed v content (Err (refused.Device fault)) encodes is j =
    subst (λ (f : DeviceFault). SignerVerdictOrDevice t file handed number (Err (refused.Device f))) (sym j.has)
    (inl tt)

device_fails : (t : Terms) (file : List ℕ) (number : ℕ) (handed : Option (List ℕ)) (result : Result ℕ Refused)
    → IsDevice result
    → SignerVerdictOrDevice t file handed number result
device_fails t file number handed result d = inl d

refused_by : {S : Type 0} (rest : S → List ℕ) (t : Terms) (file : List ℕ) (number : ℕ) (before : Option S)
    (reading : Result SignedDataValue CmsFault)
    (e : Refused) → IsReading file reading → signer_rules number reading (is_some before) ≡ Err e
    → SignerVerdictOrDevice t file (option_map rest before) number (Err e)
refused_by rest t file number before reading e reads is =
    let f = signer_refusal file number reading (is_some before) e reads is in
    let refuses : SignerRefuses t file (option_map rest before) number (refused.File f.0) =
    (reading, reads, ap (λ (b : Bool). signer_rules number reading b) (handed_by rest before) ∙ is ∙ ap refusal f.1) in
    subst (λ (x : Refused). SignerVerdictOrDevice t file (option_map rest before) number (Err x)) (sym f.1)
    (inr refuses)

module _ {S : Type 0} (facts : SourceFacts S) (t : Terms) (number : ℕ) (file : List ℕ) (before after : Option S)
    (result : Result ℕ Refused) where
  pub signer_verdict : IfSome before facts.tells → ChecksSigner facts t number file before after result
      → SignerVerdictOrDevice t file (option_map facts.rest before) number result
  signer_verdict told (reading, reads, says) =
      by_rules facts (JudgesSignerOf t number) file (λ handed r. SignerVerdictOrDevice t file handed number r)
      (device_fails t file number)
      (by_alone t file number) (signer_rules number reading (is_some before)) before after result told
      (λ v e. opened_by file reading (is_some before) reads v (rules_from number reading (is_some before) v e))
      (λ e is. refused_by facts.rest t file number before reading e reads is) says

  -- the verdict, of a verdict and the questions that were asked
  pub signer_checks_from : (OnlyAsked : (Asked → Bool) → Type 0)
      → ChecksSignerAsking facts t OnlyAsked number file before after result
      → ChecksSigner facts t number file before after result
  signer_checks_from OnlyAsked (reading, reads, says) = (
    reading,
    reads,
    of_along facts (JudgesSignerAsking t OnlyAsked number) (JudgesSignerOf t number) before after result
        (signer_rules number reading (is_some before)) (λ v e content x j. j.0) says,
  )

-- ---- one verdict

both : (v : SignedDataValue) (number : ℕ) (P Q : SignerValue → Type 0) → OfSigner v number P → OfSigner v number Q
    → (s : SignerValue) × P s × Q s
both v number P Q h k =
    (k.signer, subst P (same_signer h.signer k.signer (of_number v.signers number) h.is k.is) h.has, k.has)

abbrev Said : Terms → (file : List ℕ) → (handed : Option (List ℕ)) → (number : ℕ) → Refused → Type 0
Said t file handed number r = (v : SignedDataValue) × EncodesSignedData file v × (content : List ℕ)
    × IsContent v.encapsulated.content handed content
    × JudgesSignerOf t number content v (Err r)

-- what is said of one value and one content is said of each
module _ (t : Terms) (file : List ℕ) (handed : Option (List ℕ)) (number : ℕ) (result : Result ℕ Refused)
    (w v : SignedDataValue) (other content : List ℕ)
  where
    said_of : EncodesSignedData file w → EncodesSignedData file v → IsContent w.encapsulated.content handed other
        → IsContent v.encapsulated.content handed content → JudgesSignerOf t number other w result
        → JudgesSignerOf t number content v result
    said_of e encodes k is judged =
        let same = one_value file w v e encodes in
        let k' : IsContent v.encapsulated.content handed other =
        subst (λ (x : SignedDataValue). IsContent x.encapsulated.content handed other) same k in
        let j : JudgesSignerOf t number other v result =
        subst (λ (x : SignedDataValue). JudgesSignerOf t number other x result) same judged in
        subst (λ (c : List ℕ). JudgesSignerOf t number c v result)
        (one_content v.encapsulated.content handed other content k' is) j

-- where there is a signer of this number and one content, none of C1 to C6 refuses
module _ (file : List ℕ) (handed : Option (List ℕ)) (number : ℕ) (failed : FileRule) (v : SignedDataValue)
    (content : List ℕ) (s : SignerValue) where
  no_rule : EncodesSignedData file v → IsContent v.encapsulated.content handed content
      → of_number v.signers number ≡ Some s
      → (reading : Result SignedDataValue CmsFault) → IsReading file reading
      → signer_rules number reading (is_some handed) ≡ Err (refused.File failed) → ⊥
  no_rule encodes is_content there reading reads e =
      let is_v : reading ≡ Ok v = reads_it file reading v reads encodes in
      let within = (among v.signers number s there).1 in
      let some : (length v.signers == 0) ≡ false =
      ne_eqb (length v.signers) 0 (λ z. absurd (omega (arith, within, z))) in
      let good : file_rules (Ok v) (is_some handed) ≡ Ok v =
      rw (some) (is_placed v v.encapsulated.content handed content is_content) in
      let z : Ok v ≡ refusal (refused.File failed) = sym (rules_good number (Ok v) (is_some handed) v s good there)
      ∙ ap (λ (r : Result SignedDataValue CmsFault). signer_rules number r (is_some handed)) (sym is_v) ∙ e in
      absurd cc

-- a signer is never both accepted and refused
pub signer_never_both : SignersNeverBoth
signer_never_both t file handed number m (refused.Device fault) y r = r
signer_never_both t file handed number m (refused.File failed) y (reading, reads, e) =
    no_rule file handed number failed y.signed y.content y.accepts.signer y.encodes y.is_content y.accepts.is reading
    reads e
signer_never_both t file handed number m (refused.Signer told failed) y (v, e, content, is, j) =
    let kind : List ℕ = y.signed.encapsulated.content_type in
    let (s, (_, refuses), passes) =
    both y.signed number (λ s. JudgesAlone t y.content kind number s (Err (refused.Signer told failed)))
    (λ s. SignerPasses t y.content kind s m)
    (said_of t file handed number
    (Err (refused.Signer told failed)) v y.signed content y.content e y.encodes is y.is_content j) y.accepts in
    good_not_failing t y.content kind s m failed passes refuses
signer_never_both t file handed number m (refused.Token told token failed) y (v, e, content, is, j) =
    let kind : List ℕ = y.signed.encapsulated.content_type in
    let (s, (_, refuses), passes) =
    both y.signed number (λ s. JudgesAlone t y.content kind number s (Err (refused.Token told token failed)))
    (λ s. SignerPasses t y.content kind s m)
    (said_of t file handed number
    (Err (refused.Token told token failed)) v y.signed content y.content e y.encodes is y.is_content j) y.accepts in
    good_tokens t y.content kind s m token failed passes refuses

-- and is accepted with one moment
pub signer_one_moment : SignersHaveOneMoment
signer_one_moment t file handed number m n y z =
    let kind : List ℕ = z.signed.encapsulated.content_type in
    let b = both z.signed number (λ s. SignerPasses t z.content kind s m) (λ s. SignerPasses t z.content kind s n)
    (said_of t file handed number (Ok m) y.signed z.signed y.content z.content y.encodes z.encodes y.is_content
    z.is_content y.accepts) z.accepts in
    omega (arith, b.1.earliest.least n b.2.earliest.has, b.2.earliest.least m b.1.earliest.has)

-- ---- one refusal

bound_alike : (next : SignedDataValue → Result SignedDataValue Refused) (x y : Result SignedDataValue Refused)
    → rules_alone x ≡ rules_alone y
    → rules_alone (x >>= next) ≡ rules_alone (y >>= next)
bound_alike next (Ok v) (Ok w) e = ap (λ (u : SignedDataValue). rules_alone (next u)) (same v w e)
  where
    same : (v w : SignedDataValue) → rules_alone (Ok v) ≡ rules_alone (Ok w) → v ≡ w
    same v w e = cc
bound_alike next (Ok v) (Err b) e = absurd cc
bound_alike next (Err a) (Ok w) e = absurd cc
bound_alike next (Err a) (Err b) e = e

module _ (file : List ℕ) (number : ℕ) (handed : Bool) (r r' : Result SignedDataValue CmsFault) (a b : FileRule) where
  one_file_rule : IsReading file r → IsReading file r' → signer_rules number r handed ≡ Err (refused.File a)
      → signer_rules number r' handed ≡ Err (refused.File b) → file_alone a ≡ file_alone b
  one_file_rule is is' e h =
      let alike : rules_alone (signer_rules number r handed) ≡ rules_alone (signer_rules number r' handed) =
      bound_alike (has_number number) (file_rules r handed) (file_rules r' handed)
      (rules_alike handed r r' (one_reading file r r' is is')) in
      same_file_rule a b (sym (ap rules_alone e) ∙ alike ∙ ap rules_alone h)

file_not_said : (t : Terms) (file : List ℕ) (handed : Option (List ℕ)) (number : ℕ) (failed : FileRule) (r : Refused)
    → SignerRefuses t file handed number (refused.File failed) → Said t file handed number r → ⊥
file_not_said t file handed number failed r (reading, reads, e) (v, encodes, content, is, j) =
    no_rule file handed number failed v content j.signer encodes is j.is reading reads e

-- two that are said are said of one signer and one content
record BothSaid (t : Terms) (number : ℕ) (a b : Refused) : Type 0 where
  pub content : List ℕ
  pub kind : List ℕ
  pub signer : SignerValue
  pub one : JudgesAlone t content kind number signer (Err a)
  pub other : JudgesAlone t content kind number signer (Err b)

both_said : (t : Terms) (file : List ℕ) (handed : Option (List ℕ)) (number : ℕ) (a b : Refused)
    → Said t file handed number a
    → Said t file handed number b → BothSaid t number a b
both_said t file handed number a b (w, e, before, k, j) (v, encodes, content, is, h) =
    let kind : List ℕ = v.encapsulated.content_type in
    let p = both v number (λ s. JudgesAlone t content kind number s (Err a))
    (λ s. JudgesAlone t content kind number s (Err b))
    (said_of t file handed number (Err a) w v before content e encodes k is j) h in
    record { content = content; kind = kind; signer = p.0; one = p.1; other = p.2 }

one_rule_said : (t : Terms) (number n k : ℕ) (a b : SignerRule)
    → BothSaid t number (refused.Signer n a) (refused.Signer k b)
    → refused.Signer n a ≡ refused.Signer k b
one_rule_said t number n k a b p =
    ap (λ (i : ℕ). refused.Signer i a) (p.one.0 ∙ sym p.other.0) ∙ ap (λ (q : SignerRule). refused.Signer k q)
    (one_signer_rule t p.content p.kind p.signer a b p.one.1 p.other.1)

rule_and_tokens : (t : Terms) (number n k i : ℕ) (a : SignerRule) (b : TokenRule)
    → BothSaid t number (refused.Signer n a) (refused.Token k i b) → ⊥
rule_and_tokens t number n k i a b p = rule_not_tokens t p.content p.kind p.signer a i b p.one.1 p.other.1

one_token_said : (t : Terms) (number n k i j : ℕ) (a b : TokenRule)
    → BothSaid t number (refused.Token n i a) (refused.Token k j b)
    → alone (refused.Token n i a) ≡ alone (refused.Token k j b)
one_token_said t number n k i j a b p =
    let r = one_token_rule t p.content p.kind p.signer i j a b p.one.1 p.other.1 in
    ap (λ (l : ℕ). refused.Token l i (token_alone a)) (p.one.0 ∙ sym p.other.0)
    ∙ ap (λ (l : ℕ). refused.Token k l (token_alone a)) r.0
    ∙ ap (λ (q : TokenRule). refused.Token k j q) r.1

-- a signer is refused by one rule
pub signer_one_refusal : SignersHaveOneRefusal
signer_one_refusal t file handed number (refused.Device f) b x y = absurd x
signer_one_refusal t file handed number (refused.File a) (refused.Device f) x y = absurd y
signer_one_refusal t file handed number (refused.File a) (refused.File b) x y = ap (λ (q : FileRule). refused.File q)
    (one_file_rule file number (is_some handed) x.0 y.0 a b x.1 y.1 x.2 y.2)
signer_one_refusal t file handed number (refused.File a) (refused.Signer k b) x y =
    absurd (file_not_said t file handed number a (refused.Signer k b) x y)
signer_one_refusal t file handed number (refused.File a) (refused.Token k j b) x y =
    absurd (file_not_said t file handed number a (refused.Token k j b) x y)
signer_one_refusal t file handed number (refused.Signer n a) (refused.Device f) x y = absurd y
signer_one_refusal t file handed number (refused.Signer n a) (refused.File b) x y =
    absurd (file_not_said t file handed number b (refused.Signer n a) y x)
signer_one_refusal t file handed number (refused.Signer n a) (refused.Signer k b) x y =
    one_rule_said t number n k a b (both_said t file handed number (refused.Signer n a) (refused.Signer k b) x y)
signer_one_refusal t file handed number (refused.Signer n a) (refused.Token k j b) x y =
    absurd (rule_and_tokens t number n k j a b
    (both_said t file handed number (refused.Signer n a) (refused.Token k j b) x y))
signer_one_refusal t file handed number (refused.Token n i a) (refused.Device f) x y = absurd y
signer_one_refusal t file handed number (refused.Token n i a) (refused.File b) x y =
    absurd (file_not_said t file handed number b (refused.Token n i a) y x)
signer_one_refusal t file handed number (refused.Token n i a) (refused.Signer k b) x y =
    absurd (rule_and_tokens t number k n i b a
    (both_said t file handed number (refused.Signer k b) (refused.Token n i a) y x))
signer_one_refusal t file handed number (refused.Token n i a) (refused.Token k j b) x y =
    one_token_said t number n k i j a b (both_said t file handed number (refused.Token n i a) (refused.Token k j b) x y)

-- where the file is accepted
pub signers_of_file : SignersOfAFile
signers_of_file t file handed m y v e number s is =
    let w = y.signed in
    let there : of_number w.signers number ≡ Some s =
    subst (λ (x : SignedDataValue). of_number x.signers number ≡ Some s)
    (one_value file v w e y.encodes) is in
    let c = among w.signers number s there in
    let p =
    at (λ x. (n : ℕ) × SignerPasses t y.content w.encapsulated.content_type x n) w.signers s y.accepts.each c in (
      p.0,
      record {
        signed = w;
        encodes = y.encodes;
        content = y.content;
        is_content = y.is_content;
        accepts = record { signer = s; is = there; has = p.1 };
      },
      y.accepts.latest.greatest p.0 (c.0, s, c.1, c.2, p.1),
    )

abbrev moments : ℕ → Result ℕ Refused
moments m = Ok m

sound : (t : Terms) (file : List ℕ) (handed : Option (List ℕ)) (number : ℕ) (result : Result ℕ Refused) (m : ℕ)
    → SignerVerdictOrDevice t file handed number result → result ≡ Ok m → SignerYes t file handed number m
sound t file handed number (Ok n) m (inl device) e = absurd device
sound t file handed number (Ok n) m (inr said) e = subst (λ (k : ℕ). SignerYes t file handed number k) (same n m e) said
  where
    same : (a b : ℕ) → moments a ≡ moments b → a ≡ b
    same a b e = cc
sound t file handed number (Err r) m v e = absurd (let z : Err r ≡ moments m = e in cc)

complete : (t : Terms) (file : List ℕ) (handed : Option (List ℕ)) (number : ℕ) (result : Result ℕ Refused) (m : ℕ)
    → SignerVerdictOrDevice t file handed number result → SignerYes t file handed number m
    → (result ≡ Ok m) ⊎ IsDevice result
complete t file handed number result m (inl device) said = inr device
complete t file handed number (Ok n) m (inr other) said =
    inl (ap moments (signer_one_moment t file handed number n m other said))
complete t file handed number (Err r) m (inr refuses) said =
    absurd (signer_never_both t file handed number m r said refuses)

-- so it says yes with a moment exactly where the definition does, but for a device
pub signer_gives_yes :
    (t : Terms) (file : List ℕ) (handed : Option (List ℕ)) (number : ℕ) (result : Result ℕ Refused) (m : ℕ)
    → SignerVerdictOrDevice t file handed number result → GivesExactly (SignerYes t file handed number) result m
signer_gives_yes t file handed number result m v =
    record { sound = sound t file handed number result m v; complete = complete t file handed number result m v }

-- ---- the verdict with a list of answers that agrees on the questions

module _ (t : Terms) (file : List ℕ) (w : Asked → Bool) where
  alone_along : Answers t file w → (v : SignedDataValue) → EncodesSignedData file v
      → (content : List ℕ) (number : ℕ) (s : SignerValue) → Contains v.signers s
      → (result : Result ℕ Refused) → JudgesAlone t content v.encapsulated.content_type number s result
      → JudgesAlone (with_answers t w) content v.encapsulated.content_type number s result
  alone_along agree v e content number s c (Ok m) p = signer_passes content v.encapsulated.content_type t w s m
      (ready t file w agree v e content s c) p
  alone_along agree v e content number s c (Err (refused.File failed)) j = j
  alone_along agree v e content number s c (Err (refused.Signer told failed)) (is, j) =
      (is, signer_fails content v.encapsulated.content_type t w s failed (ready t file w agree v e content s c) j)
  alone_along agree v e content number s c (Err (refused.Token told token failed)) (is, j) = (
    is,
    tokens_fail content v.encapsulated.content_type t w s token failed (ready t file w agree v e content s c) j,
  )
  alone_along agree v e content number s c (Err (refused.Device fault)) j = j

signer_along : (t : Terms) (file : List ℕ) (w : Asked → Bool) → Answers t file w → (v : SignedDataValue)
    → EncodesSignedData file v
    → (content : List ℕ) (number : ℕ) (result : Result ℕ Refused) → JudgesSignerOf t number content v result
    → JudgesSignerOf (with_answers t w) number content v result
signer_along t file w agree v e content number result j = record {
  signer = j.signer;
  is = j.is;
  has = alone_along t file w agree v e content number j.signer (among v.signers number j.signer j.is) result j.has;
}

pub signer_checks_suffice :
    {S : Type 0} (facts : SourceFacts S) (t : Terms) (number : ℕ) (file : List ℕ) (before after : Option S)
    (result : Result ℕ Refused) (w : Asked → Bool) → Answers t file w
    → ChecksSigner facts t number file before after result
    → ChecksSigner facts (with_answers t w) number file before after result
signer_checks_suffice facts t number file before after result w agree (reading, reads, says) = (
  reading,
  reads,
  of_along facts (JudgesSignerOf t number) (JudgesSignerOf (with_answers t w) number) before after result
      (signer_rules number reading (is_some before)) (λ v e content x j.
      signer_along t file w agree v
      (opened_by file reading (is_some before) reads v (rules_from number reading (is_some before) v e)).0
      content number x j) says,
)
