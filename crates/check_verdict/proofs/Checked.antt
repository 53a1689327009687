-- What `check` gives is its verdict: yes with the moment, or the refusal, where no device failed and the content is
-- known.
use Rattle.std.proofs.Common.{◌≡◌, ℕ, Bool, true, false, cond, List, length, Option, Some, None, Result, Ok, Err, refl}
use Rattle.std.proofs.Common.{sym, ap, subst, ◌∙◌, inl, inr, ◌⊎◌}
use Rattle.std.specs.Prelude.{IfSome, MatchResult, is_some, option_map, ◌==◌}
use Rattle.cms_types.specs.SignedDataValue.{SignedDataValue, EncodesSignedData}
use Rattle.cms_types.specs.declared.fault.CmsFault.{CmsFault}
use Rattle.check_fit.specs.declared.rules.FileRule.TheVariants as rule
use Rattle.check_fit.specs.declared.rules.DeviceFault.{DeviceFault}
use Rattle.check_fit.specs.declared.rules.DeviceFault.TheVariants as device
use Rattle.check_fit.specs.declared.rules.Refused.{Refused}
use Rattle.check_fit.specs.declared.rules.Refused.TheVariants as refused
use Rattle.check_fit.specs.FileFitting.{SourceFacts, IsReading, placed, file_rules, OfSource, fails, too_long, read}
use Rattle.check_fit.specs.FileFitting.{OfContent, OfRules}
use Rattle.check_verdict.specs.Passing.{Terms}
use Rattle.check_verdict.specs.Headline.{IsDevice, GivesYes}
use Rattle.check_verdict.specs.Verdicts.{IsContent, Yes, Judges, Refuses}
use Rattle.check_verdict.specs.Checking.{Checks, JudgesAsking, ChecksAsking, VerdictOrDevice}
use Rattle.trust_lists.specs.Asking.{Asked}
use Rattle.check_verdict.specs.Questions.{Answers, with_answers}
use Rattle.check_verdict.proofs.Sufficiency.{judges_by}
use Rattle.check_verdict.proofs.Verdicts.{file_refusal, never_both, one_moment}

abbrev refusal : Refused → Result SignedDataValue Refused
refusal r = Err r

pub by_judge : (t : Terms) (file : List ℕ) (handed : Option (List ℕ)) (v : SignedDataValue) (content : List ℕ)
    (result : Result ℕ Refused)
    → EncodesSignedData file v → IsContent v.encapsulated.content handed content → Judges t content v result
    → VerdictOrDevice t file handed result
by_judge t file handed v content (Ok m) encodes is j =
    inr (record { signed = v; encodes = encodes; content = content; is_content = is; accepts = j })
by_judge t file handed v content (Err (refused.File failed)) encodes is j = absurd j
by_judge t file handed v content (Err (refused.Signer number failed)) encodes is j = inr (v, encodes, content, is, j)
by_judge t file handed v content (Err (refused.Token number token failed)) encodes is j =
    inr (v, encodes, content, is, j)
by_judge t file handed v content (Err (refused.Device fault)) encodes is j =
    subst (λ (f : DeviceFault). VerdictOrDevice t file handed (Err (refused.Device f))) (sym j) (inl tt)

placed_is : (w v : SignedDataValue) (own : Option (List ℕ)) (handed : Bool) → placed w own handed ≡ Ok v → w ≡ v
placed_is w v None false e = absurd cc
placed_is w v None true e = cc
placed_is w v (Some b) false e = cc
placed_is w v (Some b) true e = absurd cc

-- what no rule C1 to C5 refuses was read, and has its content in one place
abbrev pub InPlace : SignedDataValue → Bool → Type 0
InPlace v handed = placed v v.encapsulated.content handed ≡ Ok v

pub in_place : (reading : Result SignedDataValue CmsFault) (handed : Bool) (v : SignedDataValue)
    → file_rules reading handed ≡ Ok v
    → (reading ≡ Ok v) × InPlace v handed
in_place (Err f) handed v e = absurd cc
in_place (Ok w) handed v e = go (length w.signers == 0) e
  where
    okay : SignedDataValue → Result SignedDataValue CmsFault
    okay x = Ok x

    go : (b : Bool) → cond b (Err (refused.File rule.NoSigner)) (placed w w.encapsulated.content handed) ≡ Ok v
        → (okay w ≡ Ok v) × InPlace v handed
    go true k = absurd cc
    go false k = let is = placed_is w v w.encapsulated.content handed k in (
      ap okay is,
      subst (λ (x : SignedDataValue). InPlace x handed) is (k ∙ sym (ap (λ (x : SignedDataValue). placing x) is)),
    )
      where
        placing : SignedDataValue → Result SignedDataValue Refused
        placing x = Ok x

own_content : (v : SignedDataValue) (own : Option (List ℕ)) (content : List ℕ) → own ≡ Some content
    → IsContent own None content
own_content v None content e = absurd cc
own_content v (Some b) content e = cc

handed_content : (v w : SignedDataValue) (own : Option (List ℕ)) (content : List ℕ) → placed v own true ≡ Ok w
    → IsContent own (Some content) content
handed_content v w None content e = refl
handed_content v w (Some b) content e = absurd cc

-- What is said of a verdict that is right for what was read, where the content is known: from what is said where a
-- device failed, and where signers were judged.
module _ {S : Type 0} (facts : SourceFacts S) (J : List ℕ → SignedDataValue → Result ℕ Refused → Type 0) (file : List ℕ)
    (Said : Option (List ℕ) → Result ℕ Refused → Type 0)
    (failed : (handed : Option (List ℕ)) (result : Result ℕ Refused) → IsDevice result → Said handed result)
    (judged : (handed : Option (List ℕ)) (v : SignedDataValue) (content : List ℕ) (result : Result ℕ Refused)
    → EncodesSignedData file v
    → IsContent v.encapsulated.content handed content → J content v result → Said handed result) where
  by_source : (v : SignedDataValue) (s s' : S) (result : Result ℕ Refused) → EncodesSignedData file v → InPlace v true
      → facts.tells s
      → OfSource (λ content. J content v) (facts.tells s) (facts.rest s) (facts.rest s') (facts.failures s)
      (facts.failures s') result
      → Said (Some (facts.rest s)) result
  by_source v s s' result encodes place told (fails e) =
      failed (Some (facts.rest s)) (Err (refused.Device device.ReadFailed)) tt
  by_source v s s' result encodes place told (too_long e many) =
      failed (Some (facts.rest s)) (Err (refused.Device device.ContentTooLong)) tt
  by_source v s s' result encodes place told (read content small count all done j) =
      let whole : J (facts.rest s) v result = subst (λ (b : List ℕ). J b v result) (sym (all told)) j in
      judged (Some (facts.rest s)) v (facts.rest s) result encodes
      (handed_content v v v.encapsulated.content (facts.rest s) place) whole

  by_content : (v : SignedDataValue) (before after : Option S) (result : Result ℕ Refused) → EncodesSignedData file v
      → InPlace v (is_some before)
      → IfSome before facts.tells → OfContent facts J v before after result
      → Said (option_map facts.rest before) result
  by_content v None after result encodes place told (same, content, is, j) =
      judged None v content result encodes (own_content v v.encapsulated.content content is) j
  by_content v (Some s) after result encodes place told (s', same, of_source) =
      by_source v s s' result encodes place told of_source

  pub by_rules : (left : Result SignedDataValue Refused) (before after : Option S) (result : Result ℕ Refused)
      → IfSome before facts.tells
      → ((v : SignedDataValue) → left ≡ Ok v → EncodesSignedData file v × InPlace v (is_some before))
      → ((e : Refused) → left ≡ Err e → Said (option_map facts.rest before) (Err e))
      → OfRules facts J left before after result
      → Said (option_map facts.rest before) result
  by_rules (Ok v) before after result told opened refuses says =
      by_content v before after result (opened v refl).0 (opened v refl).1 told says
  by_rules (Err e) before after result told opened refuses says =
      subst (λ (x : Result ℕ Refused). Said (option_map facts.rest before) x)
      (sym says.0) (refuses e refl)

pub handed_by : {S : Type 0} (rest : S → List ℕ) (before : Option S) → is_some (option_map rest before) ≡ is_some before
handed_by rest None = refl
handed_by rest (Some s) = refl

-- what was read is what the octets encode
pub opened_by : (file : List ℕ) (reading : Result SignedDataValue CmsFault) (handed : Bool) → IsReading file reading
    → (v : SignedDataValue)
    → file_rules reading handed ≡ Ok v → EncodesSignedData file v × InPlace v handed
opened_by file reading handed reads v e = let p = in_place reading handed v e in (subst (IsReading file) p.0 reads, p.1)

pub device_fails : (t : Terms) (file : List ℕ) (handed : Option (List ℕ)) (result : Result ℕ Refused) → IsDevice result
    → VerdictOrDevice t file handed result
device_fails t file handed result d = inl d

refused_by : {S : Type 0} (rest : S → List ℕ) (t : Terms) (file : List ℕ) (before : Option S)
    (reading : Result SignedDataValue CmsFault)
    (e : Refused) → IsReading file reading → file_rules reading (is_some before) ≡ Err e
    → VerdictOrDevice t file (option_map rest before) (Err e)
refused_by rest t file before reading e reads is =
    let f = file_refusal file reading (is_some before) e reads is in
    let refuses : Refuses t file (option_map rest before) (refused.File f.0) =
    (reading, reads, ap (λ (b : Bool). file_rules reading b) (handed_by rest before) ∙ is ∙ ap refusal f.1) in
    subst (λ (x : Refused). VerdictOrDevice t file (option_map rest before) (Err x)) (sym f.1) (inr refuses)

pub is_verdict : {S : Type 0} (facts : SourceFacts S) (t : Terms) (file : List ℕ) (before after : Option S)
    (result : Result ℕ Refused)
    → IfSome before facts.tells → Checks facts t file before after result
    → VerdictOrDevice t file (option_map facts.rest before) result
is_verdict facts t file before after result told (reading, reads, says) =
    by_rules facts (Judges t) file (λ handed r. VerdictOrDevice t file handed r) (device_fails t file) (by_judge t file)
    (file_rules reading (is_some before)) before after result told
    (opened_by file reading (is_some before) reads)
    (λ e is. refused_by facts.rest t file before reading e reads is) says

abbrev moments : ℕ → Result ℕ Refused
moments m = Ok m

pub sound : (t : Terms) (file : List ℕ) (handed : Option (List ℕ)) (result : Result ℕ Refused) (m : ℕ)
    → VerdictOrDevice t file handed result
    → result ≡ Ok m → Yes t file handed m
sound t file handed (Ok n) m (inl device) e = absurd device
sound t file handed (Ok n) m (inr said) e = subst (λ (k : ℕ). Yes t file handed k) (same n m e) said
  where
    same : (a b : ℕ) → moments a ≡ moments b → a ≡ b
    same a b e = cc
sound t file handed (Err r) m v e = absurd (let z : Err r ≡ moments m = e in cc)

pub complete : (t : Terms) (file : List ℕ) (handed : Option (List ℕ)) (result : Result ℕ Refused) (m : ℕ)
    → VerdictOrDevice t file handed result
    → Yes t file handed m → (result ≡ Ok m) ⊎ IsDevice result
complete t file handed result m (inl device) said = inr device
complete t file handed (Ok n) m (inr other) said = inl (ap moments (one_moment t file handed n m other said))
complete t file handed (Err r) m (inr refuses) said = absurd (never_both t file handed m r said refuses)

-- so it says yes with a moment exactly where the definition does, but for a device
pub gives_yes : {S : Type 0} (facts : SourceFacts S) (t : Terms) (file : List ℕ) (before after : Option S)
    (result : Result ℕ Refused)
    → IfSome before facts.tells → Checks facts t file before after result
    → (m : ℕ) → GivesYes t file (option_map facts.rest before) result m
gives_yes facts t file before after result told checks m =
    let v = is_verdict facts t file before after result told checks in
    record {
      sound = sound t file (option_map facts.rest before) result m v;
      complete = complete t file (option_map facts.rest before) result m v;
    }

-- ---- the verdict with a list of answers that agrees on the questions

module _ {S : Type 0} (facts : SourceFacts S) (J K : List ℕ → SignedDataValue → Result ℕ Refused → Type 0) where
  source_along :
      (v : SignedDataValue) (telling : Type 0) (before after : List ℕ) (count count' : ℕ) (result : Result ℕ Refused)
      → ((content : List ℕ) (r : Result ℕ Refused) → J content v r → K content v r)
      → OfSource (λ content. J content v) telling before after count count' result
      → OfSource (λ content. K content v) telling before after count count' result
  source_along v telling before after count count' result f (fails e) = fails e
  source_along v telling before after count count' result f (too_long e many) = too_long e many
  source_along v telling before after count count' result f (read content small e all done j) =
      read content small e all done (f content result j)

  content_along : (v : SignedDataValue) (before after : Option S) (result : Result ℕ Refused)
      → ((content : List ℕ) (r : Result ℕ Refused) → J content v r → K content v r)
      → OfContent facts J v before after result → OfContent facts K v before after result
  content_along v None after result f (same, content, is, j) = (same, content, is, f content result j)
  content_along v (Some s) after result f (s', same, source) = (
    s',
    same,
    source_along v (facts.tells s) (facts.rest s) (facts.rest s') (facts.failures s)
        (facts.failures s') result f source,
  )

  abbrev Of : (List ℕ → SignedDataValue → Result ℕ Refused → Type 0) → (before after : Option S) → Result ℕ Refused
      → Result SignedDataValue Refused → Type 0
  Of L before after result r =
      MatchResult r (λ v. OfContent facts L v before after result) (λ e. (result ≡ Err e) × (after ≡ before))

  pub of_along : (before after : Option S) (result : Result ℕ Refused) (r : Result SignedDataValue Refused)
      → ((v : SignedDataValue) → r ≡ Ok v
      → (content : List ℕ) (x : Result ℕ Refused) → J content v x → K content v x) → Of J before after result r
      → Of K before after result r
  of_along before after result (Ok v) f h = content_along v before after result (f v refl) h
  of_along before after result (Err e) f h = h

pub checks_suffice : {S : Type 0} (facts : SourceFacts S) (t : Terms) (file : List ℕ) (before after : Option S)
    (result : Result ℕ Refused)
    (w : Asked → Bool) → Answers t file w
    → Checks facts t file before after result → Checks facts (with_answers t w) file before after result
checks_suffice facts t file before after result w agree (reading, reads, says) = (
  reading,
  reads,
  of_along facts (Judges t) (Judges (with_answers t w)) before after result (file_rules reading (is_some before))
      (λ v e content x j.
      judges_by t file w agree v (subst (IsReading file) (in_place reading (is_some before) v e).0 reads) content x j)
      says,
)

-- ---- the verdict, of a verdict and the questions that were asked

pub checks_from : {S : Type 0} (facts : SourceFacts S) (t : Terms) (OnlyAsked : (Asked → Bool) → Type 0) (file : List ℕ)
    (before after : Option S)
    (result : Result ℕ Refused)
    → ChecksAsking facts t OnlyAsked file before after result → Checks facts t file before after result
checks_from facts t OnlyAsked file before after result (reading, reads, says) = (
  reading,
  reads,
  of_along facts (JudgesAsking t OnlyAsked) (Judges t) before after result (file_rules reading (is_some before))
      (λ v e content x j. j.0) says,
)
