-- What is said of the result for a stream is its verdict, where the content is known too.
use Rattle.std.proofs.Common.{◌≡◌, ◌∙◌, ℕ, Bool, true, false, cond, List, length, Option, Some, None, Result, Ok, Err}
use Rattle.std.proofs.Common.{refl, sym, ap, subst, inl, inr, ◌⊎◌}
use Rattle.std.specs.Prelude.{IfSome, is_some, option_map, ◌==◌}
use Rattle.der_core.specs.declared.fault.Fault.{Fault}
use Rattle.der_core.specs.Element.{IsBytes}
use Rattle.der_core.specs.OpenFaults.{FaultsOpenly}
use Rattle.der_core.specs.Grammar.{file}
use Rattle.der_grammar.specs.Table.{content_info}
use Rattle.der_core.proofs.OpenlyRefuted.{openly_refuted}
use Rattle.der_grammar.proofs.Clearness.{content_info_clear}
use Rattle.cms_types.specs.SignedDataValue.{SignedDataValue, SignedContent, OtherContent, EncodesSignedData}
use Rattle.cms_types.specs.declared.fault.CmsFault.{CmsFault}
use Rattle.cms_types.specs.declared.fault.CmsFault.TheVariants as cms
use Rattle.cms_types.proofs.SignedDataReaders.{content_encodes}
use Rattle.check_fit.specs.declared.rules.FileRule.{FileRule}
use Rattle.check_fit.specs.declared.rules.FileRule.TheVariants as rule
use Rattle.check_fit.specs.declared.rules.DeviceFault.{DeviceFault}
use Rattle.check_fit.specs.declared.rules.Refused.{Refused}
use Rattle.check_fit.specs.declared.rules.Refused.TheVariants as refused
use Rattle.check_fit.specs.FileFitting.{SourceFacts, IsReading, IsReadingBy, placed, file_rules, OfSource, fails}
use Rattle.check_fit.specs.FileFitting.{too_long, read, OfContent, OfRules}
use Rattle.trust_lists.specs.Asking.{Asked}
use Rattle.check_verdict.specs.Passing.{Terms}
use Rattle.check_verdict.specs.Headline.{IsDevice}
use Rattle.check_verdict.specs.Verdicts.{IsContent, Yes, Judges, Refuses}
use Rattle.check_verdict.specs.Asks.{AsksOnly}
use Rattle.check_verdict.specs.Questions.{IsQuestion, Answers, with_answers}
use Rattle.check_verdict.specs.Checking.{JudgesAsking, ChecksStream, IsUnread}
use Rattle.check_verdict.proofs.Asks.{question_of_file}
use Rattle.check_verdict.proofs.Checked.{InPlace, in_place, by_rules, handed_by, of_along}
use Rattle.check_verdict.proofs.Sufficiency.{judges_by}
use Rattle.check_fit.proofs.Readings.{reading_of}
use Rattle.check_verdict.proofs.Verdicts.{never_both, one_moment}
use Rattle.check_stream.specs.StreamVerdicts.{OfStream, fails as source_fails, too_long as no_room, told}
use Rattle.check_stream.specs.StreamVerdicts.{ChecksStreamAsking, StreamSaysYes, IsStreamVerdict}
use Rattle.check_stream.specs.StreamVerdicts.{StreamVerdictOrDevice, IsUnjudged}

-- ---- one verdict and another

module _ {S : Type 0} (Says Tells : Result ℕ Refused → Type 0) (tells : Type 0) (octets : List ℕ)
    (room count count' : ℕ) (before after : Option S) where
  pub stream_along : (result : Result ℕ Refused) → ((r : Result ℕ Refused) → Says r → Tells r)
      → OfStream Says tells octets room count count' before after result
      → OfStream Tells tells octets room count count' before after result
  stream_along result f (source_fails counts same) = source_fails counts same
  stream_along result f (no_room counts same long) = no_room counts same long
  stream_along result f (told counts says) = told counts (λ t. f result (says t))

abbrev Reading : List ℕ → Result SignedDataValue CmsFault → Type 0
Reading octets reading = IsReadingBy (FaultsOpenly (file content_info)) octets reading

-- what was read is what the octets encode
encoded : (octets : List ℕ) (reading : Result SignedDataValue CmsFault) (handed : Bool) → Reading octets reading
    → (v : SignedDataValue)
    → file_rules reading handed ≡ Ok v → EncodesSignedData octets v × InPlace v handed
encoded octets reading handed reads v e = let p = in_place reading handed v e in (subst (Reading octets) p.0 reads, p.1)

module _ {S : Type 0} (facts : SourceFacts S) (t : Terms) (octets : List ℕ) (before after : Option S) where
  -- the verdict, of a verdict and the questions that were asked
  pub stream_checks : (OnlyAsked : (Asked → Bool) → Type 0) (result : Result ℕ Refused)
      → ChecksStreamAsking facts t OnlyAsked octets before after result
      → ChecksStream facts t octets before after result
  stream_checks OnlyAsked result (reading, reads, says) = (
    reading,
    reads,
    of_along facts (JudgesAsking t OnlyAsked) (Judges t) before after result (file_rules reading (is_some before))
        (λ v e content x j. j.0)
        says,
  )

  -- the verdict with a list of answers that agrees on the questions
  pub stream_suffices : (w : Asked → Bool) → Answers t octets w → (result : Result ℕ Refused)
      → ChecksStream facts t octets before after result
      → ChecksStream facts (with_answers t w) octets before after result
  stream_suffices w agree result (reading, reads, says) = (
    reading,
    reads,
    of_along facts (Judges t) (Judges (with_answers t w)) before after result (file_rules reading (is_some before))
        (λ v e content x j.
        judges_by t octets w agree v (encoded octets reading (is_some before) reads v e).0 content x j) says,
  )

-- ---- what was asked

unread_rule : (failed : FileRule) (e : Refused) → refused.File failed ≡ e → IsUnread (Err e)
unread_rule failed e is = subst (λ (x : Refused). IsUnread (Err x)) is tt

unread_place : (v : SignedDataValue) (own : Option (List ℕ)) (handed : Bool) (e : Refused) → placed v own handed ≡ Err e
    → IsUnread (Err e)
unread_place v None false e is = unread_rule rule.NoContent e cc
unread_place v None true e is = absurd cc
unread_place v (Some b) false e is = absurd cc
unread_place v (Some b) true e is = unread_rule rule.ContentTwice e cc

-- a file that is refused is one of which no signer is judged
unread_file : (octets : List ℕ) (reading : Result SignedDataValue CmsFault) (handed : Bool) (e : Refused)
    → Reading octets reading
    → file_rules reading handed ≡ Err e → IsUnread (Err e)
unread_file octets (Err (cms.Malformed f)) handed e reads is = unread_rule (rule.Malformed f) e cc
unread_file octets (Err cms.NotSignedData) handed e reads is = unread_rule rule.NotSignedData e cc
unread_file octets (Err cms.OutOfMemory) handed e reads is = absurd reads
unread_file octets (Ok v) handed e reads is = go (length v.signers == 0) is
  where
    go : (b : Bool) → cond b (Err (refused.File rule.NoSigner)) (placed v v.encapsulated.content handed) ≡ Err e
        → IsUnread (Err e)
    go true k = unread_rule rule.NoSigner e cc
    go false k = unread_place v v.encapsulated.content handed e k

module _ {S : Type 0} (facts : SourceFacts S) (J : List ℕ → SignedDataValue → Result ℕ Refused → Type 0)
    (C : Type 0) where
  -- what holds where a signer was judged, and where none was
  source_cases :
      (v : SignedDataValue) (telling : Type 0) (before after : List ℕ) (count count' : ℕ) (result : Result ℕ Refused)
      → ((content : List ℕ) → J content v result → C) → (IsUnread result → C)
      → OfSource (λ content. J content v) telling before after count count' result → C
  source_cases v telling before after count count' result f u (fails e) = u tt
  source_cases v telling before after count count' result f u (too_long e many) = u tt
  source_cases v telling before after count count' result f u (read content small e all done j) = f content j

  content_cases : (v : SignedDataValue) (before after : Option S) (result : Result ℕ Refused)
      → ((content : List ℕ) → J content v result → C)
      → (IsUnread result → C) → OfContent facts J v before after result → C
  content_cases v None after result f u (same, content, is, j) = f content j
  content_cases v (Some s) after result f u (s', is, source) =
      source_cases v (facts.tells s) (facts.rest s) (facts.rest s') (facts.failures s)
      (facts.failures s') result f u source

  rules_cases : (left : Result SignedDataValue Refused) (before after : Option S) (result : Result ℕ Refused)
      → ((v : SignedDataValue) → left ≡ Ok v → (content : List ℕ) → J content v result → C)
      → ((e : Refused) → left ≡ Err e → IsUnread (Err e))
      → (IsUnread result → C)
      → OfRules facts J left before after result → C
  rules_cases (Ok v) before after result f r u says = content_cases v before after result (f v refl) u says
  rules_cases (Err e) before after result f r u says =
      u (subst (λ (x : Result ℕ Refused). IsUnread x) (sym says.0) (r e refl))

-- the verifier was asked only questions of the file
module _ {S : Type 0} (facts : SourceFacts S) (t : Terms) (OnlyAsked : (Asked → Bool) → Type 0) (telling : Type 0)
    (octets : List ℕ) (room count count' : ℕ)
    (before after : Option S) where
  pub stream_asks : (result : Result ℕ Refused) → telling → (IsUnjudged result → (test : Asked → Bool) → OnlyAsked test)
      → OfStream (ChecksStreamAsking facts t OnlyAsked octets before after) telling octets room count count' before
      after result
      → AsksOnly OnlyAsked (IsQuestion t.trust octets)
  stream_asks result told_it none (source_fails counts same) = λ test asks. none (inr tt) test
  stream_asks result told_it none (no_room counts same long) = λ test asks. none (inl refl) test
  stream_asks result told_it none (told counts says) =
      let a = says told_it in
      rules_cases facts (JudgesAsking t OnlyAsked) (AsksOnly OnlyAsked (IsQuestion t.trust octets))
      (file_rules a.0 (is_some before)) before after result
      (λ v e content j. λ test asks. j.1 test
      (λ q i. asks q (question_of_file t octets content v.encapsulated.content_type v i.signer q
      (encoded octets a.0 (is_some before) a.1 v e).0 i.among
      i.about)))
      (λ e is. unread_file octets a.0 (is_some before) e a.1 is) (λ unread test asks. none (inr unread) test) a.2

-- ---- the verdict

abbrev StreamSaid : Terms → List ℕ → Option (List ℕ) → Result ℕ Refused → Type 0
StreamSaid t octets handed result = IsDevice result ⊎ IsStreamVerdict t octets handed result

device_said : (t : Terms) (octets : List ℕ) (handed : Option (List ℕ)) (result : Result ℕ Refused) → IsDevice result
    → StreamSaid t octets handed result
device_said t octets handed result d = inl d

judged_said : (t : Terms) (octets : List ℕ) (handed : Option (List ℕ)) (v : SignedDataValue) (content : List ℕ)
    (result : Result ℕ Refused)
    → EncodesSignedData octets v → IsContent v.encapsulated.content handed content → Judges t content v result
    → StreamSaid t octets handed result
judged_said t octets handed v content (Ok m) encodes is j =
    inr (record { signed = v; encodes = encodes; content = content; is_content = is; accepts = j })
judged_said t octets handed v content (Err (refused.File failed)) encodes is j = absurd j
judged_said t octets handed v content (Err (refused.Signer number failed)) encodes is j =
    inr (v, encodes, content, is, j)
judged_said t octets handed v content (Err (refused.Token number token failed)) encodes is j =
    inr (v, encodes, content, is, j)
judged_said t octets handed v content (Err (refused.Device fault)) encodes is j =
    subst (λ (f : DeviceFault). StreamSaid t octets handed (Err (refused.Device f))) (sym j) (inl tt)

-- octets that have a fault openly have a fault
malformed_too : (octets : List ℕ) (f : Fault) → IsBytes octets → FaultsOpenly (file content_info) octets f
    → (r : Result SignedDataValue CmsFault)
    → IsReading octets r → (g : Fault) × IsReading octets (Err (cms.Malformed g))
malformed_too octets f bytes holds (Ok v) reads =
    absurd (openly_refuted (file content_info) octets f content_info_clear
    (content_encodes octets (SignedContent v) reads) holds)
malformed_too octets f bytes holds (Err (cms.Malformed g)) reads = (g, reads)
malformed_too octets f bytes holds (Err cms.NotSignedData) reads =
    absurd (openly_refuted (file content_info) octets f content_info_clear
    (content_encodes octets (OtherContent reads.0 reads.1) reads.2) holds)
malformed_too octets f bytes holds (Err cms.OutOfMemory) reads = absurd reads

abbrev rules : Result SignedDataValue CmsFault → Bool → Result SignedDataValue Refused
rules reading handed = file_rules reading handed

module _ (t : Terms) (octets : List ℕ) (bytes : IsBytes octets) (handed : Option (List ℕ)) where
  by_rule : (v : SignedDataValue) (failed : FileRule) (e : Refused) → (refused.File failed ≡ e)
      → (Refuses t octets handed (refused.File failed) → IsStreamVerdict t octets handed (Err (refused.File failed)))
      → EncodesSignedData octets v
      → file_rules (Ok v) (is_some handed) ≡ Err e → StreamSaid t octets handed (Err e)
  by_rule v failed e is said encodes broken =
      let same : rules (Ok v) (is_some handed) ≡ Err (refused.File failed) =
      subst (λ (x : Refused). rules (Ok v) (is_some handed) ≡ Err x) (sym is) broken in
      subst (λ (x : Refused). StreamSaid t octets handed (Err x)) is (inr (said (Ok v, encodes, same)))

  by_place : (v : SignedDataValue) (own : Option (List ℕ)) (there : Bool) (e : Refused) → placed v own there ≡ Err e
      → EncodesSignedData octets v
      → file_rules (Ok v) (is_some handed) ≡ Err e → StreamSaid t octets handed (Err e)
  by_place v None false e is encodes broken = by_rule v rule.NoContent e (cc) (λ r. r) encodes broken
  by_place v None true e is encodes broken = absurd cc
  by_place v (Some b) false e is encodes broken = absurd cc
  by_place v (Some b) true e is encodes broken = by_rule v rule.ContentTwice e (cc) (λ r. r) encodes broken

  refused_said : (reading : Result SignedDataValue CmsFault) (e : Refused) → Reading octets reading
      → file_rules reading (is_some handed) ≡ Err e
      → StreamSaid t octets handed (Err e)
  refused_said (Err (cms.Malformed f)) e reads is =
      let z : refused.File (rule.Malformed f) ≡ e = cc in
      let read = reading_of octets bytes in
      let g = malformed_too octets f bytes reads read.0 read.1 in
      subst (λ (x : Refused). StreamSaid t octets handed (Err x)) z
      (inr (reads, g.0, (Err (cms.Malformed g.0), g.1, refl)))
  refused_said (Err cms.NotSignedData) e reads is =
      let z : refused.File rule.NotSignedData ≡ e = cc in
      subst (λ (x : Refused). StreamSaid t octets handed (Err x)) z (inr (Err cms.NotSignedData, reads, refl))
  refused_said (Err cms.OutOfMemory) e reads is = absurd reads
  refused_said (Ok v) e reads is = go (length v.signers == 0) is
    where
      go : (b : Bool)
          → cond b (Err (refused.File rule.NoSigner)) (placed v v.encapsulated.content (is_some handed)) ≡ Err e
          → StreamSaid t octets handed (Err e)
      go true k = by_rule v rule.NoSigner e (cc) (λ r. r) reads is
      go false k = by_place v v.encapsulated.content (is_some handed) e k reads is

  sound : (result : Result ℕ Refused) (m : ℕ) → StreamSaid t octets handed result → result ≡ Ok m
      → Yes t octets handed m
  sound (Ok n) m (inl device) e = absurd device
  sound (Ok n) m (inr said) e = let z : n ≡ m = cc in subst (λ (k : ℕ). Yes t octets handed k) z said
  sound (Err r) m said e = absurd cc

  refuted : (r : Refused) (m : ℕ) → Yes t octets handed m → IsStreamVerdict t octets handed (Err r) → ⊥
  refuted (refused.File (rule.Malformed f)) m accepted said =
      never_both t octets handed m (refused.File (rule.Malformed said.1)) accepted said.2
  refuted (refused.File rule.NotSignedData) m accepted said =
      never_both t octets handed m (refused.File rule.NotSignedData) accepted said
  refuted (refused.File rule.NoSigner) m accepted said =
      never_both t octets handed m (refused.File rule.NoSigner) accepted said
  refuted (refused.File rule.NoContent) m accepted said =
      never_both t octets handed m (refused.File rule.NoContent) accepted said
  refuted (refused.File rule.ContentTwice) m accepted said =
      never_both t octets handed m (refused.File rule.ContentTwice) accepted said
  refuted (refused.File rule.NoSuchSigner) m accepted said =
      never_both t octets handed m (refused.File rule.NoSuchSigner) accepted said
  refuted (refused.Signer number failed) m accepted said =
      never_both t octets handed m (refused.Signer number failed) accepted said
  refuted (refused.Token number token failed) m accepted said =
      never_both t octets handed m (refused.Token number token failed) accepted said
  refuted (refused.Device fault) m accepted said = never_both t octets handed m (refused.Device fault) accepted said

  complete : (result : Result ℕ Refused) (m : ℕ) → StreamSaid t octets handed result → Yes t octets handed m
      → (result ≡ Ok m) ⊎ IsDevice result
  complete result m (inl device) accepted = inr device
  complete (Ok n) m (inr other) accepted = inl (ap okay (one_moment t octets handed n m other accepted))
    where
      okay : ℕ → Result ℕ Refused
      okay k = Ok k
  complete (Err r) m (inr said) accepted = absurd (refuted r m accepted said)

  -- so it says yes with a moment exactly where the definition does, but for a device
  pub stream_yes : (result : Result ℕ Refused) → StreamVerdictOrDevice t octets handed result → (m : ℕ)
      → StreamSaysYes t octets handed result m
  stream_yes result (inl long) m = inl long
  stream_yes result (inr said) m = inr (record { sound = sound result m said; complete = complete result m said })

-- what is said of a stream is its verdict
module _ {S : Type 0} (facts : SourceFacts S) (t : Terms) (telling : Type 0) (octets : List ℕ) (room count count' : ℕ)
    (before after : Option S) where
  pub stream_verdict : (result : Result ℕ Refused) → telling → IsBytes octets → IfSome before facts.tells
      → OfStream (ChecksStream facts t octets before after) telling octets room count count' before after result
      → StreamVerdictOrDevice t octets (option_map facts.rest before) result
  stream_verdict result told_it bytes known (source_fails counts same) = inr (inl tt)
  stream_verdict result told_it bytes known (no_room counts same long) = inl refl
  stream_verdict result told_it bytes known (told counts says) =
      let a = says told_it in
      inr (by_rules facts (Judges t) octets (λ handed r. StreamSaid t octets handed r) (device_said t octets)
      (judged_said t octets)
      (file_rules a.0 (is_some before)) before after result known
      (encoded octets a.0 (is_some before) a.1)
      (λ e is. refused_said t octets bytes (option_map facts.rest before) a.0 e a.1
      (ap (λ (b : Bool). file_rules a.0 b) (handed_by facts.rest before) ∙ is)) a.2)
