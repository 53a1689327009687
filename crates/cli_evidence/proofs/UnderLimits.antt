-- What can fail while a signed file is judged of which all octets are at hand: there may be too little room for it, X3,
-- or for a list of the record, X4. But for X3 the room that there is decides nothing.
use Rattle.std.proofs.Common.{◌≡◌, ◌≤◌, ◌==◌, ◌⊎◌, ◌^◌, ◌∙◌, ℕ, Bool, true, false, List, length, Option, None, Some}
use Rattle.std.proofs.Common.{Result, Ok, Err, refl, sym, ap, subst, inl, inr, arith}
use Rattle.std.specs.Prelude.{IfErr, IfSome, MatchResult, is_some, option_map, if◌then◌else◌}
use Rattle.devices.specs.Device.{raised}
use Rattle.devices.specs.declared.source.Source.{Ghosts}
use Rattle.digests.specs.declared.selection.WantedDigests.{WantedDigests}
use Rattle.cms_types.specs.SignedDataValue.{SignedDataValue}
use Rattle.cms_types.specs.declared.fault.CmsFault.TheVariants as cms
use Rattle.check_fit.specs.declared.rules.DeviceFault.{DeviceFault}
use Rattle.check_fit.specs.declared.rules.DeviceFault.TheVariants as device
use Rattle.check_fit.specs.declared.rules.FileRule.TheVariants as rule
use Rattle.check_fit.specs.declared.rules.Refused.{Refused}
use Rattle.check_fit.specs.declared.rules.Refused.TheVariants as signed
use Rattle.check_fit.specs.FileFitting.{SourceFacts, OfContent, OfSource, fails, placed, read, too_long}
use Rattle.check_verdict.specs.Checking.{ChecksStream, CountsAsks}
use Rattle.check_verdict.specs.Passing.{Terms}
use Rattle.check_verdict.specs.Verdicts.{Judges}
use Rattle.check_stream.specs.StreamVerdicts as stream
use Rattle.check_stream.specs.StreamVerdicts.{Given, OfStream, StreamChecks, facts}
use Rattle.check_evidence.specs.Grounds.{Grounds}
use Rattle.check_evidence.specs.declared.rules.EvidenceRefused.{EvidenceRefused}
use Rattle.check_evidence.specs.declared.rules.EvidenceRefused.TheVariants as evidence
use Rattle.judge_evidence.specs.Data.{AreOfData}
use Rattle.judge_evidence.specs.Ordering.{IsRecordOutOfOrder}
use Rattle.judge_evidence.specs.RecordVerdicts.{IsVerdict}
use Rattle.judge_evidence.specs.Walking.{CountsRefused}
use Rattle.check_under.specs.Under.{data_of}
use Rattle.check_under.specs.UnderVerdicts.{CountsUnder, IsVerdictUnder, JudgesUnder}
use Rattle.check_under.specs.declared.refused.UnderRefused.{UnderRefused}
use Rattle.check_under.specs.declared.refused.UnderRefused.TheVariants as refused
use Rattle.der_grammar.specs.TooLarge.{IsTooLarge}
use Rattle.cli_evidence.specs.Under.{IsFaultWithin}
use Rattle.cli_evidence.specs.UnderVerdicts.{IsShort, IsTooLong, IsVerdictWithin}
use Rattle.cli_evidence.proofs.Checked.{never_raised}

-- ---- a verdict that isn't X3 is one within any limit

any_limit : (octets file : List ℕ) (room limit : ℕ) (why : UnderRefused)
    → (IsTooLong (Err why) → ⊥) → IsFaultWithin octets file room why
    → IsFaultWithin octets file limit why
any_limit octets file room limit (refused.Signed (signed.File failed)) fits fault = tt
any_limit octets file room limit (refused.Signed (signed.Signer number failed)) fits fault = tt
any_limit octets file room limit (refused.Signed (signed.Token number token failed)) fits fault = tt
any_limit octets file room limit (refused.Signed (signed.Device device.TooLong)) fits fault = absurd (fits refl)
any_limit octets file room limit (refused.Signed (signed.Device device.ReadFailed)) fits fault = fault
any_limit octets file room limit (refused.Signed (signed.Device device.AskFailed)) fits fault = fault
any_limit octets file room limit (refused.Signed (signed.Device device.OutOfMemory)) fits fault = fault
any_limit octets file room limit (refused.Signed (signed.Device device.ContentTooLong)) fits fault = fault
any_limit octets file room limit (refused.Evidence (evidence.Record failed)) fits fault = tt
any_limit octets file room limit (refused.Evidence (evidence.Stamp chain stamp failed)) fits fault = tt
any_limit octets file room limit (refused.Evidence (evidence.Device device.TooLong)) fits fault = fault
any_limit octets file room limit (refused.Evidence (evidence.Device device.ReadFailed)) fits fault = fault
any_limit octets file room limit (refused.Evidence (evidence.Device device.AskFailed)) fits fault = fault
any_limit octets file room limit (refused.Evidence (evidence.Device device.OutOfMemory)) fits fault = fault
any_limit octets file room limit (refused.Evidence (evidence.Device device.ContentTooLong)) fits fault = fault

pub within_any : (g : Grounds) (octets file : List ℕ) (handed : Option (List ℕ)) (room limit : ℕ)
    (verdict : Result ℕ UnderRefused) → (IsTooLong verdict → ⊥) → IsVerdictWithin g octets file handed room verdict
    → IsVerdictWithin g octets file handed limit verdict
within_any g octets file handed room limit (Ok m) fits within = record { is = within.is; fault = tt }
within_any g octets file handed room limit (Err why) fits within = record {
  is = within.is;
  fault = any_limit octets file room limit why fits within.fault;
}

-- ---- the file

-- if the verdict is that a device failed, that is the verifier
abbrev AsksAlone : Result ℕ Refused → Type 0
AsksAlone result = (fault : DeviceFault) → result ≡ Err (signed.Device fault) → fault ≡ device.AskFailed

judged_asks : (t : Terms) (content : List ℕ) (v : SignedDataValue) (result : Result ℕ Refused)
    → Judges t content v result → AsksAlone result
judged_asks t content v result judged fault is = subst (λ (r : Result ℕ Refused). Judges t content v r) is judged

source_asks : (t : Terms) (v : SignedDataValue) (tells : Type 0) (rest rest' : List ℕ) (count count' : ℕ)
    (result : Result ℕ Refused) → count ≡ 0 → count' ≡ 0 → tells → length rest ≤ 2 ^ 40
    → OfSource (λ content. Judges t content v) tells rest rest' count count' result → AsksAlone result
source_asks t v tells rest rest' count count' result none none' known short (fails rose) fault is =
    absurd (never_raised (sym none' ∙ (rose ∙ ap raised none)))
source_asks t v tells rest rest' count count' result none none' known short (too_long same more) fault is =
    absurd (omega (arith, more known, short))
source_asks t v tells rest rest' count count' result none none' known short
    (read content most same all end judged) fault is = judged_asks t content v result judged fault is

module _ {S : Type 0} (facts : SourceFacts S) (never : (s : S) → facts.failures s ≡ 0) (t : Terms) where
  -- what is handed in is known, and not too long
  abbrev IsAtHand : Option S → Type 0
  IsAtHand before = IfSome before (λ s. facts.tells s × (length (facts.rest s) ≤ 2 ^ 40))

  content_asks : (v : SignedDataValue) (before after : Option S) (result : Result ℕ Refused) → IsAtHand before
      → OfContent facts (Judges t) v before after result → AsksAlone result
  content_asks v None after result short (same, content, own, judged) = judged_asks t content v result judged
  content_asks v (Some s) after result short (s', same, of) =
      source_asks t v (facts.tells s) (facts.rest s) (facts.rest s') (facts.failures s) (facts.failures s') result
      (never s) (never s') short.0 short.1 of

  -- what C3 to C5 leave
  rules_ask : (v : SignedDataValue) (unsigned : Bool) (own : Option (List ℕ)) (handed : Bool) (before after : Option S)
      (result : Result ℕ Refused) → IsAtHand before
      → MatchResult (if unsigned then Err (signed.File rule.NoSigner) else placed v own handed)
      (λ w. OfContent facts (Judges t) w before after result) (λ e. (result ≡ Err e) × (after ≡ before))
      → AsksAlone result
  rules_ask v true own handed before after result short (failed, same) fault is =
      absurd (let no : ⊥ = cc in no)
  rules_ask v false None false before after result short (failed, same) fault is =
      absurd (let no : ⊥ = cc in no)
  rules_ask v false None true before after result short of fault is =
      content_asks v before after result short of fault is
  rules_ask v false (Some content) false before after result short of fault is =
      content_asks v before after result short of fault is
  rules_ask v false (Some content) true before after result short (failed, same) fault is =
      absurd (let no : ⊥ = cc in no)

  checks_ask : (file : List ℕ) (before after : Option S) (result : Result ℕ Refused) → IsAtHand before
      → ChecksStream facts t file before after result → AsksAlone result
  checks_ask file before after result short (Err (cms.Malformed fault'), reads, (failed, same)) fault is =
      absurd (let no : ⊥ = cc in no)
  checks_ask file before after result short (Err cms.NotSignedData, reads, (failed, same)) fault is =
      absurd (let no : ⊥ = cc in no)
  checks_ask file before after result short (Err cms.OutOfMemory, reads, of) fault is = absurd reads
  checks_ask file before after result short (Ok v, reads, of) fault is =
      rules_ask v (length v.signers == 0) v.encapsulated.content (is_some before) before after result short of fault is

  -- more must be kept of the file than there is room for, or the verifier failed
  abbrev IsOfRoom : (file : List ℕ) → (room : ℕ) → DeviceFault → Type 0
  IsOfRoom file room fault = ((fault ≡ device.TooLong) × IsTooLarge file room) ⊎ (fault ≡ device.AskFailed)

  of_room : (tells : Type 0) (file : List ℕ) (room count count' : ℕ) (before after : Option S)
      (result : Result ℕ Refused) (fault : DeviceFault) → tells → count ≡ 0 → count' ≡ 0 → IsAtHand before
      → OfStream (ChecksStream facts t file before after) tells file room count count' before after result
      → result ≡ Err (signed.Device fault) → IsOfRoom file room fault
  of_room tells file room count count' before after result fault known none none' short (stream.fails rose same) is =
      absurd (never_raised (sym none' ∙ (rose ∙ ap raised none)))
  of_room tells file room count count' before after result fault known none none' short
      (stream.too_long unraised same large) is = inl (let e : fault ≡ device.TooLong = cc in e, large known)
  of_room tells file room count count' before after result fault known none none' short
      (stream.told unraised says) is = inr (checks_ask file before after result short (says known) fault is)

  signed_fault : (octets file : List ℕ) (room : ℕ) (fault : DeviceFault) → IsOfRoom file room fault
      → CountsAsks (Err (signed.Device fault)) 0 0
      → IsFaultWithin octets file room (refused.Signed (signed.Device fault))
  signed_fault octets file room device.TooLong (inl (is, large)) counts = large
  signed_fault octets file room device.TooLong (inr is) counts = absurd (let no : ⊥ = cc in no)
  signed_fault octets file room device.AskFailed of counts = absurd (never_raised counts)
  signed_fault octets file room device.ReadFailed (inl (is, large)) counts = absurd (let no : ⊥ = cc in no)
  signed_fault octets file room device.ReadFailed (inr is) counts = absurd (let no : ⊥ = cc in no)
  signed_fault octets file room device.OutOfMemory (inl (is, large)) counts = absurd (let no : ⊥ = cc in no)
  signed_fault octets file room device.OutOfMemory (inr is) counts = absurd (let no : ⊥ = cc in no)
  signed_fault octets file room device.ContentTooLong (inl (is, large)) counts = absurd (let no : ⊥ = cc in no)
  signed_fault octets file room device.ContentTooLong (inr is) counts = absurd (let no : ⊥ = cc in no)

-- ---- the record

-- X4 is said of a record with a list out of order
abbrev Sorts : (octets : List ℕ) → Result ℕ UnderRefused → Type 0
Sorts octets verdict =
    verdict ≡ Err (refused.Evidence (evidence.Device device.OutOfMemory)) → IsRecordOutOfOrder octets

record_fault : (g : Grounds) (octets file : List ℕ) (data_objects : List (List ℕ)) (room : ℕ) (fault : DeviceFault)
    → IsVerdict g octets data_objects (Err (evidence.Device fault))
    → CountsRefused (let r : Result ℕ EvidenceRefused = Err (evidence.Device fault) in r) 0 0
    → Sorts octets (Err (refused.Evidence (evidence.Device fault)))
    → IsFaultWithin octets file room (refused.Evidence (evidence.Device fault))
record_fault g octets file data_objects room device.OutOfMemory is counts sorts = sorts refl
record_fault g octets file data_objects room device.AskFailed is counts sorts = absurd (never_raised counts)
record_fault g octets file data_objects room device.ReadFailed is counts sorts = absurd is
record_fault g octets file data_objects room device.TooLong is counts sorts = absurd is
record_fault g octets file data_objects room device.ContentTooLong is counts sorts = absurd is

-- ---- both

-- A file whose octets are known is judged with a content that is known, if there is one, and a verifier that never
-- fails.
module _ {S : Type 0} (source : Ghosts S) (given : Given) (before after : Option S) (g : Grounds)
    (octets file : List ℕ) (handed : Option (List ℕ)) (room : ℕ) (digests : List WantedDigests)
    (never : (s : S) → source.failures s ≡ 0) (known : given.tells) (its : given.octets ≡ file)
    (has : given.room ≡ room) (none : given.count ≡ 0) (none' : given.count' ≡ 0)
    (tells : IfSome before source.tells) (rest : option_map source.rest before ≡ handed) (short : IsShort handed)
  where
    at_hand : (o : Option S) → IfSome o source.tells → option_map source.rest o ≡ handed
        → IfSome o (λ s. source.tells s × (length (source.rest s) ≤ 2 ^ 40))
    at_hand None told same = tt
    at_hand (Some s) told same = (told, subst IsShort (sym same) short)

    fault_of : (ds : List (List ℕ)) (why : UnderRefused)
        → JudgesUnder g octets ds given source before after (Err why)
        → IsVerdictUnder g octets file handed (Err why)
        → CountsUnder (Err why) 0 0 → Sorts octets (Err why)
        → IsFaultWithin octets file room why
    fault_of ds (refused.Signed (signed.File failed)) judged is counts sorts = tt
    fault_of ds (refused.Signed (signed.Signer number failed)) judged is counts sorts = tt
    fault_of ds (refused.Signed (signed.Token number token failed)) judged is counts sorts = tt
    fault_of ds (refused.Signed (signed.Device fault)) (t, under, streamed) is counts sorts =
        subst (λ (n : ℕ). IsFaultWithin octets file n (refused.Signed (signed.Device fault))) has
        (subst (λ (f : List ℕ). IsFaultWithin octets f given.room (refused.Signed (signed.Device fault))) its
        (signed_fault (facts source) never t octets given.octets given.room fault
        (of_room (facts source) never t given.tells given.octets given.room given.count given.count' before after
        (Err (signed.Device fault)) fault known none none' (at_hand before tells rest) streamed refl) counts))
    fault_of ds (refused.Evidence (evidence.Record failed)) judged is counts sorts = tt
    fault_of ds (refused.Evidence (evidence.Stamp chain stamp failed)) judged is counts sorts = tt
    fault_of ds (refused.Evidence (evidence.Device fault)) judged is counts sorts =
        record_fault g octets file (data_of file handed) room fault is counts sorts

    fault_in : (verdict : Result ℕ UnderRefused) (ds : List (List ℕ))
        → JudgesUnder g octets ds given source before after verdict → IsVerdictUnder g octets file handed verdict
        → CountsUnder verdict 0 0 → Sorts octets verdict → IfErr verdict (IsFaultWithin octets file room)
    fault_in (Ok m) ds judged is counts sorts = tt
    fault_in (Err why) ds judged is counts sorts = fault_of ds why judged is counts sorts

    pub within_room : (verdict : Result ℕ UnderRefused) → AreOfData digests (data_of file handed)
        → (given.tells → IfSome before source.tells
        → AreOfData digests (data_of given.octets (option_map source.rest before))
        → IsVerdictUnder g octets given.octets (option_map source.rest before) verdict)
        → ((ds : List (List ℕ)) → AreOfData digests ds → JudgesUnder g octets ds given source before after verdict)
        → CountsUnder verdict 0 0 → Sorts octets verdict
        → IsVerdictWithin g octets file handed room verdict
    within_room verdict are says judged counts sorts =
        let of_source : AreOfData digests (data_of given.octets (option_map source.rest before)) =
        subst (λ (f : List ℕ). AreOfData digests (data_of f (option_map source.rest before))) (sym its)
        (subst (λ (h : Option (List ℕ)). AreOfData digests (data_of file h)) (sym rest) are) in
        let is : IsVerdictUnder g octets file handed verdict =
        subst (λ (h : Option (List ℕ)). IsVerdictUnder g octets file h verdict) rest
        (subst (λ (f : List ℕ). IsVerdictUnder g octets f (option_map source.rest before) verdict) its
        (says known tells of_source)) in
        record {
          is = is;
          fault = fault_in verdict (data_of file handed) (judged (data_of file handed) are) is counts sorts;
        }
