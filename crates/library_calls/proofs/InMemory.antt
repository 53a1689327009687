-- What is said of a content that is known, by a verifier that never fails.
use Rattle.std.proofs.Common.{◌≡◌, ℕ, Bool, true, List, Option, Some, None, Result, Ok, Err, refl, sym, inl, inr, subst}
use Rattle.std.proofs.Common.{ap, ◌∙◌}
use Rattle.std.specs.Prelude.{MatchResult, IfSome, is_some, option_map}
use Rattle.devices.specs.Device.{raised}
use Rattle.cms_types.specs.declared.fault.CmsFault.{CmsFault}
use Rattle.cms_types.specs.SignedDataValue.{SignedDataValue}
use Rattle.check_fit.specs.declared.rules.DeviceFault.{DeviceFault}
use Rattle.check_fit.specs.declared.rules.Refused.{Refused}
use Rattle.check_fit.specs.declared.rules.Refused.TheVariants as refused
use Rattle.check_fit.specs.FileFitting.{SourceFacts, IsReading, file_rules, placed, OfSource, fails, too_long, read}
use Rattle.check_fit.specs.FileFitting.{OfContent, OfFile}
use Rattle.check_fit.proofs.FileLaw.{placed_from}
use Rattle.trust_lists.specs.Asking.{Asked}
use Rattle.check_verdict.specs.Passing.{Terms}
use Rattle.check_verdict.specs.Verdicts.{IsContent, Judges}
use Rattle.check_verdict.specs.Checkers.{CheckerValue, terms_for}
use Rattle.check_verdict.specs.Checking.{Checks, ChecksAsking, CountsAsks, VerdictOrDevice}
use Rattle.check_verdict.proofs.Checked.{handed_by, checks_from, is_verdict}
use Rattle.check_verdict.proofs.Verdicts.{file_refusal}
use Rattle.library_calls.specs.Known.{IsTooLong, JudgesContent, JudgesHanded}
use Rattle.library_calls.specs.Checked.{IsKnownVerdict}

own_content : (own : Option (List ℕ)) (content : List ℕ) → own ≡ Some content → IsContent own None content
own_content None content e = absurd cc
own_content (Some b) content e = cc

handed_content : (v w : SignedDataValue) (own : Option (List ℕ)) (content : List ℕ) → placed v own true ≡ Ok w
    → IsContent own (Some content) content
handed_content v w None content e = refl
handed_content v w (Some b) content e = absurd cc

-- a count that was raised is not 0
pub never_raised : 0 ≡ raised 0 → ⊥
never_raised e = let no : 0 ≡ 1 = e in cc

module _ {S : Type 0} (facts : SourceFacts S) (J : List ℕ → SignedDataValue → Result ℕ Refused → Type 0)
    (never : (s s' : S) → facts.failures s' ≡ raised (facts.failures s) → ⊥) where
  by_source : (v w : SignedDataValue) (s s' : S) (result : Result ℕ Refused)
      → placed v v.encapsulated.content true ≡ Ok w → facts.tells s
      → OfSource (λ content. J content v) (facts.tells s) (facts.rest s) (facts.rest s') (facts.failures s)
      (facts.failures s') result
      → JudgesContent J (Some (facts.rest s)) v result
  by_source v w s s' result place told (fails e) = absurd (never s s' e)
  by_source v w s s' result place told (too_long e many) = inl (refl, many told)
  by_source v w s s' result place told (read content small count all done j) =
      inr (
        facts.rest s,
        handed_content v w v.encapsulated.content (facts.rest s) place,
        subst (λ (b : List ℕ). J b v result) (sym (all told)) j,
      )

  by_content : (v w : SignedDataValue) (before after : Option S) (result : Result ℕ Refused)
      → placed v v.encapsulated.content (is_some before) ≡ Ok w
      → IfSome before facts.tells → OfContent facts J v before after result
      → JudgesContent J (option_map facts.rest before) v result
  by_content v w None after result place told (same, content, is, j) =
      inr (content, own_content v.encapsulated.content content is, j)
  by_content v w (Some s) after result place told (s', same, of_source) = by_source v w s s' result place told of_source

  pub judges_handed : (octets : List ℕ) (reading : Result SignedDataValue CmsFault) (before after : Option S)
      (result : Result ℕ Refused)
      → IsReading octets reading → IfSome before facts.tells → OfFile facts J reading before after result
      → JudgesHanded J octets (option_map facts.rest before) result
  judges_handed octets reading before after result reads told says =
      record { reading = reading; read = reads; judged = over (file_rules reading (is_some before)) refl says }
    where
      over : (o : Result SignedDataValue Refused) → file_rules reading (is_some before) ≡ o
          → MatchResult o (λ v. OfContent facts J v before after result) (λ e. (result ≡ Err e) × (after ≡ before))
          → MatchResult (file_rules reading (is_some (option_map facts.rest before)))
          (λ v. JudgesContent J (option_map facts.rest before) v result)
          (λ e. result ≡ Err e)
      over (Ok v) passes h = rw (handed_by facts.rest before, passes)
          (by_content v v before after result (placed_from reading (is_some before) v passes) told h)
      over (Err e) passes h = rw (handed_by facts.rest before, passes) h.0

-- a device alone: the content is too long, as the verifier does not fail
only_too_long : (t : Terms) (octets : List ℕ) (handed : Option (List ℕ)) (fault : DeviceFault)
    → JudgesHanded (Judges t) octets handed (Err (refused.Device fault)) → CountsAsks (Err (refused.Device fault)) 0 0
    → IsTooLong handed (Err (refused.Device fault))
only_too_long t octets handed fault judged count = over (file_rules judged.reading (is_some handed)) refl judged.judged
  where
    verdict : Result ℕ Refused
    verdict = Err (refused.Device fault)

    counted : DeviceFault → Type 0
    counted f = CountsAsks (Err (refused.Device f)) 0 0

    refusing : Refused → Result SignedDataValue Refused
    refusing r = Err r

    over : (o : Result SignedDataValue Refused) → file_rules judged.reading (is_some handed) ≡ o
        → MatchResult o (λ v. JudgesContent (Judges t) handed v verdict) (λ e. verdict ≡ Err e)
        → IsTooLong handed verdict
    over (Ok v) is (inl long) = long
    over (Ok v) is (inr (content, has, asked)) =
        absurd (never_raised (subst (λ (f : DeviceFault). counted f) asked count))
    over (Err e) is h = let f = file_refusal octets judged.reading (is_some handed) e judged.read is in
        absurd (no f.0 (h ∙ ap (λ (r : Refused). of_refusal r) f.1))
      where
        of_refusal : Refused → Result ℕ Refused
        of_refusal r = Err r

        no : (failed : _) → verdict ≡ of_refusal (refused.File failed) → ⊥
        no failed k = cc

pub known_verdict : (t : Terms) (octets : List ℕ) (handed : Option (List ℕ)) (result : Result ℕ Refused)
    → JudgesHanded (Judges t) octets handed result
    → CountsAsks result 0 0 → VerdictOrDevice t octets handed result → IsKnownVerdict t octets handed result
known_verdict t octets handed result judged count (inr verdict) = inr verdict
known_verdict t octets handed (Err (refused.Device fault)) judged count (inl device) =
    inl (only_too_long t octets handed fault judged count)
known_verdict t octets handed (Err (refused.File failed)) judged count (inl device) = absurd device
known_verdict t octets handed (Err (refused.Signer number failed)) judged count (inl device) = absurd device
known_verdict t octets handed (Err (refused.Token number token failed)) judged count (inl device) = absurd device
known_verdict t octets handed (Ok m) judged count (inl device) = absurd device

-- the verdict by a checker, over a content in memory, is known under what the checker is
pub known_by : {S : Type 0} (facts : SourceFacts S)
    (never : (s s' : S) → facts.failures s' ≡ raised (facts.failures s) → ⊥) (k u : CheckerValue)
    (vouches : Asked → Bool) (OnlyAsked : (Asked → Bool) → Type 0) (octets : List ℕ) (before after : Option S)
    (handed : Option (List ℕ)) (result : Result ℕ Refused)
    → k ≡ u → option_map facts.rest before ≡ handed → IfSome before facts.tells
    → ChecksAsking facts (terms_for k vouches) OnlyAsked octets before after result → CountsAsks result 0 0
    → IsKnownVerdict (terms_for u vouches) octets handed result
known_by {S} facts never k u vouches OnlyAsked octets before after handed result same rest told checks count =
    let t : Terms = terms_for u vouches in
    let judged : Checks facts t octets before after result =
    checks_from facts t OnlyAsked octets before after result (subst
    (λ (c : CheckerValue). ChecksAsking facts (terms_for c vouches) OnlyAsked octets before after result) same checks)
    in
    subst (λ (h : Option (List ℕ)). IsKnownVerdict t octets h result) rest (known_verdict t octets
    (option_map facts.rest before) result
    (judges_handed facts (Judges t) never octets judged.0 before after result judged.1 told judged.2) count
    (is_verdict facts t octets before after result told judged))
