-- The verdict about a file that was read, and a content that was read once more, holds of the octets that were read.
use Rattle.std.proofs.Common.{◌≡◌, ℕ, true, List, [], Option, Some, None, Result, Ok, Err, refl, sym, inl, inr, subst}
use Rattle.std.specs.Prelude.{MatchResult, IfSome, IsSome, is_some, unwrap_or}
use Rattle.devices.specs.Device.{AreOctets}
use Rattle.der_core.specs.declared.fault.Fault.{Fault}
use Rattle.cms_types.specs.declared.fault.CmsFault.{CmsFault}
use Rattle.cms_types.specs.SignedDataValue.{SignedDataValue}
use Rattle.check_fit.specs.declared.rules.Refused.{Refused}
use Rattle.check_fit.specs.FileFitting.{SourceFacts, IsReadingBy, file_rules, placed, OfSource, fails, too_long, read}
use Rattle.check_fit.specs.FileFitting.{OfContent, OfFile}
use Rattle.check_fit.proofs.FileLaw.{placed_from}
use Rattle.cli_commands.specs.Judging.{Judge, JudgesFile, JudgesSigned, IsContentHeld, IsContentOf}

-- a content that was handed in is nowhere else
held_nowhere : (v : SignedDataValue) (held : Option (List ℕ)) → placed v held true ≡ Ok v → (content : List ℕ)
    → IfSome held (λ b. content ≡ b)
held_nowhere v None e content = tt
held_nowhere v (Some b) e content = absurd cc

-- what a source over a file gave is what the file held
pub given_by : {F : Type 0} (holds : F → Option (List ℕ)) (file : F) (content : List ℕ)
    → (IsSome (holds file) × AreOctets (unwrap_or (holds file) []) → unwrap_or (holds file) [] ≡ content)
    → IsContentHeld holds content
given_by holds file content all = (file, by_cases (holds file) all)
  where
    by_cases : (o : Option (List ℕ)) → (IsSome o × AreOctets (unwrap_or o []) → unwrap_or o [] ≡ content)
        → IfSome o (λ held. AreOctets held → content ≡ held)
    by_cases None all = tt
    by_cases (Some held) all = λ are. sym (all (refl, are))

-- what is known of a content that a source gives
abbrev pub Gives : {S : Type 0} (facts : SourceFacts S) (IsGiven : List ℕ → Type 0) → Type 0
Gives {S} facts IsGiven = (s : S) (content : List ℕ) → (facts.tells s → facts.rest s ≡ content) → IsGiven content

module _ {S : Type 0} (facts : SourceFacts S) (Judges : Judge) (IsGiven : List ℕ → Type 0)
    (gives : Gives facts IsGiven) where
  of_source : (v : SignedDataValue) (s s' : S) (verdict : Result ℕ Refused)
      → ((content : List ℕ) → IsContentOf v content)
      → OfSource (λ content. Judges content v) (facts.tells s) (facts.rest s) (facts.rest s') (facts.failures s)
      (facts.failures s') verdict
      → JudgesSigned Judges IsGiven true v verdict
  of_source v s s' verdict free (fails raised) = inl (refl, inl refl)
  of_source v s s' verdict free (too_long count more) = inl (refl, inr refl)
  of_source v s s' verdict free (read content most count all none judged) =
      inr (content, free content, (λ _. gives s content all), judged)

  of_content : (reading : Result SignedDataValue CmsFault) (v : SignedDataValue) (before after : Option S)
      (verdict : Result ℕ Refused)
      → file_rules reading (is_some before) ≡ Ok v → OfContent facts Judges v before after verdict
      → JudgesSigned Judges IsGiven (is_some before) v verdict
  of_content reading v None after verdict passes (same, content, held, judged) =
      inr (
        content,
        subst (λ (o : Option (List ℕ)). IfSome o (λ b. content ≡ b)) (sym held) refl,
        (λ e. absurd (let no : ⊥ = cc in no)),
        judged,
      )
  of_content reading v (Some s) after verdict passes (s', is, judged) =
      of_source v s s' verdict (held_nowhere v v.encapsulated.content (placed_from reading true v passes)) judged

  pub judged_file : (HasFault : List ℕ → Fault → Type 0) (reading : Result SignedDataValue CmsFault) (octets : List ℕ)
      (before after : Option S)
      (verdict : Result ℕ Refused) → IsReadingBy HasFault octets reading
      → OfFile facts Judges reading before after verdict
      → JudgesFile HasFault Judges IsGiven (is_some before) octets verdict
  judged_file HasFault reading octets before after verdict is judged =
      record { reading = reading; read = is; judged = over (file_rules reading (is_some before)) refl judged }
    where
      over : (o : Result SignedDataValue Refused) → file_rules reading (is_some before) ≡ o
          → MatchResult o (λ v. OfContent facts Judges v before after verdict)
          (λ e. (verdict ≡ Err e) × (after ≡ before))
          → MatchResult o (λ v. JudgesSigned Judges IsGiven (is_some before) v verdict) (λ e. verdict ≡ Err e)
      over (Ok v) passes h = of_content reading v before after verdict passes h
      over (Err e) passes h = h.0
