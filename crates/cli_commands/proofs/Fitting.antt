-- What is said of a file that was read once more holds of the octets that were read.
use Rattle.std.proofs.Common.{◌≡◌, ℕ, Bool, List, Option, Result, Ok, Err, inl, inr, subst}
use Rattle.std.specs.Prelude.{MatchResult, IfOk, IfErr, is_some}
use Rattle.der_core.specs.Faults.{Faults}
use Rattle.der_core.specs.Grammar.{file}
use Rattle.der_grammar.specs.Table.{content_info}
use Rattle.cms_types.specs.declared.fault.CmsFault.{CmsFault}
use Rattle.cms_types.specs.SignedDataValue.{SignedDataValue}
use Rattle.check_fit.specs.declared.policy.Policy.{Policy}
use Rattle.check_fit.specs.declared.rules.Refused.{Refused}
use Rattle.check_fit.specs.FileFitting.{SourceFacts, IsReading, FitsSigned, FitsFile}
use Rattle.check_fit.specs.Fitting.{with_sha1}
use Rattle.cli_tasks.specs.declared.task.FitWords.{FitWords}
use Rattle.cli_failures.specs.declared.failure.Failure.{Failure}
use Rattle.cli_failures.specs.Files.{IsHeld}
use Rattle.cli_commands.specs.Judging.{JudgesFile, IsContentHeld}
use Rattle.cli_commands.specs.Fit.{JudgesWords, TellsFits, TellsUnfit, ShowsFit, ShowsUnfit}
use Rattle.cli_commands.proofs.JudgedFiles.{judged_file, Gives}

-- ---- what the words ask for

abbrev policy_of : FitWords → Policy
policy_of words = with_sha1 words.sha1

of_words :
    {F : Type 0} (holds : F → Option (List ℕ)) (words : FitWords) (policy : Policy) (handed : Bool) (octets : List ℕ)
    (verdict : Result ℕ Refused) → policy ≡ policy_of words → handed ≡ is_some words.content
    → JudgesFile (Faults (file content_info)) (FitsSigned policy) (IsContentHeld holds) handed octets verdict
    → JudgesWords holds words octets verdict
of_words holds words policy handed octets verdict p i a =
    subst (λ (b : Bool).
    JudgesFile (Faults (file content_info)) (FitsSigned (policy_of words)) (IsContentHeld holds) b octets verdict) i
    (subst (λ (q : Policy).
    JudgesFile (Faults (file content_info)) (FitsSigned q) (IsContentHeld holds) handed octets verdict) p a)

-- a file whose octets were read, with a content that was handed in or not, and what was said of it
module _ {F S T : Type 0} (holds : F → Option (List ℕ)) (bytes : T → List ℕ) (facts : SourceFacts S) (words : FitWords)
    (policy : Policy)
    (octets : List ℕ) (before after : Option S) (gives : Gives facts (IsContentHeld holds)) (read : IsHeld holds octets)
    (p : policy ≡ policy_of words) (i : is_some before ≡ is_some words.content) where
  abbrev pub Told : Result T Failure → Type 0
  Told r = (verdict : Result ℕ Refused) × (reading : Result SignedDataValue CmsFault) × IsReading octets reading
      × FitsFile facts policy reading before after verdict
      × MatchResult r (λ t. TellsFits verdict (bytes t)) (TellsUnfit verdict)

  judged : (verdict : Result ℕ Refused) (reading : Result SignedDataValue CmsFault) → IsReading octets reading
      → FitsFile facts policy reading before after verdict → JudgesWords holds words octets verdict
  judged verdict reading is fit = of_words holds words policy (is_some before) octets verdict p i
      (judged_file facts (FitsSigned policy) (IsContentHeld holds) gives
      (Faults (file content_info)) reading octets before after verdict is fit)

  pub shows_fit : (r : Result T Failure) → Told r → IfOk r (λ t. ShowsFit holds words (bytes t))
  shows_fit (Ok t) (Ok count, reading, is, fit, told) = (octets, count, read, judged (Ok count) reading is fit, told)
  shows_fit (Ok t) (Err why, reading, is, fit, told) = absurd told
  shows_fit (Err f) told = tt

  pub shows_unfit : (r : Result T Failure) → Told r → IfErr r (ShowsUnfit holds words)
  shows_unfit (Ok t) told = tt
  shows_unfit (Err f) (Ok count, reading, is, fit, told) = inr (inl (inl told))
  shows_unfit (Err f) (Err why, reading, is, fit, told) =
      inr (inr (octets, why, read, judged (Err why) reading is fit, told))
