-- What is printed if the questions of a file are not.
use Rattle.std.proofs.Common.{◌≡◌, ◌≢◌, ◌⊎◌, ◌∙◌, ℕ, List, Option, take, sym, subst, inl, inr, ap}
use Rattle.std.specs.Io.KnownBytes.{Appends}
use Rattle.check_questions.specs.declared.fault.QuestionsFault.TheVariants as questions
use Rattle.check_stream.specs.declared.fault.StreamQuestionsFault.TheVariants as stream
use Rattle.cli_failures.specs.declared.failure.Failure.{Failure}
use Rattle.cli_failures.specs.declared.status.Status.{Status}
use Rattle.cli_failures.specs.declared.status.Status.TheVariants as status
use Rattle.cli_tasks.specs.declared.task.QuestionsWords.{QuestionsWords}
use Rattle.cli_tasks.specs.declared.task.Task.TheVariants as task
use Rattle.cli_commands.specs.Asking.{AsksNot, KeepsUnlessFailed, ShowsPart}
use Rattle.cli_commands.specs.Rereading.{Sayings}
use Rattle.cli_failures.specs.Failures.{failure_text, printed_text, status_of}
use Rattle.cli_failures.specs.Output.{Begins}
use Rattle.cli_commands.specs.Tasks.{StopsBy}
use Rattle.cli_commands.specs.Telling.{TellsMalformed, TellsRefusal}
use Rattle.cli_commands.proofs.AskedAgain.{kept_then}
use Rattle.cli_commands.proofs.Malformed.{fault_told, refusal_told}

-- how a failure was reported: by its own status, or the report failed
abbrev Reported : Failure → Status → Type 0
Reported f result = (result ≡ status_of f) ⊎ (result ≡ status.Failed)

of_status : (f : Failure) (result s : Status) → s ≢ status.Failed → Reported f result → result ≡ s → status_of f ≡ s
of_status f result s works (inl e) is = sym e ∙ is
of_status f result s works (inr e) is = absurd (works (sym is ∙ e))

malformed_works : status.Malformed ≢ status.Failed
malformed_works e = cc

refused_works : status.Refused ≢ status.Failed
refused_works e = cc

-- a failure that was reported behind what was kept
module _ (f : Failure) (result : Status) (before between after : Option (List ℕ)) (reported : Reported f result)
    (kept : KeepsUnlessFailed before between f) where
  printed : (s : Status) → s ≢ status.Failed → (result ≡ s → Appends between after (failure_text f)) → result ≡ s
      → Appends before after (failure_text f)
  printed s works told is =
      kept_then before between after (failure_text f)
      (kept (λ e. works (sym (of_status f result s works reported is) ∙ ap status_of e))) (told is)

  pub questions_malformed : (result ≡ status.Malformed → Appends between after (failure_text f))
      → result ≡ status.Malformed → TellsMalformed before after
  questions_malformed told is =
      fault_told f before after (of_status f result status.Malformed malformed_works reported is)
      (printed status.Malformed malformed_works told is)

  pub questions_refused : (result ≡ status.Refused → Appends between after (failure_text f)) → result ≡ status.Refused
      → TellsRefusal before after
  questions_refused told is =
      refusal_told f before after (of_status f result status.Refused refused_works reported is)
      (printed status.Refused refused_works told is)

  pub questions_told : {F : Type 0} (holds : F → Option (List ℕ)) (says : Sayings F) (words : QuestionsWords)
      → AsksNot holds says words f
      → (result ≡ status.Malformed → Appends between after (failure_text f))
      → (result ≡ status.Refused → Appends between after (failure_text f))
      → (result ≡ status.Malformed) ⊎ (result ≡ status.Refused)
      → (g : Failure) × AsksNot holds says words g × (status_of g ≡ result) × Appends before after (failure_text g)
  questions_told holds says words fails malformed refused (inl is) = (
    f,
    fails,
    of_status f result status.Malformed malformed_works reported is ∙ sym is,
    printed status.Malformed malformed_works malformed is,
  )
  questions_told holds says words fails malformed refused (inr is) = (
    f,
    fails,
    of_status f result status.Refused refused_works reported is ∙ sym is,
    printed status.Refused refused_works refused is,
  )

module _ {F : Type 0} (holds : F → Option (List ℕ)) (says : Sayings F) (words : QuestionsWords) (f : Failure) where
  -- if the report ended as failed, a beginning of the text was printed, or of the line
  pub questions_cut : (result : Status) (before between after : Option (List ℕ)) → AsksNot holds says words f
      → ShowsPart holds before between f
      → (result ≡ status.Failed → Begins between after (printed_text f))
      → (status_of f ≡ status.Failed → after ≡ between) → result ≡ status.Failed
      → StopsBy holds says (task.Questions words) before after
  questions_cut result before between after fails (inl kept) begun same is =
      let (count, took) = begun is in
      inr (f, fails, (count, kept_then before between after (take count (printed_text f)) kept took))
  questions_cut result before between after fails (inr (e, (text, shows, part))) begun same is =
      inl (text, shows, subst (λ (o : Option (List ℕ)). Begins before o text) (sym (same (ap status_of e))) part)

  -- none of the failures of questions is one of usage
  no_usage : AsksNot holds says words f → status_of f ≢ status.Usage
  no_usage (inl (inl (inl e))) is = cc
  no_usage (inl (inl (inr (inl e)))) is = cc
  no_usage (inl (inl (inr (inr (inl e))))) is = cc
  no_usage (inl (inl (inr (inr (inr e))))) is = cc
  no_usage (inl (inr (text, fault, read, listed, e))) is = cc
  no_usage (inr (inl (inl e))) is = cc
  no_usage (inr (inl (inr e))) is = cc
  no_usage (inr (inr (trust, opened, file, stream.Questions (questions.Malformed fault), listed, known, e))) is = cc
  no_usage (inr (inr (trust, opened, file, stream.Questions questions.NotSignedData, listed, known, e))) is = cc
  no_usage (inr (inr (trust, opened, file, stream.Questions questions.WriteFailed, listed, known, e))) is = cc
  no_usage (inr (inr (trust, opened, file, stream.ReadFailed, listed, known, e))) is = cc
  no_usage (inr (inr (trust, opened, file, stream.TooLong, listed, known, e))) is = cc

  pub never_usage : (result : Status) → AsksNot holds says words f → Reported f result → result ≢ status.Usage
  never_usage result fails (inl e) is = no_usage fails (sym e ∙ is)
  never_usage result fails (inr e) is = cc
