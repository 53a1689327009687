-- What is said of a file, and a list that fails, never end a command with `Usage`; and how a list that fails ends it.
use Rattle.std.proofs.Common.{◌≡◌, ◌≢◌, ◌⊎◌, ◌∙◌, ℕ, List, Option, Some, None, inl, inr, sym, subst}
use Rattle.std.specs.Prelude.{IsSomeAnd}
use Rattle.std.specs.Borrow.{Bor}
use Rattle.std.specs.Io.KnownBytes.{Appends}
use Rattle.check_questions.specs.declared.fault.QuestionsFault.{QuestionsFault}
use Rattle.check_questions.specs.declared.fault.QuestionsFault.TheVariants as questions
use Rattle.check_stream.specs.declared.fault.StreamQuestionsFault.{StreamQuestionsFault}
use Rattle.check_stream.specs.declared.fault.StreamQuestionsFault.TheVariants as stream
use Rattle.check_fit.specs.declared.rules.FileRule.TheVariants as file
use Rattle.check_fit.specs.declared.rules.Refused.{Refused}
use Rattle.check_fit.specs.declared.rules.Refused.TheVariants as refused
use Rattle.check_evidence.specs.declared.rules.RecordRule.{RecordRule}
use Rattle.check_evidence.specs.declared.rules.RecordRule.TheVariants as record_rule
use Rattle.check_evidence.specs.declared.rules.EvidenceRefused.TheVariants as evidence
use Rattle.der_core.specs.Form.{Form}
use Rattle.cli_failures.specs.Causes.{IsMalformed}
use Rattle.cli_failures.specs.declared.failure.Failure.{Failure}
use Rattle.cli_failures.specs.declared.failure.Failure.TheVariants as failure
use Rattle.cli_failures.specs.declared.status.Status.{Status}
use Rattle.cli_failures.specs.declared.status.Status.TheVariants as status
use Rattle.cli_failures.specs.Failures.{failure_text, refused_status, status_of, unasked_status, unshown_status}
use Rattle.cli_failures.specs.Files.{IsFailureToOpen, IsFailureToRead}
use Rattle.cli_failures.specs.Output.{Begins, IsLost}
use Rattle.cli_tasks.specs.declared.task.About.{About}
use Rattle.cli_tasks.specs.declared.task.About.TheVariants as about
use Rattle.cli_tasks.specs.declared.task.CheckEach.{CheckEach}
use Rattle.cli_tasks.specs.declared.task.CheckWords.{CheckWords}
use Rattle.cli_tasks.specs.declared.task.Each.{Each}
use Rattle.cli_tasks.specs.declared.task.Each.TheVariants as each
use Rattle.cli_tasks.specs.declared.task.FitEach.{FitEach}
use Rattle.cli_tasks.specs.declared.task.FitWords.{FitWords}
use Rattle.cli_tasks.specs.declared.task.QuestionsEach.{QuestionsEach}
use Rattle.cli_tasks.specs.declared.task.QuestionsWords.{QuestionsWords}
use Rattle.cli_commands.specs.Asking.{AsksNot, failure_of}
use Rattle.cli_commands.specs.Checking.{ShowsRefused}
use Rattle.cli_commands.specs.Fit.{ShowsUnfit}
use Rattle.cli_commands.specs.Lists.{IsFailureOfAnswers, IsFailureOfTrust}
use Rattle.cli_commands.specs.Rereading.{Sayings}
use Rattle.cli_commands.specs.Stamping.{HasNoStampQuestions}
use Rattle.cli_evidence.specs.Questions.{HasNoRecordQuestions}
use Rattle.cli_files.specs.Lines.{AreAll, AreTold, none, next, EndsFiles, IsAsked, IsCut, IsFailureOfList}
use Rattle.cli_files.specs.Lines.{IsLine, TellsNotAll}
use Rattle.cli_files.specs.Lines.{FailsAbout, check_of, fit_of, questions_of}

pub read_fails : (path : Bor (List ℕ)) (f : Failure) → IsFailureToRead path f → status_of f ≡ status.Failed
read_fails path f (inl e) = cc
read_fails path f (inr (inl e)) = cc
read_fails path f (inr (inr (inl e))) = cc
read_fails path f (inr (inr (inr e))) = cc

open_fails : (path : Bor (List ℕ)) (f : Failure) → IsFailureToOpen path f → status_of f ≡ status.Failed
open_fails path f (inl e) = cc
open_fails path f (inr e) = cc

given_fails : (path : Option (Bor (List ℕ))) (f : Failure) → IsSomeAnd path (λ p. IsFailureToOpen p f)
    → status_of f ≡ status.Failed
given_fails (Some p) f fails = open_fails p f fails
given_fails None f fails = absurd fails

pub lost_fails : (f : Failure) → IsLost f → status_of f ≡ status.Failed
lost_fails f (inl e) = cc
lost_fails f (inr (output, e)) = cc

module _ {F : Type 0} (holds : F → Option (List ℕ)) (says : Sayings F) where
  trust_fails : (path : Bor (List ℕ)) (f : Failure) → IsFailureOfTrust holds path f
      → (status_of f ≡ status.Malformed) ⊎ (status_of f ≡ status.Failed)
  trust_fails path f (inl fails) = inr (read_fails path f fails)
  trust_fails path f (inr (text, fault, held, is, e)) = inl cc

  answers_fail : (path : Bor (List ℕ)) (f : Failure) → IsFailureOfAnswers holds path f
      → (status_of f ≡ status.Malformed) ⊎ (status_of f ≡ status.Failed)
  answers_fail path f (inl fails) = inr (read_fails path f fails)
  answers_fail path f (inr (text, fault, held, is, e)) = inl cc

  list_fails : (e : Each) (f : Failure) → IsFailureOfList holds e f
      → (status_of f ≡ status.Malformed) ⊎ (status_of f ≡ status.Failed)
  list_fails (each.Check words) f (inl fails) = trust_fails words.trust f fails
  list_fails (each.Check words) f (inr fails) = answers_fail words.answers f fails
  list_fails (each.Fit words) f fails = absurd fails
  list_fails (each.Questions words) f fails = trust_fails words.trust f fails

  not_usage : (f : Failure) → (status_of f ≡ status.Malformed) ⊎ (status_of f ≡ status.Failed)
      → status_of f ≢ status.Usage
  not_usage f (inl e) = λ is. let no : ⊥ = cc in no
  not_usage f (inr e) = λ is. let no : ⊥ = cc in no

  refused_not_usage : (why : Refused) → refused_status why ≢ status.Usage
  refused_not_usage (refused.File (file.Malformed fault)) = λ is. let no : ⊥ = cc in no
  refused_not_usage (refused.File file.NotSignedData) = λ is. let no : ⊥ = cc in no
  refused_not_usage (refused.File file.NoSigner) = λ is. let no : ⊥ = cc in no
  refused_not_usage (refused.File file.NoContent) = λ is. let no : ⊥ = cc in no
  refused_not_usage (refused.File file.ContentTwice) = λ is. let no : ⊥ = cc in no
  refused_not_usage (refused.File file.NoSuchSigner) = λ is. let no : ⊥ = cc in no
  refused_not_usage (refused.Signer signer rule) = λ is. let no : ⊥ = cc in no
  refused_not_usage (refused.Token signer token rule) = λ is. let no : ⊥ = cc in no
  refused_not_usage (refused.Device fault) = λ is. let no : ⊥ = cc in no

  told_not_usage : (why : Refused) (f : Failure) → f ≡ failure.Refused why → status_of f ≢ status.Usage
  told_not_usage why f e = λ is. refused_not_usage why (let same : refused_status why ≡ status_of f = cc in same ∙ is)

  check_not_usage : (words : CheckWords) (f : Failure) → ShowsRefused holds says words f → status_of f ≢ status.Usage
  check_not_usage words f (inl fails) = not_usage f (trust_fails words.trust f fails)
  check_not_usage words f (inr (inl fails)) = not_usage f (answers_fail words.answers f fails)
  check_not_usage words f (inr (inr (inl fails))) = not_usage f (inr (given_fails words.content f fails))
  check_not_usage words f (inr (inr (inr (inl fails)))) = not_usage f (inr (open_fails words.file f fails))
  check_not_usage words f (inr (inr (inr (inr (opened, file, (why, e, known)))))) = told_not_usage why f e

  fit_not_usage : (words : FitWords) (f : Failure) → ShowsUnfit holds words f → status_of f ≢ status.Usage
  fit_not_usage words f (inl fails) = not_usage f (inr (given_fails words.content f fails))
  fit_not_usage words f (inr (inl fails)) = not_usage f (inr (read_fails words.file f fails))
  fit_not_usage words f (inr (inr (octets, why, held, judged, e))) = told_not_usage why f e

  unasked_not_usage : (why : QuestionsFault) → unasked_status why ≢ status.Usage
  unasked_not_usage (questions.Malformed fault) = λ is. let no : ⊥ = cc in no
  unasked_not_usage questions.NotSignedData = λ is. let no : ⊥ = cc in no
  unasked_not_usage questions.WriteFailed = λ is. let no : ⊥ = cc in no

  stopped_not_usage : (path : Bor (List ℕ)) (why : StreamQuestionsFault)
      → status_of (failure_of path why) ≢ status.Usage
  stopped_not_usage path (stream.Questions why) = unasked_not_usage why
  stopped_not_usage path stream.ReadFailed = λ is. let no : ⊥ = cc in no
  stopped_not_usage path stream.TooLong = λ is. let no : ⊥ = cc in no

  asking_not_usage : (words : QuestionsWords) (f : Failure) → AsksNot holds says words f → status_of f ≢ status.Usage
  asking_not_usage words f (inl fails) = not_usage f (trust_fails words.trust f fails)
  asking_not_usage words f (inr (inl fails)) = not_usage f (inr (open_fails words.file f fails))
  asking_not_usage words f (inr (inr (trust, opened, file, why, is, known, e))) =
      λ used. stopped_not_usage words.file why
      (let same : status_of (failure_of words.file why) ≡ status_of f = cc in same ∙ used)

  malformed_not_usage : (form : Form) (octets : List ℕ) (f : Failure) → IsMalformed form octets f
      → status_of f ≢ status.Usage
  malformed_not_usage form octets f m = λ is. let e = m.malformed in let no : ⊥ = cc in no

  stamp_not_usage : (path : Bor (List ℕ)) (f : Failure) → HasNoStampQuestions holds path f → status_of f ≢ status.Usage
  stamp_not_usage path f (inl fails) = not_usage f (inr (read_fails path f fails))
  stamp_not_usage path f (inr (inl (octets, held, inl (by, inl lacks)))) =
      malformed_not_usage _ octets f lacks
  stamp_not_usage path f (inr (inl (octets, held, inl (by, inr (given, rule, encodes, lacks, e))))) =
      λ is. let no : ⊥ = cc in no
  stamp_not_usage path f (inr (inl (octets, held, inr (never, lacks)))) =
      malformed_not_usage _ octets f lacks
  stamp_not_usage path f (inr (inr (token, held, inl (fault, is, e)))) = λ is. let no : ⊥ = cc in no
  stamp_not_usage path f (inr (inr (token, held, inr (is, e)))) = λ is. let no : ⊥ = cc in no

  unshown_not_usage : (failed : RecordRule) → unshown_status (evidence.Record failed) ≢ status.Usage
  unshown_not_usage (record_rule.Malformed fault) = λ is. let no : ⊥ = cc in no
  unshown_not_usage record_rule.Encrypted = λ is. let no : ⊥ = cc in no
  unshown_not_usage record_rule.NoData = λ is. let no : ⊥ = cc in no

  record_not_usage : (path : Bor (List ℕ)) (f : Failure) → HasNoRecordQuestions holds path f
      → status_of f ≢ status.Usage
  record_not_usage path f (inl fails) = not_usage f (inr (read_fails path f fails))
  record_not_usage path f (inr (octets, failed, held, fails, e)) =
      λ used. unshown_not_usage failed
      (let same : unshown_status (evidence.Record failed) ≡ status_of f = cc in same ∙ used)

  about_not_usage : (trust : Bor (List ℕ)) (a : About) (path : Bor (List ℕ)) (f : Failure)
      → FailsAbout holds says trust a path f → status_of f ≢ status.Usage
  about_not_usage trust (about.Signed buffer) path f fails = asking_not_usage (questions_of trust buffer path) f fails
  about_not_usage trust about.Stamps path f fails = stamp_not_usage path f fails
  about_not_usage trust about.Records path f fails = record_not_usage path f fails

  check_line : (e : CheckEach) (path : Bor (List ℕ)) (line : List ℕ) (ends : Status)
      → IsLine holds says (check_of e) path line ends
      → ends ≢ status.Usage
  check_line e path line ends (said, inl (done, makes), is) = λ used. let no : ⊥ = cc in no
  check_line e path line ends (said, inr (f, fails, of, told), is) = λ used. check_not_usage _ f fails (of ∙ used)

  fit_line : (e : FitEach) (path : Bor (List ℕ)) (line : List ℕ) (ends : Status)
      → IsLine holds says (fit_of e) path line ends
      → ends ≢ status.Usage
  fit_line e path line ends (said, inl (done, makes), is) = λ used. let no : ⊥ = cc in no
  fit_line e path line ends (said, inr (f, fails, of, told), is) = λ used. fit_not_usage _ f fails (of ∙ used)

  asked_line : (e : QuestionsEach) (path : Bor (List ℕ)) (line : List ℕ) (ends : Status)
      → IsAsked holds says e path line ends
      → ends ≢ status.Usage
  asked_line e path line ends (inl (done, asked)) = λ used. let no : ⊥ = cc in no
  asked_line e path line ends (inr (f, fails, of, told)) =
      λ used. about_not_usage e.trust e.about path f fails (of ∙ used)

  lines_not_usage : (IsLineOf : Bor (List ℕ) → List ℕ → Status → Type 0)
      → ((path : Bor (List ℕ)) (line : List ℕ) (ends : Status) → IsLineOf path line ends → ends ≢ status.Usage)
      → (paths : List (Bor (List ℕ))) (text : List ℕ) (worst : Status) → AreTold IsLineOf paths text worst
      → worst ≢ status.Usage
  lines_not_usage IsLineOf never paths text worst none = λ used. let no : ⊥ = cc in no
  lines_not_usage IsLineOf never paths text worst
      (next {path = path} {line = line} {ends = ends} told is (more, most, inl e)) =
      λ used. lines_not_usage IsLineOf never _ _ _ told (sym e ∙ used)
  lines_not_usage IsLineOf never paths text worst
      (next {path = path} {line = line} {ends = ends} told is (more, most, inr e)) =
      λ used. never path line ends is (sym e ∙ used)

  pub all_not_usage : (e : Each) (paths : List (Bor (List ℕ))) (text : List ℕ) (worst : Status)
      → AreAll holds says e paths text worst
      → worst ≢ status.Usage
  all_not_usage (each.Check words) paths text worst told =
      lines_not_usage (IsLine holds says (check_of words)) (check_line words) paths text worst told
  all_not_usage (each.Fit words) paths text worst told =
      lines_not_usage (IsLine holds says (fit_of words)) (fit_line words) paths text worst told
  all_not_usage (each.Questions words) paths text worst (trust, asked, is, told, same) =
      lines_not_usage (IsAsked holds says words) (asked_line words) paths asked worst told

  -- a failure was reported by its status, or its line was lost
  pub ends_so : (f : Failure) (result : Status)
      → (result ≡ status_of f) ⊎ ((status_of f ≡ status.Malformed) × (result ≡ status.Failed))
      → (result ≡ status_of f) ⊎ (result ≡ status.Failed)
  ends_so f result (inl same) = inl same
  ends_so f result (inr (malformed, failed)) = inr failed

  -- a failure that was reported: of a list, before which nothing was printed, or of a line that was not printed
  fails_so : {X Y : Type 0} (e : Each) (f : Failure) → (IsFailureOfList holds e f × X) ⊎ (IsLost f × Y)
      → (status_of f ≡ status.Malformed) ⊎ (status_of f ≡ status.Failed)
  fails_so e f (inl (fails, same)) = list_fails e f fails
  fails_so e f (inr (lost, cut)) = inr (lost_fails f lost)

  pub reported_so : {X Y : Type 0} (e : Each) (f : Failure) (result : Status)
      → (IsFailureOfList holds e f × X) ⊎ (IsLost f × Y)
      → (result ≡ status_of f) ⊎ (result ≡ status.Failed) → (result ≡ status.Malformed) ⊎ (result ≡ status.Failed)
  reported_so e f result fails (inl is) = by_status (fails_so e f fails)
    where
      by_status : (status_of f ≡ status.Malformed) ⊎ (status_of f ≡ status.Failed)
          → (result ≡ status.Malformed) ⊎ (result ≡ status.Failed)
      by_status (inl ends) = inl (is ∙ ends)
      by_status (inr ends) = inr (is ∙ ends)
  reported_so e f result fails (inr is) = inr is

  pub so_not_usage : (result : Status) → (result ≡ status.Malformed) ⊎ (result ≡ status.Failed) → result ≢ status.Usage
  so_not_usage result (inl is) = λ used. let no : ⊥ = cc in no
  so_not_usage result (inr is) = λ used. let no : ⊥ = cc in no

  pub so_quiet : {X : Type 0} (result : Status) → (result ≡ status.Malformed) ⊎ (result ≡ status.Failed)
      → (result ≡ status.Malformed → X) → (result ≡ status.Failed) ⊎ X
  so_quiet result (inl is) quiet = inr (quiet is)
  so_quiet result (inr is) quiet = inl is

  module _ {W : Type 0} (contents : W → Option (List ℕ)) (e : Each) (paths : List (Bor (List ℕ))) (f : Failure)
      (result : Status)
      (old mid after : W) where
    -- the line of a list that fails was printed, or a beginning of it
    list_ends : IsFailureOfList holds e f → (result ≡ status.Malformed) ⊎ (result ≡ status.Failed)
        → (result ≡ status_of f) ⊎ (result ≡ status.Failed)
        → (result ≡ status.Malformed → Appends (contents old) (contents after) (failure_text f))
        → Begins (contents old) (contents after) (failure_text f)
        → EndsFiles holds says e paths result (contents old) (contents after)
    list_ends fails (inl ends) (inl is) told begun = inl (inr (f, fails, sym is, ends, told ends))
    list_ends fails (inl ends) (inr is) told begun = absurd (let no : ⊥ = cc in no)
    list_ends fails (inr ends) is told begun = inr (ends, inr (f, fails, begun))

    pub reported_ends : TellsNotAll holds says contents e paths old mid f
        → (result ≡ status_of f) ⊎ (result ≡ status.Failed)
        → (result ≡ status.Malformed → Appends (contents mid) (contents after) (failure_text f))
        → Begins (contents mid) (contents after) (failure_text f)
        → (status_of f ≡ status.Failed → after ≡ mid)
        → EndsFiles holds says e paths result (contents old) (contents after)
    reported_ends (inl (fails, same)) is told begun kept =
        list_ends fails (reported_so {Y = ⊥} e f result (inl (fails, same)) is) is
        (λ m. subst (λ (w : W). Appends (contents w) (contents after) (failure_text f)) same (told m))
        (subst (λ (w : W). Begins (contents w) (contents after) (failure_text f)) same begun)
    reported_ends (inr (lost, cut)) is told begun kept = inr (
      failed_so is,
      inl (subst (λ (w : W). IsCut holds says e paths (contents old) (contents w))
          (sym (kept (lost_fails f lost))) cut),
    )
      where
        failed_so : (result ≡ status_of f) ⊎ (result ≡ status.Failed) → result ≡ status.Failed
        failed_so (inl same) = same ∙ lost_fails f lost
        failed_so (inr failed) = failed
