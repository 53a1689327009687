-- How a command about several files ends: no failure ends one as done.
use Rattle.std.proofs.Common.{◌≡◌, ◌≢◌, ◌∙◌, ℕ, List, Option, inl, inr, sym, subst}
use Rattle.std.specs.Io.KnownBytes.{Appends}
use Rattle.cli_failures.specs.declared.status.Status.{Status}
use Rattle.cli_failures.specs.declared.status.Status.TheVariants as status
use Rattle.cli_tasks.specs.declared.task.Many.{Many}
use Rattle.cli_words.specs.declared.meaning.Meaning.TheVariants as meaning
use Rattle.cli_commands.proofs.Undone.{never_done}
use Rattle.cli_commands.specs.Rereading.{Sayings}
use Rattle.cli_files.specs.Lines.{EndsMany, TellsMany}
use Rattle.cmsproof.specs.Telling.{IsToldBy}

-- what was printed of several files
module _ {F : Type 0} (holds : F → Option (List ℕ)) (says : Sayings F) (many : Many) (result : Status)
    (before after : Option (List ℕ))
    (told : result ≢ status.Usage → EndsMany holds says many.each many.files result before after) where
  told_unless : (s : Status) → s ≢ status.Failed → EndsMany holds says many.each many.files s before after
      → TellsMany holds says many s before after
  told_unless s unfailed (inl (paths, files, inl told)) = (paths, files, told)
  told_unless s unfailed (inl (paths, files, inr (failed, stops))) = absurd (unfailed failed)
  told_unless s unfailed (inr (failed, kept)) = absurd (unfailed failed)

  ends_with : (s : Status) → result ≡ s → s ≢ status.Usage → EndsMany holds says many.each many.files s before after
  ends_with s is used = subst (λ (x : Status). EndsMany holds says many.each many.files x before after) is
      (told (λ e. used (sym is ∙ e)))

  ends_as : (s : Status) → result ≡ s → s ≢ status.Failed → s ≢ status.Usage → TellsMany holds says many s before after
  ends_as s is unfailed used = told_unless s unfailed (ends_with s is used)

  pub many_done : result ≡ status.Done
      → (text : List ℕ) × IsToldBy holds says (meaning.Many many) text × Appends before after text
  many_done is = of (ends_as status.Done is (λ e. cc) (λ e. cc))
    where
      of : TellsMany holds says many status.Done before after
          → (text : List ℕ) × IsToldBy holds says (meaning.Many many) text × Appends before after text
      of (paths, files, inl (text, lines, took)) = (text, (paths, files, lines), took)
      of (paths, files, inr (f, fails, ends, malformed, took)) = absurd (never_done f ends)

  pub many_malformed : result ≡ status.Malformed → TellsMany holds says many status.Malformed before after
  many_malformed is = ends_as status.Malformed is (λ e. cc) (λ e. cc)

  pub many_refused : result ≡ status.Refused → TellsMany holds says many status.Refused before after
  many_refused is = ends_as status.Refused is (λ e. cc) (λ e. cc)

  pub many_failed : result ≡ status.Failed → EndsMany holds says many.each many.files status.Failed before after
  many_failed is = ends_with status.Failed is (λ e. cc)
