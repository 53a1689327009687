-- What is printed of one file more, or of a beginning of that.
use Rattle.std.proofs.Common.{◌≡◌, ◌<◌, ◌≤◌, ◌++◌, ◌∙◌, ℕ, Bool, List, Option, Some, None, Result, refl, arith}
use Rattle.std.proofs.Common.{Ok, Err, inl, inr, sym, ap, subst, suc, take, drop, length, get_or}
use Rattle.std.proofs.Math.Seq.{take-suc, drop-append_seam}
use Rattle.std.proofs.lemmas.Bool.{cases_lt}
use Rattle.std.proofs.lemmas.List.{take_all}
use Rattle.std.specs.Prelude.{codes, IfOk, IfErr}
use Rattle.std.specs.Borrow.{Bor}
use Rattle.std.specs.Io.KnownBytes.{Appends, Keeps}
use Rattle.trust_lists.specs.Asking.{Asked, is_among}
use Rattle.cli_failures.specs.declared.failure.Failure.{Failure}
use Rattle.cli_failures.specs.declared.status.Status.{Status}
use Rattle.cli_failures.specs.declared.status.Status.TheVariants as status
use Rattle.cli_failures.specs.Failures.{failure_text, status_of}
use Rattle.cli_failures.specs.Output.{Begins, IsLost}
use Rattle.cli_failures.specs.Statuses.{code_of}
use Rattle.cli_tasks.specs.declared.task.About.{About}
use Rattle.cli_tasks.specs.declared.task.About.TheVariants as about
use Rattle.cli_tasks.specs.declared.task.TextTask.{TextTask}
use Rattle.cli_tasks.specs.declared.task.QuestionsEach.{QuestionsEach}
use Rattle.check_questions.specs.QuestionsText.{question_lines}
use Rattle.cli_commands.specs.Lists.{IsAnswersOf}
use Rattle.cli_commands.specs.Rereading.{Sayings}
use Rattle.cli_commands.specs.Tasks.{MakesText, MakesNoText}
use Rattle.cli_failures.proofs.Taking.{appends_both, begins_behind, begins_front}
use Rattle.cli_files.specs.Names.{heading_of, line_of}
use Rattle.cli_files.specs.Lines.{AreTold, FailsAbout, first_line, IsAsked, IsHeaded, next, Says, ShowsAbout}
use Rattle.cli_files.specs.Lines.{IsSaid, IsWorse}

-- what is known stays the same where nothing is printed
pub keeps_same : (a : Option (List ℕ)) → Keeps a a
keeps_same None = tt
keeps_same (Some xs) = refl

-- of two statuses there is a worse
pub some_worse : (one other : Status) → (worse : Status) × IsWorse one other worse
some_worse one other = elim (cases_lt (code_of one) (code_of other)) [
  | inl lt ↦ (other, (omega (arith, lt), omega arith, inr refl))
  | inr le ↦ (one, (omega arith, omega (arith, le), inl refl))
]

-- one file more: its line was printed behind what was printed, and the worse status is kept
pub record OneMore (IsLineOf : Bor (List ℕ) → List ℕ → Status → Type 0) (path : Bor (List ℕ))
    (printed after : Option (List ℕ))
    (before worst : Status) : Type 0 where
  pub line : List ℕ
  pub ends : Status
  pub says : IsLineOf path line ends
  pub takes : Appends printed after line
  pub worse : IsWorse before ends worst

module _ (IsLineOf : Bor (List ℕ) → List ℕ → Status → Type 0) (paths : List (Bor (List ℕ))) (d : Bor (List ℕ)) where
  -- the lines of so many files were printed
  abbrev pub UpTo : ℕ → (start printed : Option (List ℕ)) → (worst : Status) → Type 0
  UpTo count start printed worst =
      (text : List ℕ) × AreTold IsLineOf (take count paths) text worst × Appends start printed text

  pub told_next : (i j : ℕ) (start printed after : Option (List ℕ)) (before worst : Status) → i < length paths
      → j ≡ suc i
      → UpTo i start printed before → OneMore IsLineOf (get_or paths i d) printed after before worst
      → UpTo j start after worst
  told_next i j start printed after before worst less is (text, told, took) more = (
    text ++ more.line,
    subst (λ (ps : List (Bor (List ℕ))). AreTold IsLineOf ps (text ++ more.line) worst)
        (sym (take-suc paths i d less) ∙ ap (λ (n : ℕ). take n paths) (sym is)) (next told more.says more.worse),
    appends_both start printed after text more.line took more.takes,
  )

module _ (IsLineOf : Bor (List ℕ) → List ℕ → Status → Type 0) (paths : List (Bor (List ℕ))) (d : Bor (List ℕ)) where
  -- a beginning of the lines of the first files was printed
  abbrev pub CutOff : (start after : Option (List ℕ)) → Type 0
  CutOff start after = (count : ℕ) × (text : List ℕ) × (worst : Status) × AreTold IsLineOf (take count paths) text worst
      × Begins start after text

  -- a beginning of one line more
  pub cut_next : (i : ℕ) (start printed after : Option (List ℕ)) (before ends : Status) (line : List ℕ)
      → i < length paths
      → UpTo IsLineOf paths d i start printed before → IsLineOf (get_or paths i d) line ends → Begins printed after line
      → CutOff start after
  cut_next i start printed after before ends line less (text, told, took) says begun =
      let (worst, worse) = some_worse before ends in (
        suc i,
        text ++ line,
        worst,
        subst (λ (ps : List (Bor (List ℕ))). AreTold IsLineOf ps (text ++ line) worst) (sym (take-suc paths i d less))
            (next told says worse),
        begins_behind start printed after text line took begun,
      )

-- behind the last file all were told
pub all_told :
    (IsLineOf : Bor (List ℕ) → List ℕ → Status → Type 0) (paths : List (Bor (List ℕ))) (count : ℕ) (text : List ℕ)
    (worst : Status) → length paths ≤ count → AreTold IsLineOf (take count paths) text worst
    → AreTold IsLineOf paths text worst
all_told IsLineOf paths count text worst le told =
    subst (λ (ps : List (Bor (List ℕ))). AreTold IsLineOf ps text worst) (take_all count paths le) told

-- what a task says, by what the function that does it returned
pub said_by : {F T : Type 0} (bytes : T → List ℕ) (holds : F → Option (List ℕ)) (says : Sayings F) (task : TextTask)
    (r : Result T Failure) (text : List ℕ) (ends : Status)
    → IsSaid bytes r text ends
    → IfOk r (λ v. MakesText holds task (bytes v)) → IfErr r (MakesNoText holds says task)
    → Says holds says task text ends
said_by bytes holds says task (Ok v) text ends (is, done) makes fails = inl (done, rw is makes)
said_by bytes holds says task (Err f) text ends (is, of) makes fails = inr (f, fails, sym of, is)

-- a line that was not printed, of a file that a command failed for
pub said_lost : {T : Type 0} (octets : T → List ℕ) (r : Result T Failure) (f : Failure) (name : List ℕ)
    (before after : Option (List ℕ))
    (result : Result Status Failure) → r ≡ Err f
    → IfErr result (λ lost. IsLost lost × Begins before after (line_of name (failure_text f)))
    → IfErr result (λ lost. IsLost lost × ((text : List ℕ) × (ends : Status) × IsSaid octets r text ends
    × Begins before after (line_of name text)))
said_lost octets r f name before after (Ok ends) is lost = lost
said_lost octets r f name before after (Err e) is (lost, begun) =
    (lost, (failure_text f, status_of f, rw is (refl, refl), begun))

-- a text of questions begins with the first line
begins_so : {F : Type 0} (holds : F → Option (List ℕ)) (a : About) (text : List ℕ) → ShowsAbout holds a text
    → (asked : List ℕ) × (text ≡ first_line ++ asked)
begins_so holds (about.Signed buffer) text (trust, file, listed, ((signers, qs, are, is), known)) =
    (question_lines qs, is)
begins_so holds about.Stamps text (trust, token, qs, listed, held, are, is) = (question_lines qs, is)
begins_so holds about.Records text (trust, octets, qs, listed, held, are, is) = (question_lines qs, is)

-- what is printed of a file by `questions`, by what the function that makes it returned
pub headed_by :
    {F T : Type 0} (bytes : T → List ℕ) (holds : F → Option (List ℕ)) (says : Sayings F) (e : QuestionsEach)
    (path : Bor (List ℕ)) (r : Result T Failure) (text : List ℕ) (ends : Status) → IsHeaded bytes r path.now text ends
    → IfOk r (λ v. ShowsAbout holds e.about (bytes v)) → IfErr r (FailsAbout holds says e.trust e.about path)
    → IsAsked holds says e path text ends
headed_by bytes holds says e path (Ok v) text ends (done, heads) shows fails =
    let (asked, is) = begins_so holds e.about (bytes v) shows in
    inl (done, (asked, subst (λ (bs : List ℕ). ShowsAbout holds e.about bs) is shows, heads asked is))
headed_by bytes holds says e path (Err f) text ends (of, is) asks fails = inr (f, fails, sym of, is)

module _ {T : Type 0} (octets : T → List ℕ) (r : Result T Failure) (name : List ℕ) where
  -- what is printed of a file by `questions`, or a beginning of it
  abbrev pub HeadedCut : (before after : Option (List ℕ)) → Type 0
  HeadedCut before after =
      (text : List ℕ) × (ends : Status) × IsHeaded octets r name text ends × Begins before after text

  -- behind the heading what is behind the first line of the text
  headed_is : (v : T) (asked : List ℕ) → r ≡ Ok v → ((xs : List ℕ) → octets v ≡ first_line ++ xs → asked ≡ xs)
      → IsHeaded octets r name (heading_of name ++ asked) status.Done
  headed_is v asked is behind = rw is (refl, λ xs e. ap (λ (bs : List ℕ). heading_of name ++ bs) (behind xs e))

  pub headed_whole : (v : T) (asked : List ℕ) (a b c : Option (List ℕ)) → r ≡ Ok v
      → ((xs : List ℕ) → octets v ≡ first_line ++ xs → asked ≡ xs) → Appends a b (heading_of name) → Appends b c asked
      → (text : List ℕ) × IsHeaded octets r name text status.Done × Appends a c text
  headed_whole v asked a b c is behind took more =
      (heading_of name ++ asked, headed_is v asked is behind, appends_both a b c (heading_of name) asked took more)

  -- the heading, or a beginning of it
  pub headed_part : (v : T) (a b : Option (List ℕ)) → r ≡ Ok v → Begins a b (heading_of name) → HeadedCut a b
  headed_part v a b is begun =
      let asked : List ℕ = drop (length first_line) (octets v) in (
        heading_of name ++ asked,
        status.Done,
        headed_is v asked is (λ xs e. ap (drop (length first_line)) e ∙ drop-append_seam first_line xs),
        begins_front a b (heading_of name) asked begun,
      )

  pub headed_cut : (v : T) (asked : List ℕ) (a b c : Option (List ℕ)) → r ≡ Ok v
      → ((xs : List ℕ) → octets v ≡ first_line ++ xs → asked ≡ xs) → Appends a b (heading_of name) → Begins b c asked
      → HeadedCut a c
  headed_cut v asked a b c is behind took begun = (
    heading_of name ++ asked,
    status.Done,
    headed_is v asked is behind,
    begins_behind a b c (heading_of name) asked took begun,
  )

  pub headed_failure : (f : Failure) (a b : Option (List ℕ)) (result : Result Status Failure) → r ≡ Err f
      → IfErr result (λ lost. IsLost lost × Begins a b (codes "# " ++ line_of name (failure_text f)))
      → IfErr result (λ lost. IsLost lost × HeadedCut a b)
  headed_failure f a b (Ok ends) is lost = lost
  headed_failure f a b (Err e) is (lost, begun) =
      (lost, (codes "# " ++ line_of name (failure_text f), status_of f, rw is (refl, refl), begun))

-- what an answers list vouches for serves for the next file
pub still_answers : {F : Type 0} (holds : F → Option (List ℕ)) (before after : List Asked)
    → ◌≡◌ {A = Asked → Bool} (λ q. is_among after q) (λ q. is_among before q) → IsAnswersOf holds before
    → IsAnswersOf holds after
still_answers holds before after same (text, asked, read, says, vouch) =
    (text, asked, read, says, λ q. ap (λ (f : Asked → Bool). f q) same ∙ vouch q)
