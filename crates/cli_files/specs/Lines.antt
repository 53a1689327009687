-- What a command prints that is asked of several files, and how it ends. `holds` is what an open file holds, if that is
-- known, and `says` what it may say of itself. Begin here.
--
-- `check` and `fit` print a line for each file, in the order of the files: its name, a colon and a space, and what the
-- command for that file alone says. `questions`, `stamp questions` and `evidence questions` print one text: its first
-- line once, and for each file a comment with its name and the questions that the command for that file alone prints,
-- or a comment with the line of a file that fails. The command ends with the worst of the statuses with which the
-- commands for each file alone end. So it goes on after a file that fails. If a list fails, its line stands alone. If
-- the output fails, or memory runs out, the command stops behind a beginning of that.
use Rattle.std.specs.Prelude.{◌≡◌, ◌≤◌, ◌⊎◌, ℕ, List, [], ◌∷◌, ◌++◌, codes, map, take, Option, Result, MatchResult}
use Rattle.std.specs.Borrow.{Bor}
use Rattle.std.specs.Io.KnownBytes.{Appends, Keeps}
use Rattle.trust_lists.specs.Entries.{EntryValue}
use Rattle.cli_failures.specs.declared.failure.Failure.{Failure}
use Rattle.cli_failures.specs.declared.status.Status.{Status}
use Rattle.cli_failures.specs.declared.status.Status.TheVariants as status
use Rattle.cli_failures.specs.Failures.{failure_text, status_of}
use Rattle.cli_failures.specs.Files.{IsHeld}
use Rattle.cli_failures.specs.Output.{Begins, IsLost}
use Rattle.cli_failures.specs.Statuses.{code_of}
use Rattle.cli_tasks.specs.declared.task.About.{About}
use Rattle.cli_tasks.specs.declared.task.About.TheVariants as about
use Rattle.cli_tasks.specs.declared.task.CheckEach.{CheckEach}
use Rattle.cli_tasks.specs.declared.task.Each.{Each}
use Rattle.cli_tasks.specs.declared.task.Each.TheVariants as each
use Rattle.cli_tasks.specs.declared.task.FitEach.{FitEach}
use Rattle.cli_tasks.specs.declared.task.Many.{Many}
use Rattle.cli_tasks.specs.declared.task.QuestionsEach.{QuestionsEach}
use Rattle.cli_tasks.specs.declared.task.QuestionsWords.{QuestionsWords}
use Rattle.cli_tasks.specs.declared.task.Several.{Several}
use Rattle.cli_tasks.specs.declared.task.Several.TheVariants as several
use Rattle.cli_tasks.specs.declared.task.TextTask.{TextTask}
use Rattle.cli_tasks.specs.declared.task.TextTask.TheVariants as text
use Rattle.cli_commands.specs.Asking.{AsksNot, ShowsQuestions}
use Rattle.cli_commands.specs.Lists.{IsFailureOfAnswers, IsFailureOfTrust, IsTrustOf}
use Rattle.cli_commands.specs.Rereading.{Sayings}
use Rattle.cli_commands.specs.Stamping.{HasNoStampQuestions, ShowsStampQuestions}
use Rattle.cli_commands.specs.Tasks.{MakesText, MakesNoText}
use Rattle.cli_evidence.specs.Questions.{HasNoRecordQuestions, ShowsRecordQuestions}
use Rattle.cli_files.specs.Names.{heading_of, line_of}
use Rattle.cli_files.specs.Paths.{ListsNone, end_of, path_of_name, names_of}

-- the check of one of the files alone
abbrev pub check_of : CheckEach → (path : Bor (List ℕ)) → TextTask
check_of e path = text.Check (record {
  trust = e.trust;
  answers = e.answers;
  content = e.content;
  sha1 = e.sha1;
  buffer = e.buffer;
  file = path;
})

-- the same for `fit`
abbrev pub fit_of : FitEach → (path : Bor (List ℕ)) → TextTask
fit_of e path = text.Fit (record { file = path; content = e.content; sha1 = e.sha1 })

-- the questions of one of the files alone, of which so many octets may be kept, if it holds a SignedData
abbrev pub questions_of : (trust : Bor (List ℕ)) → (buffer : Option ℕ) → (path : Bor (List ℕ)) → QuestionsWords
questions_of trust buffer path = record { trust = trust; buffer = buffer; file = path }

-- the command for that file alone prints this
abbrev pub ShowsAbout : {F : Type 0} → (holds : F → Option (List ℕ)) → About → (text : List ℕ) → Type 0
ShowsAbout holds (about.Signed buffer) text = ShowsQuestions holds text
ShowsAbout holds about.Stamps text = ShowsStampQuestions holds text
ShowsAbout holds about.Records text = ShowsRecordQuestions holds text

-- or fails so, once the list was read
abbrev pub FailsAbout : {F : Type 0} → (holds : F → Option (List ℕ)) → (says : Sayings F) → (trust : Bor (List ℕ))
    → About → (path : Bor (List ℕ)) → Failure → Type 0
FailsAbout holds says trust (about.Signed buffer) path f = AsksNot holds says (questions_of trust buffer path) f
FailsAbout holds says trust about.Stamps path f = HasNoStampQuestions holds path f
FailsAbout holds says trust about.Records path f = HasNoRecordQuestions holds path f

-- what a task says, and how it ends: it is done and gives a text, or it fails
abbrev pub Says : {F : Type 0} → (holds : F → Option (List ℕ)) → (says : Sayings F) → TextTask → (said : List ℕ)
    → Status → Type 0
Says holds says task said ends = ((ends ≡ status.Done) × MakesText holds task said)
    ⊎ ((f : Failure) × MakesNoText holds says task f × (status_of f ≡ ends) × (said ≡ failure_text f))

-- the line of a file, of which this task says it, and how that task ends
abbrev pub IsLine : {F : Type 0} → (holds : F → Option (List ℕ)) → (says : Sayings F) → (task : Bor (List ℕ) → TextTask)
    → (path : Bor (List ℕ)) → (line : List ℕ) → Status → Type 0
IsLine holds says task path line ends =
    (said : List ℕ) × Says holds says (task path) said ends × (line ≡ line_of path.now said)

-- the first line of the text of questions
abbrev pub first_line : List ℕ
first_line = codes "cmsproof questions 1" ++ (10 ∷ [])

-- what is printed of a file by `questions`, and how the command for that file alone ends: a comment with its name, and
-- what that command prints behind the first line; or a comment with the line of a file that fails
abbrev pub IsAsked : {F : Type 0} → (holds : F → Option (List ℕ)) → (says : Sayings F) → QuestionsEach
    → (path : Bor (List ℕ))
    → (text : List ℕ) → Status → Type 0
IsAsked holds says e path text ends =
    ((ends ≡ status.Done) × ((asked : List ℕ) × ShowsAbout holds e.about (first_line ++ asked)
    × (text ≡ heading_of path.now ++ asked)))
    ⊎ ((f : Failure) × FailsAbout holds says e.trust e.about path f × (status_of f ≡ ends)
    × (text ≡ codes "# " ++ line_of path.now (failure_text f)))

-- the worse of two statuses: one of the two, and none is greater
abbrev pub IsWorse : (one other worse : Status) → Type 0
IsWorse one other worse = (code_of one ≤ code_of worse) × (code_of other ≤ code_of worse)
    × ((worse ≡ one) ⊎ (worse ≡ other))

-- what is printed of files, one after the other, and the worst status: of no file nothing, and of one file more its
-- line behind the others
pub data AreTold (IsLineOf : (path : Bor (List ℕ)) → (line : List ℕ) → Status → Type 0)
    : List (Bor (List ℕ)) → (text : List ℕ) → (worst : Status) → Type 0 where
  none : AreTold IsLineOf [] [] status.Done
  next : {paths : List (Bor (List ℕ))} {path : Bor (List ℕ)} {text line : List ℕ} {before ends worst : Status}
      → AreTold IsLineOf paths text before → IsLineOf path line ends → IsWorse before ends worst
      → AreTold IsLineOf (paths ++ (path ∷ [])) (text ++ line) worst

-- the same for what a command asks of each file
abbrev pub AreAll : {F : Type 0} → (holds : F → Option (List ℕ)) → (says : Sayings F) → Each
    → (paths : List (Bor (List ℕ)))
    → (text : List ℕ) → Status → Type 0
AreAll holds says (each.Check e) paths text worst = AreTold (IsLine holds says (check_of e)) paths text worst
AreAll holds says (each.Fit e) paths text worst = AreTold (IsLine holds says (fit_of e)) paths text worst
AreAll holds says (each.Questions e) paths text worst =
    (trust : List EntryValue) × (asked : List ℕ) × IsTrustOf holds trust
    × AreTold (IsAsked holds says e) paths asked worst × (text ≡ first_line ++ asked)

-- a list that is read for all files fails
abbrev pub IsFailureOfList : {F : Type 0} → (holds : F → Option (List ℕ)) → Each → Failure → Type 0
IsFailureOfList holds (each.Check e) f = IsFailureOfTrust holds e.trust f ⊎ IsFailureOfAnswers holds e.answers f
IsFailureOfList holds (each.Fit e) f = ⊥
IsFailureOfList holds (each.Questions e) f = IsFailureOfTrust holds e.trust f

-- a writer took a beginning of what is printed of the first of these files
abbrev pub IsCut : {F : Type 0} → (holds : F → Option (List ℕ)) → (says : Sayings F) → Each
    → (paths : List (Bor (List ℕ)))
    → (before after : Option (List ℕ)) → Type 0
IsCut holds says e paths before after = (count : ℕ) × (text : List ℕ) × (worst : Status)
    × AreAll holds says e (take count paths) text worst × Begins before after text

-- a writer took all that is printed of these files, if what it takes is known, and this is the worst status
abbrev pub TellsAll : {F : Type 0} → (holds : F → Option (List ℕ)) → (says : Sayings F) → Each
    → (paths : List (Bor (List ℕ))) → (before after : Option (List ℕ)) → Status → Type 0
TellsAll holds says e paths before after worst = (text : List ℕ) × AreAll holds says e paths text worst
    × Appends before after text

-- not all of these files are told: a list failed, before whose line nothing was printed, or a line was not printed, and
-- a writer took a beginning. `contents` is what a writer took, if that is known
abbrev pub TellsNotAll : {F W : Type 0} → (holds : F → Option (List ℕ)) → (says : Sayings F)
    → (contents : W → Option (List ℕ)) → Each → (paths : List (Bor (List ℕ))) → (before after : W) → Failure → Type 0
TellsNotAll holds says contents e paths before after f = (IsFailureOfList holds e f × (after ≡ before))
    ⊎ (IsLost f × IsCut holds says e paths (contents before) (contents after))

-- a writer took all that is printed of these files, or the line of a list that fails, and the command ends so, if what
-- the writer takes is known
abbrev pub TellsFiles : {F : Type 0} → (holds : F → Option (List ℕ)) → (says : Sayings F) → Each
    → (paths : List (Bor (List ℕ)))
    → Status → (before after : Option (List ℕ)) → Type 0
TellsFiles holds says e paths ends before after = TellsAll holds says e paths before after ends
    ⊎ ((f : Failure) × IsFailureOfList holds e f × (status_of f ≡ ends) × (ends ≡ status.Malformed)
    × Appends before after (failure_text f))

-- a command stopped: a writer took a beginning of what is printed of the first files, or of the line of a list that
-- fails
abbrev pub Stops : {F : Type 0} → (holds : F → Option (List ℕ)) → (says : Sayings F) → Each
    → (paths : List (Bor (List ℕ)))
    → (before after : Option (List ℕ)) → Type 0
Stops holds says e paths before after = IsCut holds says e paths before after
    ⊎ ((f : Failure) × IsFailureOfList holds e f × Begins before after (failure_text f))

-- what is printed of these files, and how the command ends: it is told, or the command failed and stopped
abbrev pub EndsFiles : {F : Type 0} → (holds : F → Option (List ℕ)) → (says : Sayings F) → Each
    → (paths : List (Bor (List ℕ)))
    → Status → (before after : Option (List ℕ)) → Type 0
EndsFiles holds says e paths ends before after = TellsFiles holds says e paths ends before after
    ⊎ ((ends ≡ status.Failed) × Stops holds says e paths before after)

-- these are the files: those that the words name, or those that a file names, which names some, all in UTF-8
abbrev pub AreFiles : {F : Type 0} → (holds : F → Option (List ℕ)) → Several → List (Bor (List ℕ)) → Type 0
AreFiles holds (several.Words words) paths = paths ≡ words.items
AreFiles holds (several.Listed words) paths = (text : List ℕ) × IsHeld holds text
    × ¬ (ListsNone (end_of words.null) text)
    × (map (λ p. p.now) paths ≡ map path_of_name (names_of (end_of words.null) text))

-- the files are in a list that names none, or in which a name isn't UTF-8
abbrev pub AreUnlisted : {F : Type 0} → (holds : F → Option (List ℕ)) → Several → Type 0
AreUnlisted holds (several.Words words) = ⊥
AreUnlisted holds (several.Listed words) = (text : List ℕ) × IsHeld holds text × ListsNone (end_of words.null) text

-- a writer took all that is printed of the files that a command is asked of, as TellsFiles says
abbrev pub TellsMany : {F : Type 0} → (holds : F → Option (List ℕ)) → (says : Sayings F) → Many → Status
    → (before after : Option (List ℕ)) → Type 0
TellsMany holds says many ends before after = (paths : List (Bor (List ℕ))) × AreFiles holds many.files paths
    × TellsFiles holds says many.each paths ends before after

-- the same for the files that a command is asked of, or nothing was printed, since the list of the files failed
abbrev pub EndsMany : {F : Type 0} → (holds : F → Option (List ℕ)) → (says : Sayings F) → Each → Several → Status
    → (before after : Option (List ℕ)) → Type 0
EndsMany holds says e files ends before after = ((paths : List (Bor (List ℕ))) × AreFiles holds files paths
    × EndsFiles holds says e paths ends before after) ⊎ ((ends ≡ status.Failed) × Keeps before after)

-- what a function returned for a file says so, and the command for the file ends so
abbrev pub IsSaid : {T : Type 0} → (octets : T → List ℕ) → Result T Failure → (text : List ℕ) → Status → Type 0
IsSaid octets r text ends = MatchResult r (λ v. (text ≡ octets v) × (ends ≡ status.Done))
    (λ f. (text ≡ failure_text f) × (ends ≡ status_of f))

-- the same of what is printed by `questions`: of a text of questions what is behind its first line
abbrev pub IsHeaded : {T : Type 0} → (octets : T → List ℕ) → Result T Failure → (name text : List ℕ) → Status → Type 0
IsHeaded octets r name text ends = MatchResult r (λ v. (ends ≡ status.Done) × ((asked : List ℕ)
    → octets v ≡ first_line ++ asked → text ≡ heading_of name ++ asked))
    (λ f. (ends ≡ status_of f) × (text ≡ codes "# " ++ line_of name (failure_text f)))
