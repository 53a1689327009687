-- What `fit` prints for a file and its content. `holds` is what an open file holds, if that is known.
use Rattle.std.specs.Prelude.{◌≡◌, ◌⊎◌, ℕ, List, [], ◌∷◌, ◌++◌, Option, Result, Ok, Err, IsSomeAnd, is_some, codes}
use Rattle.std.specs.Fmt.{decimal}
use Rattle.der_core.specs.Faults.{Faults}
use Rattle.der_core.specs.Grammar.{file}
use Rattle.der_grammar.specs.Table.{content_info}
use Rattle.check_fit.specs.declared.rules.Refused.{Refused}
use Rattle.check_fit.specs.FileFitting.{FitsSigned}
use Rattle.check_fit.specs.Fitting.{with_sha1}
use Rattle.cli_tasks.specs.declared.task.FitWords.{FitWords}
use Rattle.cli_failures.specs.declared.failure.Failure.{Failure}
use Rattle.cli_failures.specs.declared.failure.Failure.TheVariants as failure
use Rattle.cli_failures.specs.Files.{IsFailureToOpen, IsFailureToRead, IsHeld}
use Rattle.cli_commands.specs.Judging.{JudgesFile, IsContentHeld}

-- the line if this many signers fit
abbrev pub fits_line : ℕ → List ℕ
fits_line count = codes "fits " ++ decimal count ++ (10 ∷ [])

-- the text is the line of a verdict
abbrev pub TellsFits : Result ℕ Refused → (text : List ℕ) → Type 0
TellsFits (Ok count) text = text ≡ fits_line count
TellsFits (Err why) text = ⊥

-- the failure is that of a verdict: it was a refusal, or memory ran out for the line
abbrev pub TellsUnfit : Result ℕ Refused → Failure → Type 0
TellsUnfit (Ok count) f = f ≡ failure.Memory
TellsUnfit (Err why) f = f ≡ failure.Refused why

-- the verdict about the files that the words name; the first has these octets
abbrev pub JudgesWords : {F : Type 0} → (holds : F → Option (List ℕ)) → FitWords → (octets : List ℕ)
    → Result ℕ Refused → Type 0
JudgesWords holds words octets verdict = JudgesFile (Faults (file content_info))
    (FitsSigned (with_sha1 words.sha1)) (IsContentHeld holds) (is_some words.content) octets verdict

-- the text says that all signers fit
abbrev pub ShowsFit : {F : Type 0} → (holds : F → Option (List ℕ)) → FitWords → (text : List ℕ) → Type 0
ShowsFit holds words text = (octets : List ℕ) × (count : ℕ) × IsHeld holds octets
    × JudgesWords holds words octets (Ok count) × (text ≡ fits_line count)

-- a file can't be opened or read, memory runs out, or a rule refuses
abbrev pub ShowsUnfit : {F : Type 0} → (holds : F → Option (List ℕ)) → FitWords → Failure → Type 0
ShowsUnfit holds words f = IsSomeAnd words.content (λ path. IsFailureToOpen path f)
    ⊎ (IsFailureToRead words.file f ⊎ ((octets : List ℕ) × (why : Refused) × IsHeld holds octets
    × JudgesWords holds words octets (Err why) × (f ≡ failure.Refused why)))
