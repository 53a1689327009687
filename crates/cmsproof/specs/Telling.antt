-- What the program prints once it has done what its words ask for. `holds` is what an open file holds, and `contents`
-- what it has taken, if that is known, and `says` what it may say of itself.
use Rattle.std.specs.Prelude.{◌≡◌, ◌⊎◌, ℕ, List, Option}
use Rattle.std.specs.Borrow.{Bor}
use Rattle.std.specs.String.{string_bytes}
use Rattle.cli_failures.specs.declared.status.Status.TheVariants as status
use Rattle.cli_failures.specs.Output.{Begins}
use Rattle.cli_tasks.specs.declared.task.Many.{Many}
use Rattle.cli_words.specs.declared.meaning.Meaning.{Meaning}
use Rattle.cli_words.specs.declared.meaning.Meaning.TheVariants as meaning
use Rattle.cli_commands.specs.Rereading.{Sayings}
use Rattle.cli_commands.specs.Tasks.{IsDoneBy, StopsBy}
use Rattle.cli_commands.specs.Telling.{TellsMalformed, TellsRefusal}
use Rattle.cli_evidence.specs.Tasks as evidence
use Rattle.cli_files.specs.Lines.{AreAll, AreFiles, EndsMany, TellsMany}

-- of a task what its command prints, of what is asked of several files the lines of all, and of help its text
abbrev pub IsToldBy : {F : Type 0} → (holds : F → Option (List ℕ)) → (says : Sayings F) → Meaning → (text : List ℕ)
    → Type 0
IsToldBy holds says (meaning.Task task) text = IsDoneBy holds task text
IsToldBy holds says (meaning.Many many) text = (paths : List (Bor (List ℕ))) × AreFiles holds many.files paths
    × AreAll holds says many.each paths text status.Done
IsToldBy holds says (meaning.Evidence task) text = evidence.IsDoneBy holds task text
IsToldBy holds says (meaning.Help help) text = text ≡ string_bytes help

-- a command failed: a writer took a beginning of what is printed of a task, of several files or of help, if what it
-- takes is known
abbrev pub IsStoppedBy : {F : Type 0} → (holds contents : F → Option (List ℕ)) → (says : Sayings F) → Meaning
    → (before after : Option (List ℕ)) → Type 0
IsStoppedBy holds contents says (meaning.Task task) before after = StopsBy holds says task before after
IsStoppedBy holds contents says (meaning.Many many) before after =
    EndsMany holds says many.each many.files status.Failed before after
IsStoppedBy holds contents says (meaning.Evidence task) before after =
    evidence.StopsBy holds contents task before after
IsStoppedBy holds contents says (meaning.Help help) before after = Begins before after (string_bytes help)

-- a writer took the line of a file that isn't of its form, or the lines of several of which this is the worst that is
-- said, if what it takes is known
abbrev pub TellsFaults : {F : Type 0} → (holds : F → Option (List ℕ)) → (says : Sayings F)
    → (before after : Option (List ℕ)) → Type 0
TellsFaults holds says before after = TellsMalformed before after
    ⊎ ((many : Many) × TellsMany holds says many status.Malformed before after)

-- the same of a rule that refuses a file
abbrev pub TellsRefusals : {F : Type 0} → (holds : F → Option (List ℕ)) → (says : Sayings F)
    → (before after : Option (List ℕ)) → Type 0
TellsRefusals holds says before after = TellsRefusal before after
    ⊎ ((many : Many) × TellsMany holds says many status.Refused before after)
