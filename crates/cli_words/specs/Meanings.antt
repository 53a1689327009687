-- What the words ask for, by what the parser found of them.
use Rattle.std.specs.Prelude.{◌≡◌, ℕ, List, Option, Some}
use Rattle.clap.specs.declared.parser.matches.Found.{Found}
use Rattle.cli_words.specs.Groups.{evidence_group_of, group_of}
use Rattle.cli_words.specs.Records.{IsEvidenceTaskIn, evidence_command_of}
use Rattle.cli_words.specs.Several.{IsManyIn, each_command_of}
use Rattle.cli_words.specs.Words.{IsTaskIn, command_of}
use Rattle.cli_words.specs.declared.grammar.Group.{Group}
use Rattle.cli_words.specs.declared.meaning.Meaning.{Meaning}
use Rattle.cli_words.specs.declared.meaning.Meaning.TheVariants as meaning

-- the command asks for this; none asks for help
abbrev pub AsksFor : (command : Option (List ℕ)) → Meaning → Type 0
AsksFor command (meaning.Task task) = command ≡ Some (command_of task)
AsksFor command (meaning.Evidence task) = command ≡ Some (evidence_command_of task)
AsksFor command (meaning.Many many) = command ≡ Some (each_command_of many.each)
AsksFor command (meaning.Help text) = ⊥

-- its values are those of the arguments of their names, and it belongs to this group of commands
abbrev pub IsMeaningIn : Group → Found → Meaning → Type 0
IsMeaningIn group given (meaning.Task task) = IsTaskIn given task × (group_of task ≡ group)
IsMeaningIn group given (meaning.Evidence task) = IsEvidenceTaskIn given task × (evidence_group_of task ≡ group)
IsMeaningIn group given (meaning.Many many) = IsManyIn group given many
IsMeaningIn group given (meaning.Help text) = ⊥
