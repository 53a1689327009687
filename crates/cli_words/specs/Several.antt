-- The files that a command takes if it takes several, and what it asks of each.
use Rattle.std.specs.Prelude.{◌≡◌, ℕ, List, Some, map, option_map, codes}
use Rattle.clap.specs.Matches.{first_value, matched_of, raw_values}
use Rattle.clap.specs.declared.parser.matches.Found.{Found}
use Rattle.cli_tasks.specs.declared.task.About.{About}
use Rattle.cli_tasks.specs.declared.task.About.TheVariants as about
use Rattle.cli_tasks.specs.declared.task.CheckEach.{CheckEach}
use Rattle.cli_tasks.specs.declared.task.Each.{Each}
use Rattle.cli_tasks.specs.declared.task.Each.TheVariants as each
use Rattle.cli_tasks.specs.declared.task.FitEach.{FitEach}
use Rattle.cli_tasks.specs.declared.task.Many.{Many}
use Rattle.cli_tasks.specs.declared.task.QuestionsEach.{QuestionsEach}
use Rattle.cli_tasks.specs.declared.task.Several.{Several}
use Rattle.cli_tasks.specs.declared.task.Several.TheVariants as several
use Rattle.cli_words.specs.Groups.{each_group_of, place_of}
use Rattle.cli_words.specs.Words.{AreCheckValuesIn, IsBufferIn, IsFlagIn}
use Rattle.cli_words.specs.declared.grammar.Group.{Group}

-- the files are those that the words name in the places of this name, in their order, or those of the list that the
-- words name
abbrev pub IsSeveralIn : (place : List ℕ) → Found → Several → Type 0
IsSeveralIn place given (several.Words paths) = option_map raw_values (matched_of given place)
    ≡ Some (map (λ p. p.now) paths.items)
IsSeveralIn place given (several.Listed words) = (first_value given (codes "files-from") ≡ Some words.list.now)
    × IsFlagIn given (codes "null") words.null

-- the values that each file is checked with are those of the arguments of their names, and there is no record
abbrev pub IsCheckEachIn : Found → CheckEach → Type 0
IsCheckEachIn given words = AreCheckValuesIn given words.trust words.answers words.content words.sha1 words.buffer

-- the same for those that each file is compared with
pub record IsFitEachIn (given : Found) (words : FitEach) : Type 0 where
  pub content : option_map (λ s. s.now) words.content ≡ first_value given (codes "content")
  pub sha1 : IsFlagIn given (codes "sha1") words.sha1

-- the same for what the files hold: how many octets of a SignedData may be kept
abbrev pub IsAboutIn : Found → About → Type 0
IsAboutIn given (about.Signed buffer) = IsBufferIn given buffer
IsAboutIn given about.Stamps = Unit {0}
IsAboutIn given about.Records = Unit {0}

-- the same for who is trusted, whatever the file is
pub record IsQuestionsEachIn (given : Found) (words : QuestionsEach) : Type 0 where
  pub trust : first_value given (codes "trust") ≡ Some words.trust.now
  pub about : IsAboutIn given words.about

-- the same for what a command asks of each file
abbrev pub IsEachIn : Found → Each → Type 0
IsEachIn given (each.Check words) = IsCheckEachIn given words
IsEachIn given (each.Fit words) = IsFitEachIn given words
IsEachIn given (each.Questions words) = IsQuestionsEachIn given words

-- the same for what a command asks of several files, in this group of commands
abbrev pub IsManyIn : Group → Found → Many → Type 0
IsManyIn group given many = IsEachIn given many.each × IsSeveralIn (place_of group) given many.files
    × (each_group_of many.each ≡ group)

-- the command that asks this of each file
abbrev pub each_command_of : Each → List ℕ
each_command_of (each.Check words) = codes "check"
each_command_of (each.Fit words) = codes "fit"
each_command_of (each.Questions words) = codes "questions"
