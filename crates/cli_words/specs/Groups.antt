-- The groups of commands, and which of them what a command is asked to do belongs to.
use Rattle.std.specs.Prelude.{◌≡◌, ◌≢◌, ℕ, List, codes}
use Rattle.cli_tasks.specs.declared.task.About.{About}
use Rattle.cli_tasks.specs.declared.task.About.TheVariants as about
use Rattle.cli_tasks.specs.declared.task.Each.{Each}
use Rattle.cli_tasks.specs.declared.task.Each.TheVariants as each
use Rattle.cli_tasks.specs.declared.task.EvidenceTask.{EvidenceTask}
use Rattle.cli_tasks.specs.declared.task.EvidenceTask.TheVariants as evidence
use Rattle.cli_tasks.specs.declared.task.Task.{Task}
use Rattle.cli_tasks.specs.declared.task.Task.TheVariants as task
use Rattle.cli_tasks.specs.declared.task.TextTask.{TextTask}
use Rattle.cli_tasks.specs.declared.task.TextTask.TheVariants as text
use Rattle.cli_words.specs.declared.grammar.Group.{Group}
use Rattle.cli_words.specs.declared.grammar.Group.TheVariants as group

-- the word behind the program's name names this group; any other word is one of the program's own commands, or none
abbrev pub IsNamed : Group → (word : List ℕ) → Type 0
IsNamed group.Stamps word = word ≡ codes "stamp"
IsNamed group.Evidence word = word ≡ codes "evidence"
IsNamed group.Program word = (word ≢ codes "stamp") × (word ≢ codes "evidence")

-- the name of the places of the files, in this group of commands
abbrev pub place_of : Group → List ℕ
place_of group.Program = codes "FILE"
place_of group.Stamps = codes "STAMP"
place_of group.Evidence = codes "RECORD"

-- the group that a task whose text is made before it is printed belongs to
abbrev pub text_group_of : TextTask → Group
text_group_of (text.CheckStamp words) = group.Stamps
text_group_of (text.AskStamp words) = group.Stamps
text_group_of _ = group.Program

-- the same for any task
abbrev pub group_of : Task → Group
group_of (task.Questions words) = group.Program
group_of (task.Text t) = text_group_of t

-- the same for a task about an evidence record: a signed file is checked under one by the program's own `check`
abbrev pub evidence_group_of : EvidenceTask → Group
evidence_group_of (evidence.CheckUnder words) = group.Program
evidence_group_of _ = group.Evidence

-- the same for what the files hold whose questions are printed
abbrev pub about_group_of : About → Group
about_group_of (about.Signed buffer) = group.Program
about_group_of about.Stamps = group.Stamps
about_group_of about.Records = group.Evidence

-- the same for what a command asks of each of several files
abbrev pub each_group_of : Each → Group
each_group_of (each.Questions words) = about_group_of words.about
each_group_of _ = group.Program
