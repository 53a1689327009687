-- How often what the words ask for would read standard input.
use Rattle.std.specs.Prelude.{◌⊎◌, ◌<◌, ◌≤◌, ℕ, Bool, List, [], ◌∷◌, ◌++◌, Option, None, Some, length, map, codes}
use Rattle.std.specs.Borrow.{Bor}
use Rattle.std.specs.List.{filter}
use Rattle.std.specs.Str.{bytes_eq}
use Rattle.cli_tasks.specs.declared.task.Each.{Each}
use Rattle.cli_tasks.specs.declared.task.Each.TheVariants as each
use Rattle.cli_tasks.specs.declared.task.EvidenceTask.{EvidenceTask}
use Rattle.cli_tasks.specs.declared.task.EvidenceTask.TheVariants as evidence
use Rattle.cli_tasks.specs.declared.task.Many.{Many}
use Rattle.cli_tasks.specs.declared.task.Several.{Several}
use Rattle.cli_tasks.specs.declared.task.Several.TheVariants as several
use Rattle.cli_tasks.specs.declared.task.Task.{Task}
use Rattle.cli_tasks.specs.declared.task.Task.TheVariants as task
use Rattle.cli_tasks.specs.declared.task.TextTask.{TextTask}
use Rattle.cli_tasks.specs.declared.task.TextTask.TheVariants as text

-- the path names standard input
abbrev pub is_input : List ℕ → Bool
is_input path = bytes_eq path (codes "-")

-- how many of the paths name it
abbrev pub inputs_among : List (List ℕ) → ℕ
inputs_among paths = length (filter is_input paths)

-- the paths, and that of a content, if one is handed in
abbrev pub with_content : Option (Bor (List ℕ)) → List (List ℕ) → List (List ℕ)
with_content None paths = paths
with_content (Some path) paths = path.now ∷ paths

-- the paths of the files that a task reads, of those whose text is made before it is printed; the others read at most
-- one
abbrev pub text_paths : TextTask → List (List ℕ)
text_paths (text.Check words) =
    with_content words.content (words.trust.now ∷ words.answers.now ∷ words.file.now ∷ [])
text_paths (text.Fit words) = with_content words.content (words.file.now ∷ [])
text_paths (text.Match words) = words.request.now ∷ words.response.now ∷ []
text_paths (text.Compare words) = words.first_file.now ∷ words.second_file.now ∷ []
text_paths (text.Attach words) = words.token.now ∷ words.file.now ∷ []
text_paths (text.CheckStamp words) =
    words.trust.now ∷ words.answers.now ∷ words.stamp.now ∷ words.data.now ∷ []
text_paths (text.AskStamp words) = words.trust.now ∷ words.stamp.now ∷ []
text_paths _ = []

-- the same for any task
abbrev pub task_paths : Task → List (List ℕ)
task_paths (task.Questions words) = words.trust.now ∷ words.file.now ∷ []
task_paths (task.Text t) = text_paths t

-- the same for a task about an evidence record
abbrev pub evidence_paths : EvidenceTask → List (List ℕ)
evidence_paths (evidence.Check words) = words.trust.now ∷ words.answers.now ∷ words.record.now
    ∷ map (λ s. s.now) words.data.items
evidence_paths (evidence.CheckUnder words) = with_content words.content
    (words.trust.now ∷ words.answers.now ∷ words.record.now ∷ words.file.now ∷ [])
evidence_paths (evidence.Questions words) = words.trust.now ∷ words.record.now ∷ []
evidence_paths (evidence.Request words) = words.sums.now ∷ []
evidence_paths (evidence.Make words) = words.token.now ∷ words.sums.now ∷ []
evidence_paths (evidence.RequestRenewal words) = map (λ s. s.now) words.records.items
evidence_paths (evidence.Renew words) = words.token.now ∷ map (λ s. s.now) words.records.items
evidence_paths (evidence.RequestRehash words) = words.sums.now ∷ []
evidence_paths (evidence.Rehash words) = words.token.now ∷ words.sums.now ∷ []

-- the content that is read for each of several files, if one is handed in
abbrev pub content_of : Each → Option (Bor (List ℕ))
content_of (each.Check words) = words.content
content_of (each.Fit words) = words.content
content_of (each.Questions words) = None

-- the paths of the lists that are read once for several files
abbrev pub lists_of : Each → List (List ℕ)
lists_of (each.Check words) = words.trust.now ∷ words.answers.now ∷ []
lists_of (each.Fit words) = []
lists_of (each.Questions words) = words.trust.now ∷ []

-- the paths of the files, or that of the list of them, in which `-` is a file of that name
abbrev pub several_paths : Several → List (List ℕ)
several_paths (several.Words paths) = map (λ s. s.now) paths.items
several_paths (several.Listed words) = words.list.now ∷ []

-- standard input is the content, which is read for each file, or two of the others
abbrev pub IsReadAgain : Many → Type 0
IsReadAgain many = (1 ≤ inputs_among (with_content (content_of many.each) []))
    ⊎ (1 < inputs_among (lists_of many.each ++ several_paths many.files))
