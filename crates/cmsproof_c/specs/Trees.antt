-- What a call says of a hash tree that is held, or is not.
use Rattle.std.specs.Prelude.{ℕ, List, Option, Some, None}
use Rattle.evidence_trees.specs.HashTrees.{HashTree}
use Rattle.cli_failures.specs.declared.failure.Failure.{Failure}
use Rattle.library_answers.specs.declared.answer.Answer.{Answer}
use Rattle.library_answers.specs.Failures.{IsMade}
use Rattle.library_records.specs.Trees.{IsToldOf}
use Rattle.cmsproof_c.specs.Held.{SaysNoList}

-- with a tree its root; without one nothing
abbrev pub TellsRoot : (held : Option HashTree) → (said : Answer)
    (status : ℕ) (before : List ℕ) (size : ℕ) (after : List ℕ) → Type 0
TellsRoot (Some tree) said status before size after = IsMade tree.root said status before size after
TellsRoot None said status before size after = SaysNoList said status before size after

-- with a tree octets that are made by it, or why there are none; without one nothing
abbrev pub TellsBy : (held : Option HashTree) → (Is : HashTree → List ℕ → Type 0) → (Not : HashTree → Failure → Type 0)
    → (said : Answer) (status : ℕ) (before : List ℕ) (size : ℕ) (after : List ℕ) → Type 0
TellsBy (Some tree) Is Not said status before size after = IsToldOf (Is tree) (Not tree) said status before size after
TellsBy None Is Not said status before size after = SaysNoList said status before size after
