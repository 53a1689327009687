-- What follows of a tree that is held.
use Rattle.std.proofs.Common.{◌≡◌, ℕ, List, Option, Some, subst}
use Rattle.evidence_trees.specs.HashTrees.{HashTree}
use Rattle.cli_failures.specs.declared.failure.Failure.{Failure}
use Rattle.library_answers.specs.declared.answer.Answer.{Answer}
use Rattle.library_records.specs.Trees.{IsToldOf}
use Rattle.cmsproof_c.specs.Trees.{TellsBy}

-- what is told by a tree that was taken out of its handle is told by what the handle held
pub tells_by : (Is : HashTree → List ℕ → Type 0) (Not : HashTree → Failure → Type 0) (said : Answer) (status : ℕ)
    (before : List ℕ) (size : ℕ) (after : List ℕ) (held : Option HashTree) (taken its : HashTree) → Some taken ≡ held
    → its ≡ taken → IsToldOf (Is its) (Not its) said status before size after
    → TellsBy held Is Not said status before size after
tells_by Is Not said status before size after held taken its was same told =
    subst (λ (h : Option HashTree). TellsBy h Is Not said status before size after) was
    (subst (λ (t : HashTree). IsToldOf (Is t) (Not t) said status before size after) same told)
