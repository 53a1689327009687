-- What was read of the words of a check, and of the lists that they name.
use Rattle.std.specs.Prelude.{ℕ, List, Option}
use Rattle.std.specs.Borrow.{Bor}
use Rattle.cli_commands.specs.Lists.{IsAnswersOf, IsTrustOf}
use Rattle.cli_evidence.specs.Checking.{AreEndsIn, IsMomentAt}
use Rattle.cli_evidence.specs.declared.stated.Stated.{Stated}

-- the lists are those of files, and the rest is what these words state
pub record IsStated {F : Type 0} (holds : F → Option (List ℕ)) (ends : List (Bor (List ℕ)))
    (at : Option (Bor (List ℕ))) (stated : Stated) : Type 0 where
  pub trust : IsTrustOf holds stated.trust
  pub answers : IsAnswersOf holds stated.answers
  pub its_ends : AreEndsIn ends stated.ends.items
  pub its_at : IsMomentAt at stated.at
