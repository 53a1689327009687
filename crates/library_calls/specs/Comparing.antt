-- What the call says that compares two signatures.
use Rattle.std.specs.Prelude.{◌≡◌, ◌⊎◌, ℕ, List, [], ◌∷◌, ◌++◌, codes}
use Rattle.cms_compare.specs.declared.compared.Compared.{Compared}
use Rattle.cms_compare.specs.declared.compared.Compared.TheVariants as compared
use Rattle.cms_compare.specs.declared.fault.CompareFault.{CompareFault}
use Rattle.cms_compare.specs.Comparing.{Compares, RefusesToCompare}
use Rattle.cli_failures.specs.declared.failure.Failure.TheVariants as failure
use Rattle.cli_failures.specs.Failures.{failure_text}
use Rattle.library_answers.specs.declared.answer.Answer.{Answer}
use Rattle.library_answers.specs.Numbers.{ruled}
use Rattle.library_answers.specs.Failures.{uncompared_numbers, failure_status, IsLine}

abbrev pub compared_numbers : Compared → Answer
compared_numbers compared.Same = ruled 7 0 0
compared_numbers compared.Different = ruled 8 0 0
compared_numbers compared.Collision = ruled 9 0 0

abbrev pub compared_status : Compared → ℕ
compared_status compared.Same = 1
compared_status compared.Different = 2
compared_status compared.Collision = 2

abbrev pub compared_line : Compared → List ℕ
compared_line compared.Same = codes "same" ++ (10 ∷ [])
compared_line compared.Different = codes "different" ++ (10 ∷ [])
compared_line compared.Collision = codes "collision" ++ (10 ∷ [])

-- how the signers compare, or why they are not compared: in numbers, and as the line
abbrev pub IsComparison : (a : List ℕ) (i : ℕ) (b : List ℕ) (j : ℕ) (said : Answer)
    (status : ℕ) (before : List ℕ) (size : ℕ) (after : List ℕ) → Type 0
IsComparison a i b j said status before size after = ((answer : Compared) × Compares a i b j answer
    × (said ≡ compared_numbers answer)
    × IsLine (compared_line answer) (compared_status answer) status before size after)
    ⊎ ((f : CompareFault) × RefusesToCompare a i b j f × (said ≡ uncompared_numbers f)
    × IsLine (failure_text (failure.Uncompared f)) (failure_status (failure.Uncompared f)) status before size after)
