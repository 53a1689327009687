-- The tests of the lines of a text, of which some may continue those before them, as in `Records.antt`; or none may, as
-- in `Sums.antt`.
use Rattle.std.specs.Prelude.{ℕ, ◌+◌, Bool, not, ◌&&◌, ◌||◌, List, [], ◌∷◌, drop, Option, Some, None, Result}
use Rattle.std.specs.Prelude.{if◌then◌else◌}
use Rattle.digests.specs.declared.algorithm.Alg.{Alg}
use Rattle.evidence_sums.specs.declared.sums_fault.SumsFault.{SumsFault}
use Rattle.evidence_sums.specs.declared.sums_fault.SumsRule.TheVariants as rule
use Rattle.evidence_sums.specs.Lines.{first_number}
use Rattle.evidence_sums.specs.Names.{is_name}
use Rattle.evidence_sums.specs.SumLines.{is_sum_line, name_in}
use Rattle.evidence_sums.specs.Sums.{is_among, no_line, unless}
use Rattle.evidence_sums.specs.Records.{continues, first_continues}

abbrev pub is_continued : (may_continue : Bool) → (line : List ℕ) → Bool
is_continued may_continue line = may_continue && continues line

abbrev pub part_of : (may_continue : Bool) → (line : List ℕ) → List ℕ
part_of may_continue line = if is_continued may_continue line then drop 1 line else line

abbrev pub is_line : (may_continue : Bool) → Alg → (line : List ℕ) → Bool
is_line may_continue alg line = is_sum_line alg (part_of may_continue line)

abbrev pub is_named : (may_continue : Bool) → Alg → (line : List ℕ) → Bool
is_named may_continue alg line = is_continued may_continue line || is_name (name_in alg line)

abbrev pub unless_faulty : {X : Type 0} → (may_continue : Bool) → Alg → (lines : List (List ℕ))
    → Result X SumsFault → Result X SumsFault
unless_faulty may_continue alg lines answer =
    unless rule.Line (if may_continue then first_continues lines else None)
    (unless rule.Line (first_number (λ l. not (is_line may_continue alg l)) 1 lines)
    (unless rule.Empty (no_line lines)
    (unless rule.Name (first_number (λ l. not (is_named may_continue alg l)) 1 lines) answer)))

abbrev pub named_again : (may_continue : Bool) → Alg → (before : List (List ℕ)) → (number : ℕ)
    → (lines : List (List ℕ)) → Option ℕ
named_again may_continue alg before number [] = None
named_again may_continue alg before number (line ∷ lines) =
    if is_continued may_continue line then named_again may_continue alg before (number + 1) lines
    else if is_among before (name_in alg line) then Some number
    else named_again may_continue alg (name_in alg line ∷ before) (number + 1) lines
