-- A text of sums: which digests and names it states, and the first rule that it fails.
use Rattle.std.specs.Prelude.{ℕ, ◌+◌, Bool, not, List, [], ◌∷◌, map, Option, Some, None, Result, Ok, Err}
use Rattle.std.specs.Prelude.{if◌then◌else◌}
use Rattle.std.specs.List.{list_any}
use Rattle.der_core.specs.Lists.{is_same}
use Rattle.digests.specs.declared.algorithm.Alg.{Alg}
use Rattle.evidence_sums.specs.declared.sums_fault.SumsFault.{SumsFault}
use Rattle.evidence_sums.specs.declared.sums_fault.SumsRule.{SumsRule}
use Rattle.evidence_sums.specs.declared.sums_fault.SumsRule.TheVariants as rule
use Rattle.evidence_sums.specs.Lines.{lines_of, first_number}
use Rattle.evidence_sums.specs.Names.{is_name}
use Rattle.evidence_sums.specs.SumLines.{SumValue, is_sum_line, name_in, sum_in}

-- the name is one of these
abbrev pub is_among : (names : List (List ℕ)) → (name : List ℕ) → Bool
is_among names name = list_any (λ n. is_same n name) names

-- the number of the first name that is one of those before it
abbrev pub first_again : (before : List (List ℕ)) → (number : ℕ) → List (List ℕ) → Option ℕ
first_again before number [] = None
first_again before number (name ∷ names) = if is_among before name then Some number
    else first_again (name ∷ before) (number + 1) names

-- an answer about a text: what it states, or why it is refused
abbrev pub Answer : Type 0
Answer = Result (List SumValue) SumsFault

-- the rule is failed at this line, if there is one, and otherwise it is as the next rules say
abbrev pub unless : {X : Type 0} → SumsRule → (line : Option ℕ) → Result X SumsFault → Result X SumsFault
unless rule (Some line) answer = Err (record { rule = rule; line = line })
unless rule None answer = answer

-- a text without a line fails at no line
abbrev pub no_line : List (List ℕ) → Option ℕ
no_line [] = Some 0
no_line (line ∷ lines) = None

-- the answer by the forms of the lines and by each name, and then as this says
abbrev pub unless_badly_formed : Alg → (lines : List (List ℕ)) → Answer → Answer
unless_badly_formed alg lines answer = unless rule.Line (first_number (λ l. not (is_sum_line alg l)) 1 lines)
    (unless rule.Empty (no_line lines)
    (unless rule.Name (first_number (λ l. not (is_name (name_in alg l))) 1 lines) answer))

abbrev pub unless_again : Alg → (lines : List (List ℕ)) → Answer
unless_again alg lines = unless rule.NameTwice (first_again [] 1 (map (name_in alg) lines))
    (Ok (map (sum_in alg) lines))

-- what the lines of a text state, in their order, or the first fault: all lines are tested for their form, then all
-- names, and then whether a name is there twice
abbrev pub sums_of : Alg → (text : List ℕ) → Answer
sums_of alg text = unless_badly_formed alg (lines_of text) (unless_again alg (lines_of text))

-- the same without a look for a name that is there twice
abbrev pub well_formed : Alg → (text : List ℕ) → Answer
well_formed alg text = unless_badly_formed alg (lines_of text) (Ok (map (sum_in alg) (lines_of text)))
