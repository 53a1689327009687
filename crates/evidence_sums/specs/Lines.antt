-- Lines of a text that end in LF, and places in lists.
use Rattle.std.specs.Prelude.{ℕ, ◌+◌, Bool, List, [], ◌∷◌, Option, Some, None, if◌then◌else◌}
use Rattle.list_answers.specs.Texts.{parts}

-- behind the last LF there is one more line, if there are octets
abbrev pub last_line : List ℕ → List (List ℕ)
last_line [] = []
last_line (octet ∷ octets) = (octet ∷ octets) ∷ []

abbrev pub lines_of_parts : List (List ℕ) → List (List ℕ)
lines_of_parts [] = []
lines_of_parts (part ∷ []) = last_line part
lines_of_parts (part ∷ (next ∷ parts)) = part ∷ lines_of_parts (next ∷ parts)

-- the lines of a text: each ends in LF, which is no part of it; the last may lack its LF
abbrev pub lines_of : List ℕ → List (List ℕ)
lines_of text = lines_of_parts (parts 10 text)

-- the number of the first one that passes, if these have the numbers from this one on
abbrev pub first_number : {X : Type 0} → (passes : X → Bool) → (number : ℕ) → List X → Option ℕ
first_number passes number [] = None
first_number passes number (x ∷ xs) = if passes x then Some number else first_number passes (number + 1) xs
