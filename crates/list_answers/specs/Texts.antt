-- Lines of a text, and words of a line.
use Rattle.std.specs.Prelude.{ℕ, ◌+◌, ◌-◌, Bool, true, List, [], ◌∷◌, length, map, take, slice_index, ◌==◌, Option}
use Rattle.std.specs.Prelude.{Some, None, unwrap_or, if◌then◌else◌}
use Rattle.std.specs.List.{slice_split}
use Rattle.der_core.specs.Lists.{is_same}

-- the octets between those of this value
abbrev pub parts : (at : ℕ) → List ℕ → List (List ℕ)
parts at octets = slice_split (λ b. b == at) octets

-- without the carriage return at the end, if there is one
abbrev pub trimmed : List ℕ → List ℕ
trimmed line = if slice_index line (length line - 1) == 13 then take (length line - 1) line else line

-- the lines of a text: each ends at a line feed or at the end of the text, and one carriage return before its end is no
-- part of it
abbrev pub lines_of : List ℕ → List (List ℕ)
lines_of text = map trimmed (parts 10 text)

-- the words of a line: the octets between its spaces
abbrev pub words_of : List ℕ → List (List ℕ)
words_of line = parts 32 line

-- a line without a meaning: it is empty, or begins with #
abbrev pub is_silent : List ℕ → Bool
is_silent [] = true
is_silent (b ∷ bs) = b == 35

-- a line with its number, from 1 on
pub record NumberedLine : Type 0 where
  pub number : ℕ
  pub octets : List ℕ

-- the lines with a meaning, if this many lines are before the first of these
abbrev pub telling : (before : ℕ) → List (List ℕ) → List NumberedLine
telling before [] = []
telling before (l ∷ ls) = if is_silent l then telling (before + 1) ls
    else record { number = before + 1; octets = l } ∷ telling (before + 1) ls

-- the lines with a meaning after a first line, of a text that begins with it
abbrev pub under : (first : List ℕ) → List (List ℕ) → Option (List NumberedLine)
under first [] = None
under first (l ∷ ls) = if is_same l first then Some (telling 1 ls) else None

-- the lines with a meaning after this first line; none if the text has another first line
abbrev pub told : (first text : List ℕ) → List NumberedLine
told first text = unwrap_or (under first (lines_of text)) []
