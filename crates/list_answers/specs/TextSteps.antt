-- What is left of a text while its lines are read.
use Rattle.std.specs.Prelude.{ℕ, ◌+◌, List, [], length, Option, Some, None}
use Rattle.list_answers.specs.Texts.{NumberedLine, lines_of, telling, words_of}

-- the lines with a meaning in the rest of a text, if this many lines are before it
abbrev pub lines_left : (before : ℕ) → Option (List ℕ) → List NumberedLine
lines_left before None = []
lines_left before (Some text) = telling before (lines_of text)

-- more than the number of lines that are left
abbrev pub room_of : Option (List ℕ) → ℕ
room_of None = 0
room_of (Some text) = length text + 1

-- the words in the rest of a line
abbrev pub words_left : Option (List ℕ) → List (List ℕ)
words_left None = []
words_left (Some line) = words_of line
