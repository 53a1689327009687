use Rattle.std.proofs.Common.{ℕ, List, take, Option}
use Rattle.std.specs.Io.KnownBytes.{Appends}
use Rattle.cli_files.specs.Lines.{AreTold, IsAsked, first_line}
use Rattle.cli_files.proofs.asking.ask_all.Given as goal

-- the first line was printed, and behind it what is printed of the files so far
abbrev pub invariant-loop-path : goal.invariant-loop-path
invariant-loop-path g l = (headed : Option (List ℕ)) × Appends (g.O.Write.contents l.fn.out) headed first_line
    × ((text : List ℕ) × AreTold (IsAsked g.R.File.Read.remaining g.R.File.Describes.says l.each)
    (take l.path-index l.paths) text l.worst
    × Appends headed (g.O.Write.contents l.out) text)
