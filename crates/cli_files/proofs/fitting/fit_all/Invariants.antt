use Rattle.std.proofs.Common.{ℕ, List, take}
use Rattle.std.specs.Io.KnownBytes.{Appends}
use Rattle.cli_files.specs.Lines.{AreTold, IsLine, fit_of}
use Rattle.cli_files.proofs.fitting.fit_all.Given as goal

-- the lines of the files so far were printed
abbrev pub invariant-loop-path : goal.invariant-loop-path
invariant-loop-path g l =
    (text : List ℕ) × AreTold (IsLine g.R.File.Read.remaining g.R.File.Describes.says (fit_of l.each))
    (take l.path-index l.paths) text l.worst
    × Appends (g.O.Write.contents l.fn.out) (g.O.Write.contents l.out) text
