use Rattle.std.proofs.Common.{ℕ, List, take}
use Rattle.std.specs.Io.KnownBytes.{Appends}
use Rattle.cli_commands.specs.Lists.{IsAnswersOf, IsCheckerOf}
use Rattle.cli_files.specs.Lines.{AreTold, IsLine, check_of}
use Rattle.cli_files.proofs.checking.check_all.Given as goal

-- the lines of the files so far were printed, and the lists still serve
abbrev pub invariant-loop-path : goal.invariant-loop-path
invariant-loop-path g l = record {
  told : (text : List ℕ)
      × AreTold (IsLine g.R.File.Read.remaining g.R.File.Describes.says (check_of l.each))
      (take l.path-index l.paths) text l.worst
      × Appends (g.O.Write.contents l.fn.out) (g.O.Write.contents l.out) text;
  goes_by : IsCheckerOf g.R.File.Read.remaining l.each.sha1 l.checker;
  answers : IsAnswersOf g.R.File.Read.remaining l.answers;
}
