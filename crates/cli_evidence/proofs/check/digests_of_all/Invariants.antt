use Rattle.std.proofs.Common.{take}
use Rattle.cli_evidence.specs.Digesting.{AreDigested}
use Rattle.cli_evidence.proofs.check.digests_of_all.Given as goal

-- the digests of the files so far
abbrev pub invariant-loop-path : goal.invariant-loop-path
invariant-loop-path g l =
    AreDigested g.R.File.Read.remaining l.wanted (take l.path-index l.words.data.items) l.all.items
