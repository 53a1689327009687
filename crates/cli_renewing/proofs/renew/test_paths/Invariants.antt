use Rattle.std.proofs.Common.{take}
use Rattle.cli_renewing.specs.Renewing.{AreNoInput}
use Rattle.cli_renewing.proofs.renew.test_paths.Given as goal

-- none so far is the standard input
abbrev pub invariant-loop-path : goal.invariant-loop-path
invariant-loop-path l = AreNoInput (take l.path-index l.paths)
