use Rattle.std.proofs.Common.{take}
use Rattle.cli_renewing.specs.Records.{AreTested}
use Rattle.cli_renewing.specs.Renewing.{renewal}
use Rattle.cli_renewing.proofs.renew.test_records.Given as goal

-- the records so far can be renewed, and put into their places
abbrev pub invariant-loop-path : goal.invariant-loop-path
invariant-loop-path g l = AreTested g.K.Keeps.ways (renewal l.by.tree.now l.by.token.now l.by.moment)
    (take l.path-index l.paths)
