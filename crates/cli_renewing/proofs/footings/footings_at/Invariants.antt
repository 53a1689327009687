use Rattle.std.proofs.Common.{take}
use Rattle.std.specs.Option.{option_copied}
use Rattle.cli_renewing.specs.Footings.{AreFootings}
use Rattle.cli_renewing.specs.Steps.{AreOfFirst}
use Rattle.cli_renewing.proofs.footings.footings_at.Given as goal

-- what the records so far stand on, by one algorithm
abbrev pub invariant-loop-path : goal.invariant-loop-path
invariant-loop-path g l = record {
  are : AreFootings g.K.Keeps.ways (option_copied l.token) (take l.path-index l.paths) l.footings.items;
  by : AreOfFirst l.footings.items;
}
