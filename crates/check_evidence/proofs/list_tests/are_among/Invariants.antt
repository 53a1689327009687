use Rattle.std.specs.List.{list_all}
use Rattle.check_evidence.specs.CoveredValues.{AreGiven, how_many}
use Rattle.check_evidence.specs.ListTests.{is_among}
use Rattle.check_evidence.proofs.Going.{StaysAsked}
use Rattle.check_evidence.proofs.list_tests.are_among.Given as goal

-- what is asked of all is asked of those that are left
abbrev pub invariant-loop-value : goal.invariant-loop-value
invariant-loop-value l = record {
  given : AreGiven l.alg l.left;
  stays : StaysAsked l.alg l.covered l.left (list_all (is_among l.values));
}

abbrev pub decreases-loop-value : goal.decreases-loop-value
decreases-loop-value l = how_many l.left
