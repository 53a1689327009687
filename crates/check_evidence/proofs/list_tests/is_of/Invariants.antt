use Rattle.std.specs.List.{list_any}
use Rattle.der_core.specs.Lists.{is_same}
use Rattle.check_evidence.specs.CoveredValues.{AreGiven, how_many}
use Rattle.check_evidence.proofs.Going.{StaysAsked}
use Rattle.check_evidence.proofs.list_tests.is_of.Given as goal

-- what is asked of all is asked of those that are left
abbrev pub invariant-loop-other : goal.invariant-loop-other
invariant-loop-other l = record {
  given : AreGiven l.alg l.left;
  stays : StaysAsked l.alg l.covered l.left (list_any (is_same l.value));
}

abbrev pub decreases-loop-other : goal.decreases-loop-other
decreases-loop-other l = how_many l.left
