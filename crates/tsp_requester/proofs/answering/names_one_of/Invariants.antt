use Rattle.std.proofs.Common.{length}
use Rattle.std.specs.Prelude.{◌↔◌, Any}
use Rattle.tsp_requester.specs.Answering.{IsNamed}
use Rattle.tsp_requester.proofs.answering.names_one_of.Given as goal

-- one is named where one of those that are left is
abbrev pub invariant-loop-element : goal.invariant-loop-element
invariant-loop-element l = Any (IsNamed l.fn.attributes) l.fn.elements ↔ Any (IsNamed l.fn.attributes) l.left

abbrev pub decreases-loop-element : goal.decreases-loop-element
decreases-loop-element l = length l.left
