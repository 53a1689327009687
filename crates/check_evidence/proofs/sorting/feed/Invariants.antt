use Rattle.std.proofs.Common.{◌≡◌, List, ℕ, ◌++◌, take}
use Rattle.std.specs.List.{concat}
use Rattle.digests.specs.Selection.{FedWanted, set_of}
use Rattle.check_evidence.proofs.sorting.feed.Given as goal

-- those that were passed were fed
abbrev pub invariant-loop-value : goal.invariant-loop-value
invariant-loop-value l = record {
  set : set_of l.hashers ≡ set_of l.initial.hashers;
  fed : (m : List ℕ) → FedWanted l.initial.hashers m → FedWanted l.hashers (m ++ concat (take l.value-index l.values));
}
