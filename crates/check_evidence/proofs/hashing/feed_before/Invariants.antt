use Rattle.std.proofs.Common.{◌≡◌, List, ℕ, ◌++◌, length}
use Rattle.std.specs.List.{concat}
use Rattle.digests.specs.Selection.{FedWanted, set_of}
use Rattle.check_evidence.specs.Joining.{put_in}
use Rattle.check_evidence.proofs.hashing.feed_before.Given as goal

-- what was fed, and those that are left with the node put in, are all of them with it
abbrev pub invariant-loop-value : goal.invariant-loop-value
invariant-loop-value l = record {
  set : set_of l.hashers ≡ set_of l.initial.hashers;
  fed : (m : List ℕ) → FedWanted l.initial.hashers m → (fed : List ℕ) × FedWanted l.hashers fed
      × (m ++ concat (put_in l.node l.values) ≡ fed ++ concat (put_in l.node l.left));
}

abbrev pub decreases-loop-value : goal.decreases-loop-value
decreases-loop-value l = length l.left
