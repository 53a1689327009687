use Rattle.std.proofs.Common.{◌≡◌, List, ℕ, length, Some}
use Rattle.std.specs.Prelude.{All}
use Rattle.digests.specs.Digests.{alg_of, octets_of}
use Rattle.check_evidence.specs.Roots.{IsAscending, IsRoot, IsRootAfter}
use Rattle.check_evidence.proofs.list_root.root_of_lists.Given as goal

-- the root of the node and the lists that are left is that of all
abbrev pub invariant-loop-values : goal.invariant-loop-values
invariant-loop-values l = record {
  algorithm : alg_of l.node ≡ l.alg;
  root : (root : List ℕ) → IsRootAfter l.alg (octets_of l.node) l.left root
      → (covered : List (List ℕ)) → IsRoot l.alg (Some l.lists) covered root;
  ascending : All IsAscending l.lists → All IsAscending l.left;
}

abbrev pub decreases-loop-values : goal.decreases-loop-values
decreases-loop-values l = length l.left
