-- Hash values that stand together in one list, as those of a data object group (RFC 4998, 4.2 and 4.3).
use Rattle.std.specs.Prelude.{◌≡◌, ◌≢◌, ℕ, List, [], All, length}
use Rattle.digests.specs.Algorithms.{length_of}
use Rattle.digests.specs.declared.algorithm.Alg.{Alg}
use Rattle.check_evidence.specs.Roots.{IsNode}
use Rattle.evidence_trees.specs.HashTrees.{AreLeavesOf, IsRising}

-- the values, and their node, by an algorithm
pub record GroupValue : Type 0 where
  pub algorithm : Alg
  pub values : List (List ℕ)
  pub node : List ℕ

-- A group: there is a value, each is as long as a digest, and they stand in ascending order, none twice. Its node is of
-- one value that value itself, and of several the hash value of their octets, one after the other (4.2, step 3).
pub record GoodGroup (group : GroupValue) : Type 0 where
  pub some : group.values ≢ []
  pub lengths : All (λ v. length v ≡ length_of group.algorithm) group.values
  pub rising : IsRising group.values
  pub node : IsNode group.algorithm group.values group.node

-- it is the group of these values by this algorithm: its own are the different ones of these
pub record IsGroup (alg : Alg) (all : List (List ℕ)) (group : GroupValue) : Type 0 where
  pub algorithm : group.algorithm ≡ alg
  pub values : AreLeavesOf all group.values
  pub good : GoodGroup group
