-- What a line needs so that its record can be made and put: that its digest is one of the leaves of the tree, and its
-- name UTF-8, as a path is.
use Rattle.std.specs.Prelude.{◌≡◌, List, Contains, IsUtf8}
use Rattle.std.specs.List.{AllByRecursion}
use Rattle.digests.specs.Digests.{alg_of, octets_of}
use Rattle.evidence_trees.specs.HashTrees.{HashTree}
use Rattle.evidence_sums.specs.SumLines.{SumValue}

abbrev pub IsLeaf : HashTree → SumValue → Type 0
IsLeaf tree s = (alg_of s.digest ≡ tree.algorithm) × Contains tree.leaves (octets_of s.digest)

pub record IsReady (tree : HashTree) (s : SumValue) : Type 0 where
  pub named : IsUtf8 s.name
  pub leaf : IsLeaf tree s

abbrev pub AreReady : HashTree → (sums : List SumValue) → Type 0
AreReady tree sums = AllByRecursion (λ s. IsReady tree s) sums
