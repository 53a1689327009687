-- What the renewals of many records stand on, and the hash tree over that (RFC 4998, 5.2).
--
-- A renewal that was cut off goes on: a record that has been renewed by the token already stands on what it stood on
-- before. So the tree over all records is the same at each run, and its root is what the token stamps.
use Rattle.std.specs.Prelude.{◌≡◌, ℕ, ◌<◌, List, Option, map}
use Rattle.std.specs.Borrow.{Bor}
use Rattle.std.specs.List.{AllByRecursion, AllZip}
use Rattle.digests.specs.declared.algorithm.Alg.{Alg}
use Rattle.digests.specs.declared.value.Digest.{Digest}
use Rattle.digests.specs.Digests.{alg_of, octets_of}
use Rattle.evidence_trees.specs.HashTrees.{HashTree, IsTreeOf}
use Rattle.evidence_making.specs.declared.leaves.LastStamp.{LastStamp}
use Rattle.evidence_making.specs.Done.{StandsOn}
use Rattle.cli_making.specs.Sums.{IsRootOf}
use Rattle.cli_renewing.specs.declared.footing.Footing.{Footing}
use Rattle.cli_renewing.specs.Keeping.{Ways, kept}

-- ---- of one record

-- the renewal of this record by a time-stamp, with this token if there is one already, stands on this: its leaf is the
-- hash value of a whole `timeStamp`, by the algorithm of the chain, and the new one must be after the moment of that
pub record IsFooting (token : Option (List ℕ)) (octets : List ℕ) (f : Footing) : Type 0 where
  pub last : LastStamp
  pub stands : StandsOn token octets last
  pub leaf : f.leaf ≡ last.leaf
  pub after : f.after ≡ last.moment

-- such a record was read from the file of this path
pub record IsFootingRead (ways : Ways) (token : Option (List ℕ)) (path : List ℕ) (f : Footing) : Type 0 where
  pub octets : List ℕ
  pub read : ways.read (kept path octets)
  pub is : IsFooting token octets f

-- ---- of many

-- of each path one, in their order
abbrev pub AreFootings : Ways → (token : Option (List ℕ)) → (paths : List (Bor (List ℕ))) → List Footing → Type 0
AreFootings ways token paths footings = AllZip (λ path f. IsFootingRead ways token path.now f) paths footings

-- all leaves are by this algorithm
abbrev pub AreBy : Alg → List Footing → Type 0
AreBy alg footings = AllByRecursion (λ f. alg_of f.leaf ≡ alg) footings

-- the tree over their leaves, by one algorithm, and its root
pub record IsTreeOn (footings : List Footing) (tree : HashTree) (root : Digest) : Type 0 where
  pub by : AreBy tree.algorithm footings
  pub over : IsTreeOf tree.algorithm (map (λ f. octets_of f.leaf) footings) tree
  pub is_root : IsRootOf tree root

-- a new time-stamp at this moment is later than all (5.1)
abbrev pub ComesAfter : (m : ℕ) → List Footing → Type 0
ComesAfter m footings = AllByRecursion (λ f. f.after < m) footings
