-- Records that are renewed by a token over the root of a hash tree, in either way (RFC 4998, 5.2).
use Rattle.std.specs.Prelude.{◌≡◌, ◌≤◌, ◌^◌, ℕ, List, length}
use Rattle.digests.specs.Digests.{alg_of, octets_of}
use Rattle.digests.specs.declared.algorithm.Alg.{Alg}
use Rattle.digests.specs.declared.value.Digest.{Digest}
use Rattle.evidence_types.specs.EvidenceValue.{EvidenceValue, EncodesEvidence, evidence_parts}
use Rattle.evidence_types.specs.StampValue.{StampValue}
use Rattle.evidence_trees.specs.HashTrees.{HashTree, IsWayFrom, AreListsOf}
use Rattle.evidence_making.specs.Stamping.{StampsRoot}

-- ---- trees

-- the root of a tree, as a digest by its algorithm
pub record IsRootOf (tree : HashTree) (root : Digest) : Type 0 where
  pub algorithm : alg_of root ≡ tree.algorithm
  pub octets : octets_of root ≡ tree.root

-- the token stamps the root with this moment
pub record StampsTree (tree : HashTree) (token : List ℕ) (m : ℕ) : Type 0 where
  pub root : Digest
  pub is_root : IsRootOf tree root
  pub stamps : StampsRoot token root m

-- These values lead from a leaf of the tree to its root: they are the leaf and the neighbours on its way up, and as
-- lists of one value each they have that root, and cover the leaf and nothing else.
pub record LeadUp (tree : HashTree) (leaf : List ℕ) (values : List (List ℕ)) : Type 0 where
  pub way : IsWayFrom tree leaf values
  pub lists : AreListsOf tree leaf values

-- ---- records

-- how a record is renewed, `renewed` or `rehashed`: by an algorithm, the values of a leaf's lists, and a token
abbrev pub Way : Type 0
Way = EvidenceValue → Alg → (values : List (List ℕ)) → (token : List ℕ) → EvidenceValue

-- The octets `new` encode the record that these octets encode, renewed so, by the algorithm of the tree and with the
-- values that lead from the leaf to the root. Of the old chains stands in the new record what `Stay` says.
pub record IsNewRecord (renew : Way) (Stay : (chains : List (List StampValue)) → (new : List ℕ) → Type 0)
    (tree : HashTree) (leaf token octets new : List ℕ) : Type 0 where
  pub values : List (List ℕ)
  pub up : LeadUp tree leaf values
  pub old : EvidenceValue
  pub was : EncodesEvidence octets old
  pub encoded : EncodesEvidence new (renew old tree.algorithm values token)
  pub stay : Stay old.chains new

-- that new record would be longer than an element can be
pub record IsTooLongNew (renew : Way) (tree : HashTree) (leaf token octets : List ℕ) : Type 0 where
  pub values : List (List ℕ)
  pub up : LeadUp tree leaf values
  pub old : EvidenceValue
  pub was : EncodesEvidence octets old
  pub size : 2 ^ 32 ≤ length (evidence_parts (renew old tree.algorithm values token))
