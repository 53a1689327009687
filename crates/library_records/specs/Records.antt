-- The evidence record of a leaf of a hash tree (RFC 4998, 4.2), and why none is made.
use Rattle.std.specs.Prelude.{◌≡◌, ◌≤◌, ◌^◌, ◌⊎◌, ℕ, List, [], ◌∷◌, length, Contains, codes}
use Rattle.digests.specs.Algorithms.{length_of}
use Rattle.digests.specs.Messages.{digest_of}
use Rattle.evidence_types.specs.EvidenceValue.{EncodesEvidence, evidence_parts}
use Rattle.check_evidence.specs.Grounds.{Grounds}
use Rattle.check_evidence.specs.Showing.{Shows}
use Rattle.evidence_trees.specs.HashTrees.{HashTree}
use Rattle.evidence_making.specs.Laws.{TokenStands}
use Rattle.evidence_making.specs.Made.{made}
use Rattle.library_records.specs.TreeRenewals.{LeadUp, StampsTree}
use Rattle.evidence_making.specs.declared.fault.MakeFault.TheVariants as make
use Rattle.cli_failures.specs.declared.failure.Failure.{Failure}
use Rattle.cli_failures.specs.declared.failure.Failure.TheVariants as failure
use Rattle.cli_failures.specs.Causes.{Names}
use Rattle.library_records.specs.Trees.{StampsNot}

-- a digest by the algorithm of the tree, which is one of its leaves
abbrev pub IsLeaf : HashTree → (digest : List ℕ) → Type 0
IsLeaf tree digest = (length digest ≡ length_of tree.algorithm) × Contains tree.leaves digest

-- The record shows the moment of the token for the data object of the digest, if the token stands on the root.
abbrev pub ShowsData : HashTree → (digest token octets : List ℕ) → Type 0
ShowsData tree digest token octets = (g : Grounds) (data_object : List ℕ) (m : ℕ)
    → digest_of tree.algorithm data_object ≡ digest → TokenStands g tree.algorithm tree.root token m
    → Shows g octets (data_object ∷ []) m

-- The token stamps the root of the tree, and these octets encode the record of the digest, a leaf: with the values that
-- lead from there to the root, each in a list of its own, and with the token.
pub record IsRecordOf (tree : HashTree) (digest token octets : List ℕ) : Type 0 where
  pub moment : ℕ
  pub stamped : StampsTree tree token moment
  pub leaf : IsLeaf tree digest
  pub values : List (List ℕ)
  pub up : LeadUp tree digest values
  pub encoded : EncodesEvidence octets (made tree.algorithm values token)
  pub shows : ShowsData tree digest token octets

-- the record would be longer than an element can be
pub record IsTooLong (tree : HashTree) (digest token : List ℕ) : Type 0 where
  pub values : List (List ℕ)
  pub up : LeadUp tree digest values
  pub size : 2 ^ 32 ≤ length (evidence_parts (made tree.algorithm values token))

-- U10: so it is, of a token that stamps the root
abbrev pub RefusesLength : HashTree → (digest token : List ℕ) → Failure → Type 0
RefusesLength tree digest token f = (f ≡ failure.Unmade make.TooLong) × ((m : ℕ) × StampsTree tree token m)
    × IsTooLong tree digest token

-- Memory was refused; or the first of these: the digest is no leaf, the token doesn't stamp the root, and the record
-- would be too long.
abbrev pub MakesNoRecord : HashTree → (digest token : List ℕ) → Failure → Type 0
MakesNoRecord tree digest token f = (f ≡ failure.Memory)
    ⊎ ((Names (codes "digest") f × (IsLeaf tree digest → ⊥))
    ⊎ (IsLeaf tree digest × (StampsNot tree token f ⊎ RefusesLength tree digest token f)))
