-- What the renewal of a record by a hash tree stands on for all of its data objects, a group (RFC 4998, 4.2 and 5.2).
use Rattle.std.specs.Prelude.{◌≡◌, ⊤, ℕ, ◌<◌, Bool, true, false, List, [], ◌∷◌, Option, Some, None, Contains, length}
use Rattle.std.specs.Prelude.{map}
use Rattle.std.specs.List.{AllByRecursion, AllZip}
use Rattle.digests.specs.Digests.{alg_of, octets_of}
use Rattle.digests.specs.Messages.{digest_of}
use Rattle.digests.specs.declared.algorithm.Alg.{Alg}
use Rattle.digests.specs.declared.value.Digest.{Digest}
use Rattle.evidence_types.specs.StampValue.{StampValue}
use Rattle.evidence_types.specs.EvidenceValue.{EvidenceValue, EncodesEvidence}
use Rattle.check_evidence.specs.Grounds.{Grounds}
use Rattle.check_evidence.specs.Places.{Place, IsIn, stamps_of}
use Rattle.check_evidence.specs.StampStates.{HasTime}
use Rattle.check_evidence.specs.Covering.{covered_at}
use Rattle.judge_evidence.specs.Going.{IsLastPlace}
use Rattle.evidence_trees.specs.Groups.{GroupValue, IsGroup}
use Rattle.evidence_trees.specs.HashTrees.{HashTree, AreLeavesOf, AreListsOf}
use Rattle.evidence_making.specs.Laws.{TokenStands}
use Rattle.evidence_making.specs.Leaves.{IsRehashOf, OfOpen}
use Rattle.evidence_making.specs.Renewed.{rehashed}
use Rattle.evidence_making.specs.RenewalLaws.{LastStands}

-- ---- whether all data objects are named

-- how many hash values the first list has; without lists the time-stamp is on one
abbrev pub values_in : (lists : Option (List (List (List ℕ)))) → ℕ
values_in None = 1
values_in (Some []) = 0
values_in (Some (values ∷ lists)) = length values

-- that of the first of these time-stamps
abbrev pub first_count : List StampValue → ℕ
first_count [] = 0
first_count (s ∷ stamps) = values_in s.lists

-- So many digests are all that a record of these chains is of: as many as the first list of its first time-stamp has
-- hash values (4.2). Or the user says that they are, and that other values there are of neighbours in the tree.
abbrev pub AreAll : (alone : Bool) → (chains : List (List StampValue)) → (count : ℕ) → Type 0
AreAll true chains count = ⊤
AreAll false chains count = count ≡ first_count (stamps_of chains)

-- ---- a group

-- The digests of data objects, all by one algorithm, lead to these leaves, a leaf each; and this is the group of these
-- (5.2, steps 4 and 5).
pub record LeadTo (Is : (digest leaf : Digest) → Type 0) (alg : Alg) (digests : List Digest) (group : GroupValue)
    : Type 0 where
  pub leaves : List Digest
  pub each : AllZip (λ d leaf. (alg_of d ≡ alg) × Is d leaf) digests leaves
  pub is_group : IsGroup alg (map octets_of leaves) group

-- a renewal of these chains by a hash tree, for data objects of these digests, stands on this group and this moment
pub record IsRehashOn (alone : Bool) (chains : List (List StampValue)) (alg : Alg) (digests : List Digest)
    (group : GroupValue) (m : ℕ) : Type 0 where
  pub all : AreAll alone chains (length digests)
  pub lead : LeadTo (λ d leaf. IsRehashOf chains d leaf m) alg digests group

-- the last time-stamp of these chains states a moment, but so many digests are not all
pub record LeaveOthers (alone : Bool) (chains : List (List StampValue)) (count : ℕ) : Type 0 where
  pub place : Place
  pub there : IsIn chains place
  pub is_last : IsLastPlace place
  pub moment : ℕ
  pub time : HasTime place.stamp moment
  pub others : AreAll alone chains count → ⊥

-- ---- records

-- the octets encode a record that is open, and its renewal stands on this
abbrev pub IsRehashLeaf : (octets : List ℕ) → (alone : Bool) → Alg → (digests : List Digest) → GroupValue → (m : ℕ)
    → Type 0
IsRehashLeaf octets alone alg digests group m =
    OfOpen octets (λ chains. IsRehashOn alone chains alg digests group m)

-- or its first list has another number of hash values than digests are named (U11)
abbrev pub LeavesOthers : (octets : List ℕ) → (alone : Bool) → (digests : List Digest) → Type 0
LeavesOthers octets alone digests = OfOpen octets (λ chains. LeaveOthers alone chains (length digests))

-- ---- what must be covered, and what suffices

-- For the data objects of the digests the new time-stamp of the record with a new chain must cover the values of the
-- group, and nothing else.
abbrev pub IsDueInNewChain : (octets : List ℕ) → Alg → (digests : List Digest) → GroupValue → Type 0
IsDueInNewChain octets alg digests group = (v : EvidenceValue) (values : List (List ℕ)) (token : List ℕ)
    (data_objects : List (List ℕ)) (p : Place) → EncodesEvidence octets v
    → map octets_of digests ≡ map (digest_of alg) data_objects
    → IsIn (rehashed v alg group.values values token).chains p → IsLastPlace p
    → AreLeavesOf (covered_at alg data_objects p) group.values

-- the digest of each of these data objects is one of these
abbrev pub AreAmong : Alg → (digests : List Digest) → (data_objects : List (List ℕ)) → Type 0
AreAmong alg digests data_objects =
    AllByRecursion (λ o. Contains (map octets_of digests) (digest_of alg o)) data_objects

-- In the record with a new chain the new time-stamp stands for such data objects, where the lists are those of the
-- group, whose node is a leaf in a tree by the algorithm, and the token stands on the root of the tree with a later
-- moment.
abbrev pub StandsInNewChain : (octets : List ℕ) → Alg → (digests : List Digest) → GroupValue → (last : ℕ) → Type 0
StandsInNewChain octets alg digests group last = (g : Grounds) (v : EvidenceValue) (tree : HashTree)
    (values : List (List ℕ)) (token : List ℕ) (data_objects : List (List ℕ)) (m : ℕ) → EncodesEvidence octets v
    → AreAmong alg digests data_objects → tree.algorithm ≡ alg → AreListsOf tree group.node values → last < m
    → TokenStands g tree.algorithm tree.root token m
    → LastStands g data_objects (rehashed v tree.algorithm group.values values token).chains
