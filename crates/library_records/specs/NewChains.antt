-- Evidence records that get a new chain (Hash-Tree Renewal, RFC 4998, 5.2), and why they get none.
use Rattle.std.specs.Prelude.{◌≡◌, ◌⊎◌, ℕ, Bool, true, false, List, Option, Some, None, All, codes, map}
use Rattle.digests.specs.Algorithms.{name_of}
use Rattle.digests.specs.Digests.{alg_of, octets_of}
use Rattle.digests.specs.declared.algorithm.Alg.{Alg}
use Rattle.digests.specs.declared.value.Digest.{Digest}
use Rattle.evidence_types.specs.EvidenceValue.{chains_parts}
use Rattle.check_evidence.specs.Grounds.{Grounds}
use Rattle.check_evidence.specs.Showing.{Shows}
use Rattle.judge_evidence.specs.ShowingLaws.{held_at}
use Rattle.evidence_trees.specs.Groups.{GroupValue}
use Rattle.evidence_trees.specs.HashTrees.{HashTree}
use Rattle.evidence_making.specs.declared.fault.LeafFault.TheVariants as leaf_fault
use Rattle.evidence_making.specs.declared.fault.MakeFault.TheVariants as make
use Rattle.evidence_making.specs.Done.{IsDoneAnewBy, StandsAnewOn}
use Rattle.evidence_making.specs.Groups.{AreAmong, IsRehashLeaf, LeavesOthers}
use Rattle.evidence_making.specs.Laws.{TokenStands}
use Rattle.evidence_making.specs.Leaves.{HasNoMoment}
use Rattle.evidence_making.specs.Renewed.{rehashed}
use Rattle.evidence_making.specs.Renewing.{StandIn}
use Rattle.library_calls.specs.Requests.{RefusesAlg}
use Rattle.library_records.specs.TreeRenewals.{IsNewRecord, IsTooLongNew, Way}
use Rattle.cli_failures.specs.declared.failure.Failure.{Failure}
use Rattle.cli_failures.specs.declared.failure.Failure.TheVariants as failure
use Rattle.cli_failures.specs.Causes.{Names}
use Rattle.library_records.specs.Renewals.{token_in, IsStampedAfter, IsNotStamped, IsUnrenewable}
use Rattle.library_records.specs.Trees.{AreDigests}

-- ---- digests of the data objects of a record

-- the octets are these digests by the algorithm, one or more, one after the other
pub record AreGiven (alg : Alg) (given : List ℕ) (digests : List Digest) : Type 0 where
  pub by : All (λ d. alg_of d ≡ alg) digests
  pub are : AreDigests alg given (map octets_of digests)

-- they are none
abbrev pub GivesNone : Alg → (given : List ℕ) → Failure → Type 0
GivesNone alg given f = Names (codes "digest") f × ((digests : List (List ℕ)) → AreDigests alg given digests → ⊥)

-- ---- what a renewal stands on

-- the record isn't renewed already
abbrev pub IsNotDoneAnew : (token octets : List ℕ) → Alg → List Digest → Type 0
IsNotDoneAnew token octets alg digests =
    (group : GroupValue) (m : ℕ) → IsDoneAnewBy (token_in token) octets alg digests group m → ⊥

-- the record is renewed already, and this is what it stood on; or it isn't, and this is what its renewal stands on
abbrev pub IsFoundAnew : (token octets : List ℕ) → (alone : Bool) → Alg → List Digest → (done : Bool) → GroupValue
    → (m : ℕ) → Type 0
IsFoundAnew token octets alone alg digests true group m = IsDoneAnewBy (token_in token) octets alg digests group m
IsFoundAnew token octets alone alg digests false group m =
    IsNotDoneAnew token octets alg digests × IsRehashLeaf octets alone alg digests group m

-- The octets encode no record; by U3 the record is encrypted, or its last time-stamp is no token; or, by U11, its first
-- list has another number of values than digests are given.
abbrev pub StandsAnewOnNothing : (octets : List ℕ) → (alone : Bool) → List Digest → Failure → Type 0
StandsAnewOnNothing octets alone digests f = IsUnrenewable HasNoMoment octets f
    ⊎ ((f ≡ failure.Unrenewable leaf_fault.Unnamed) × LeavesOthers octets alone digests)

-- this is the leaf that the new time-stamp of the record must cover, for the data objects of the digests that are given
pub record IsNewLeafOf (name given octets : List ℕ) (alone : Bool) (token leaf : List ℕ) : Type 0 where
  pub alg : Alg
  pub named : name ≡ name_of alg
  pub digests : List Digest
  pub are_given : AreGiven alg given digests
  pub group : GroupValue
  pub last : ℕ
  pub stands : StandsAnewOn (token_in token) octets alone alg digests group last
  pub same : leaf ≡ group.node

-- Memory was refused; or the first of these: no algorithm has the name; there are no such digests; and the renewal of
-- the record for them stands on nothing.
abbrev pub HasNoNewLeaf : (name given octets : List ℕ) → (alone : Bool) → Failure → Type 0
HasNoNewLeaf name given octets alone f = (f ≡ failure.Memory) ⊎ (RefusesAlg name f
    ⊎ ((alg : Alg) × (name ≡ name_of alg) × (GivesNone alg given f
    ⊎ ((digests : List Digest) × AreGiven alg given digests × StandsAnewOnNothing octets alone digests f))))

-- ---- records that get a new chain

-- how a record gets a chain over this group
abbrev pub over_group : GroupValue → Way
over_group group v alg values token = rehashed v alg group.values values token

-- What the old record shows at the moment of the new time-stamp, of data objects each of which has one of the digests,
-- the new record shows, if the token stands on the root.
abbrev pub ShowsDataAfter : HashTree → List Digest → (token octets new : List ℕ) → Type 0
ShowsDataAfter tree digests token octets new = (g : Grounds) (data_objects : List (List ℕ)) (m n : ℕ)
    → AreAmong tree.algorithm digests data_objects → TokenStands g tree.algorithm tree.root token n
    → Shows (held_at n g) octets data_objects m → Shows g new data_objects m

-- the node of the group is this leaf of the tree, and the token stamps the root after this moment
pub record IsNodeStampedAfter (tree : HashTree) (group : GroupValue) (last : ℕ) (token : List ℕ) : Type 0 where
  pub leaf : Digest
  pub is_node : octets_of leaf ≡ group.node
  pub stamped : IsStampedAfter tree leaf last token

-- The record has no such chain yet. Its renewal for the digests that are given stands on this group, whose node is a
-- leaf of the tree, and on this moment, after which the token stamps the root.
pub record IsDueAnew (tree : HashTree) (given : List ℕ) (alone : Bool) (token octets : List ℕ) : Type 0 where
  pub digests : List Digest
  pub are_given : AreGiven tree.algorithm given digests
  pub group : GroupValue
  pub last : ℕ
  pub not_done : IsNotDoneAnew token octets tree.algorithm digests
  pub stood : IsRehashLeaf octets alone tree.algorithm digests group last
  pub stamped : IsNodeStampedAfter tree group last token

-- The octets `new` encode the record that these octets encode, with a new chain of one archive time-stamp: of the
-- token, and with the values of the group in its first list, and then those that lead from its node to the root, each
-- in a list of its own. The octets of the old chains stand in the new record.
pub record IsNewChainOf (tree : HashTree) (given : List ℕ) (alone : Bool) (token octets new : List ℕ) : Type 0 where
  pub due : IsDueAnew tree given alone token octets
  pub is : IsNewRecord (over_group due.group) (λ chains all. StandIn (chains_parts chains) all) tree due.group.node
      token octets new
  pub shows : ShowsDataAfter tree due.digests token octets new

-- the octets encode a record to which the token has given a new chain already, and the node of what it stood on then is
-- a leaf of the tree, and earlier
pub record HasNewChain (tree : HashTree) (given token octets : List ℕ) : Type 0 where
  pub digests : List Digest
  pub are_given : AreGiven tree.algorithm given digests
  pub group : GroupValue
  pub last : ℕ
  pub done : IsDoneAnewBy (token_in token) octets tree.algorithm digests group last
  pub stamped : IsNodeStampedAfter tree group last token

-- a record becomes these new octets; or it has its new chain already, and stays
abbrev pub BecomesAnew : HashTree → (given : List ℕ) → (alone : Bool) → (token octets : List ℕ)
    → (new : Option (List ℕ)) → Type 0
BecomesAnew tree given alone token octets (Some new) = IsNewChainOf tree given alone token octets new
BecomesAnew tree given alone token octets None = HasNewChain tree given token octets

-- these are the octets of the record then
abbrev pub IsRehashed : HashTree → (given : List ℕ) → (alone : Bool) → (token octets new : List ℕ) → Type 0
IsRehashed tree given alone token octets new = IsNewChainOf tree given alone token octets new
    ⊎ (HasNewChain tree given token octets × (new ≡ octets))

-- U10: the record has no such chain yet, the token stamps the root after its last time-stamp, and the new one would be
-- too long
pub record IsTooLongAnew (tree : HashTree) (given : List ℕ) (alone : Bool) (token octets : List ℕ) (f : Failure)
    : Type 0 where
  pub due : IsDueAnew tree given alone token octets
  pub told : f ≡ failure.Unmade make.TooLong
  pub long : IsTooLongNew (over_group due.group) tree due.group.node token octets

-- For these digests the renewal of the record stands on a group whose node is no leaf of the tree, or the token doesn't
-- stamp the root after the last time-stamp.
pub record IsNotOnTree (tree : HashTree) (alone : Bool) (token octets : List ℕ) (digests : List Digest) (f : Failure)
    : Type 0 where
  pub group : GroupValue
  pub last : ℕ
  pub stands : StandsAnewOn (token_in token) octets alone tree.algorithm digests group last
  pub leaf : Digest
  pub is_node : octets_of leaf ≡ group.node
  pub not : IsNotStamped tree leaf last token f

-- Memory was refused; or the first of these: the octets are no digests by the algorithm of the tree; for them the
-- renewal of the record stands on nothing, or not on the tree; and the new record would be too long.
abbrev pub RehashesNot : HashTree → (given : List ℕ) → (alone : Bool) → (token octets : List ℕ) → Failure → Type 0
RehashesNot tree given alone token octets f = (f ≡ failure.Memory) ⊎ (GivesNone tree.algorithm given f
    ⊎ (((digests : List Digest) × AreGiven tree.algorithm given digests
    × (StandsAnewOnNothing octets alone digests f ⊎ IsNotOnTree tree alone token octets digests f))
    ⊎ IsTooLongAnew tree given alone token octets f))
