-- Evidence records that are renewed by a time-stamp (Time-Stamp Renewal, RFC 4998, 5.2), and why they are not.
--
-- A token that is handed in may have renewed the record already, as where earlier work was cut off. Then the renewal
-- stands on what it stood on before, and the record stays as it is.
use Rattle.std.specs.Prelude.{◌≡◌, ◌≢◌, ◌<◌, ◌≤◌, ◌⊎◌, ℕ, Bool, true, false, List, [], ◌∷◌, Option, Some, None}
use Rattle.std.specs.Prelude.{Contains, codes}
use Rattle.der_core.specs.Grammar.{file}
use Rattle.digests.specs.Algorithms.{name_of}
use Rattle.digests.specs.Digests.{alg_of, octets_of}
use Rattle.digests.specs.declared.algorithm.Alg.{Alg}
use Rattle.digests.specs.declared.value.Digest.{Digest}
use Rattle.evidence_types.specs.EvidenceTable.{evidence_record}
use Rattle.check_evidence.specs.Grounds.{Grounds}
use Rattle.check_evidence.specs.Showing.{Shows}
use Rattle.judge_evidence.specs.ShowingLaws.{held_at}
use Rattle.evidence_trees.specs.HashTrees.{HashTree}
use Rattle.evidence_making.specs.declared.fault.LeafFault.TheVariants as leaf_fault
use Rattle.evidence_making.specs.declared.fault.MakeFault.TheVariants as make
use Rattle.evidence_making.specs.declared.fault.RenewFault.{RenewFault}
use Rattle.evidence_making.specs.declared.fault.RenewFault.TheVariants as renew_fault
use Rattle.evidence_making.specs.declared.fault.StampFault.TheVariants as stamp
use Rattle.evidence_making.specs.declared.leaves.LastStamp.{LastStamp}
use Rattle.evidence_making.specs.Done.{IsDoneBy, StandsOn}
use Rattle.evidence_making.specs.Laws.{TokenStands}
use Rattle.evidence_making.specs.Leaves.{HasNoStamp, IsLastStamp}
use Rattle.evidence_making.specs.Renewed.{renewed}
use Rattle.evidence_making.specs.Renewing.{ChainsStandIn}
use Rattle.library_calls.specs.Requests.{RefusesAlg}
use Rattle.library_records.specs.TreeRenewals.{IsNewRecord, IsTooLongNew, StampsTree}
use Rattle.cli_failures.specs.declared.failure.Failure.{Failure}
use Rattle.cli_failures.specs.declared.failure.Failure.TheVariants as failure
use Rattle.cli_failures.specs.Causes.{IsMalformed, Names}
use Rattle.library_records.specs.Trees.{StampsNot}

-- ---- what a renewal stands on

-- the token that is handed in; no octets are none
abbrev pub token_in : (octets : List ℕ) → Option (List ℕ)
token_in [] = None
token_in (o ∷ octets) = Some (o ∷ octets)

-- the record isn't renewed already
abbrev pub IsNotDone : (token octets : List ℕ) → Type 0
IsNotDone token octets = (other : LastStamp) → IsDoneBy (token_in token) octets other → ⊥

-- the record is renewed already, and this is what it stood on; or it isn't, and this is its last time-stamp
abbrev pub IsFound : (token octets : List ℕ) → (done : Bool) → LastStamp → Type 0
IsFound token octets true last = IsDoneBy (token_in token) octets last
IsFound token octets false last = IsNotDone token octets × IsLastStamp octets last

-- the octets encode no record; or, by U3, it has nothing on which a renewal stands
abbrev pub IsUnrenewable : (HasNone : List ℕ → Type 0) → (octets : List ℕ) → Failure → Type 0
IsUnrenewable HasNone octets f = IsMalformed (file evidence_record) octets f
    ⊎ ((f ≡ failure.Unrenewable leaf_fault.NoStamp) × HasNone octets)

-- so it is if the record is encrypted, its last time-stamp is no token, or its last chain has no known algorithm
abbrev pub HasNoLast : (octets : List ℕ) → Failure → Type 0
HasNoLast octets f = IsUnrenewable HasNoStamp octets f

-- or memory was refused, which is asked for only where a token is handed in
abbrev pub StandsOnNothing : (octets token : List ℕ) → Failure → Type 0
StandsOnNothing octets token f = ((f ≡ failure.Memory) × (token ≢ [])) ⊎ HasNoLast octets f

-- this is the leaf that the new time-stamp of the record must cover, by the algorithm of this name
pub record IsLeafOf (name octets token leaf : List ℕ) : Type 0 where
  pub last : LastStamp
  pub stands : StandsOn (token_in token) octets last
  pub named : name ≡ name_of (alg_of last.leaf)
  pub same : leaf ≡ octets_of last.leaf

-- by U4 the leaf is by another algorithm than this one
pub record IsMixed (alg : Alg) (octets token : List ℕ) (f : Failure) : Type 0 where
  pub told : f ≡ failure.Mixed
  pub last : LastStamp
  pub stands : StandsOn (token_in token) octets last
  pub other : alg_of last.leaf ≢ alg

-- The first of these: no algorithm has the name; the renewal of the record stands on nothing; and its leaf is by
-- another algorithm.
abbrev pub HasNoLeaf : (name octets token : List ℕ) → Failure → Type 0
HasNoLeaf name octets token f = RefusesAlg name f
    ⊎ ((alg : Alg) × (name ≡ name_of alg) × (StandsOnNothing octets token f ⊎ IsMixed alg octets token f))

-- this is the name of the algorithm that the tree must have
abbrev pub IsAlgorithmOf : (octets name : List ℕ) → Type 0
IsAlgorithmOf octets name = (last : LastStamp) × IsLastStamp octets last × (name ≡ name_of last.alg)

-- ---- leaves and trees

-- the leaf is one of the tree, by its algorithm, and the token stamps the root after this moment
pub record IsStampedAfter (tree : HashTree) (leaf : Digest) (last : ℕ) (token : List ℕ) : Type 0 where
  pub by : alg_of leaf ≡ tree.algorithm
  pub there : Contains tree.leaves (octets_of leaf)
  pub moment : ℕ
  pub stamped : StampsTree tree token moment
  pub later : last < moment

-- U9: the token stamps the root, and isn't later than this moment
abbrev pub IsTooEarly : HashTree → (last : ℕ) → (token : List ℕ) → Failure → Type 0
IsTooEarly tree last token f = (f ≡ failure.Unstamping stamp.Order) × ((m : ℕ) × StampsTree tree token m × (m ≤ last))

-- The first of these: by U4 the leaf is by another algorithm than the tree; it is none of its leaves; the token doesn't
-- stamp the root; and it isn't later than this moment.
abbrev pub IsNotStamped : HashTree → (leaf : Digest) → (last : ℕ) → (token : List ℕ) → Failure → Type 0
IsNotStamped tree leaf last token f = ((f ≡ failure.Mixed) × (alg_of leaf ≢ tree.algorithm))
    ⊎ ((Names (codes "record") f × (alg_of leaf ≡ tree.algorithm) × (Contains tree.leaves (octets_of leaf) → ⊥))
    ⊎ ((alg_of leaf ≡ tree.algorithm) × Contains tree.leaves (octets_of leaf)
    × (StampsNot tree token f ⊎ IsTooEarly tree last token f)))

-- ---- records that are renewed

-- what the program says of a record that isn't renewed
abbrev pub failure_of_renewal : RenewFault → Failure
failure_of_renewal (renew_fault.Malformed fault) = failure.Malformed fault
failure_of_renewal renew_fault.TooLong = failure.Unmade make.TooLong
failure_of_renewal renew_fault.OutOfMemory = failure.Memory

-- What the old record shows at the moment of the new time-stamp the new one shows, if the token stands on the root.
abbrev pub ShowsAfter : HashTree → (token octets new : List ℕ) → Type 0
ShowsAfter tree token octets new = (g : Grounds) (data_objects : List (List ℕ)) (m n : ℕ)
    → TokenStands g tree.algorithm tree.root token n → Shows (held_at n g) octets data_objects m
    → Shows g new data_objects m

-- The octets `new` encode the record that these octets encode, with a new archive time-stamp in its last chain: of the
-- token, which stamps the root later than the last time-stamp, and with the values that lead to the root from the leaf
-- that this is, each in a list of its own. The octets of the old chains, and of the archive time-stamps of the last
-- one, stand in the new record.
pub record IsRenewalOf (tree : HashTree) (token octets new : List ℕ) : Type 0 where
  pub last : LastStamp
  pub not_done : IsNotDone token octets
  pub stood : IsLastStamp octets last
  pub stamped : IsStampedAfter tree last.leaf last.moment token
  pub is : IsNewRecord renewed ChainsStandIn tree (octets_of last.leaf) token octets new
  pub shows : ShowsAfter tree token octets new

-- the octets encode a record that the token has renewed already, and what it stood on then is a leaf of the tree, and
-- earlier
pub record IsDone (tree : HashTree) (token octets : List ℕ) : Type 0 where
  pub last : LastStamp
  pub done : IsDoneBy (token_in token) octets last
  pub stamped : IsStampedAfter tree last.leaf last.moment token

-- a record becomes these new octets; or it is renewed already, and stays
abbrev pub Becomes : HashTree → (token octets : List ℕ) → (new : Option (List ℕ)) → Type 0
Becomes tree token octets (Some new) = IsRenewalOf tree token octets new
Becomes tree token octets None = IsDone tree token octets

-- these are the octets of the record then
abbrev pub IsRenewed : HashTree → (token octets new : List ℕ) → Type 0
IsRenewed tree token octets new = IsRenewalOf tree token octets new ⊎ (IsDone tree token octets × (new ≡ octets))

-- U10: the record isn't renewed yet, the token stamps the root after its last time-stamp, and the new one would be too
-- long
pub record IsTooLong (tree : HashTree) (token octets : List ℕ) (f : Failure) : Type 0 where
  pub last : LastStamp
  pub not_done : IsNotDone token octets
  pub stood : IsLastStamp octets last
  pub stamped : IsStampedAfter tree last.leaf last.moment token
  pub told : f ≡ failure.Unmade make.TooLong
  pub long : IsTooLongNew renewed tree (octets_of last.leaf) token octets

-- Memory was refused; or the first of these: the record has no last time-stamp; that is no leaf of the tree, or the
-- token doesn't stamp the root after it; and the new record would be too long.
abbrev pub RenewsNot : HashTree → (token octets : List ℕ) → Failure → Type 0
RenewsNot tree token octets f = (f ≡ failure.Memory) ⊎ (HasNoLast octets f
    ⊎ (((last : LastStamp) × StandsOn (token_in token) octets last
    × IsNotStamped tree last.leaf last.moment token f)
    ⊎ IsTooLong tree token octets f))
