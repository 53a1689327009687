-- What `evidence renew` makes (Time-Stamp Renewal, RFC 4998, 5.2): the request for a stamp of the root of the tree over
-- the last time-stamps of records, and with its token the records renewed, each in its place. `holds` is what an open
-- file holds, and `contents` what it has taken, if that is known. Begin here.
use Rattle.std.specs.Prelude.{◌≡◌, ◌≢◌, ◌⊎◌, ◌<◌, ◌≤◌, ◌^◌, ℕ, List, Option, None, Some, Contains, codes, length}
use Rattle.std.specs.Borrow.{Bor}
use Rattle.std.specs.List.{AllByRecursion}
use Rattle.der_core.specs.declared.fault.Fault.{Fault}
use Rattle.der_core.specs.Faults.{Faults}
use Rattle.der_core.specs.Grammar.{file}
use Rattle.digests.specs.declared.value.Digest.{Digest}
use Rattle.digests.specs.Digests.{alg_of, octets_of}
use Rattle.evidence_types.specs.EvidenceTable.{evidence_record}
use Rattle.evidence_types.specs.EvidenceValue.{EvidenceValue, EncodesEvidence, evidence_parts}
use Rattle.check_evidence.specs.Grounds.{Grounds}
use Rattle.check_evidence.specs.Showing.{Shows}
use Rattle.judge_evidence.specs.ShowingLaws.{held_at}
use Rattle.evidence_trees.specs.HashTrees.{HashTree, IsWayFrom, AreListsOf}
use Rattle.evidence_making.specs.declared.leaves.LastStamp.{LastStamp}
use Rattle.evidence_making.specs.Done.{IsRenewedBy, StandsOn}
use Rattle.evidence_making.specs.Laws.{TokenStands}
use Rattle.evidence_making.specs.Leaves.{HasNoStamp, IsLastStamp}
use Rattle.evidence_making.specs.Renewed.{renewed}
use Rattle.evidence_making.specs.Renewing.{ChainsStandIn}
use Rattle.cli_tasks.specs.declared.task.RenewWords.{RenewWords}
use Rattle.cli_tasks.specs.declared.task.RenewalRequestWords.{RenewalRequestWords}
use Rattle.cli_failures.specs.Files.{IsHeld}
use Rattle.cli_renewing.specs.Footings.{AreFootings}
use Rattle.cli_renewing.specs.Keeping.{IsTaken, Kept, Ways, system_ways}
use Rattle.cli_renewing.specs.Records.{Renewal}
use Rattle.cli_renewing.specs.Runs.{AreDone, IsRequestOn}

-- ---- the request

-- these octets encode the request for a stamp of the root of the tree on the records of these paths
abbrev pub IsRenewalRequest : Ways → (paths : List (Bor (List ℕ))) → (octets : List ℕ) → Type 0
IsRenewalRequest ways paths octets = IsRequestOn (λ footings. AreFootings ways None paths footings) octets

-- a file took the octets of that request
pub record IsRenewalRequestWritten {F : Type 0} (holds contents : F → Option (List ℕ)) (words : RenewalRequestWords)
    : Type 0 where
  pub octets : List ℕ
  pub made : IsRenewalRequest (system_ways holds contents) words.records.items octets
  pub written : IsTaken contents octets

-- that file is the one of none of the records, by their paths
abbrev pub IsApart : RenewalRequestWords → Type 0
IsApart words = AllByRecursion (λ path. words.out.now ≢ path.now) words.records.items

-- ---- one record

-- What the old record shows at the moment of the new time-stamp the new one shows, if the token stands on the root.
abbrev pub ShowsAfter : HashTree → (token octets new : List ℕ) → Type 0
ShowsAfter tree token octets new = (g : Grounds) (data_objects : List (List ℕ)) (m n : ℕ)
    → TokenStands g tree.algorithm tree.root token n → Shows (held_at n g) octets data_objects m
    → Shows g new data_objects m

-- These are the values that lead from a leaf of the tree to its root: the leaf, which is by the tree's algorithm, and
-- the neighbours on its way up, each in a list of its own.
pub record LeadsUp (tree : HashTree) (leaf : Digest) (values : List (List ℕ)) : Type 0 where
  pub by : alg_of leaf ≡ tree.algorithm
  pub there : Contains tree.leaves (octets_of leaf)
  pub way : IsWayFrom tree (octets_of leaf) values
  pub lists : AreListsOf tree (octets_of leaf) values

-- The octets `new` encode the record that these octets encode, renewed by the token at this moment: its last
-- time-stamp is earlier, and its leaf is one of the tree, by the algorithm of the chain. The new archive time-stamp has
-- the values that lead from there to the root. The octets of the old chains, and of the archive time-stamps of the last
-- one, stand in the new record.
pub record IsRenewalOf (tree : HashTree) (token : List ℕ) (m : ℕ) (octets new : List ℕ) : Type 0 where
  pub last : LastStamp
  pub stood : IsLastStamp octets last
  pub by : last.alg ≡ tree.algorithm
  pub later : last.moment < m
  pub values : List (List ℕ)
  pub up : LeadsUp tree last.leaf values
  pub old : EvidenceValue
  pub was : EncodesEvidence octets old
  pub encoded : EncodesEvidence new (renewed old tree.algorithm values token)
  pub stays : ChainsStandIn old.chains new
  pub shows : ShowsAfter tree token octets new

-- The octets encode a record that has been renewed by the token already, and what it stood on then is a leaf of the
-- tree, by the algorithm of the chain, and earlier.
pub record IsDone (tree : HashTree) (token : List ℕ) (m : ℕ) (octets : List ℕ) : Type 0 where
  pub last : LastStamp
  pub done : IsRenewedBy octets token last
  pub by : last.alg ≡ tree.algorithm
  pub leaf : Contains tree.leaves (octets_of last.leaf)
  pub later : last.moment < m

-- a record becomes these new octets; or it is renewed already, and stays
abbrev pub Becomes : HashTree → (token : List ℕ) → (m : ℕ) → (octets : List ℕ) → (new : Option (List ℕ)) → Type 0
Becomes tree token m octets (Some new) = IsRenewalOf tree token m octets new
Becomes tree token m octets None = IsDone tree token m octets

-- the record, renewed, would be longer than an element can be
pub record IsTooLong (tree : HashTree) (token octets : List ℕ) : Type 0 where
  pub last : LastStamp
  pub stood : IsLastStamp octets last
  pub values : List (List ℕ)
  pub up : LeadsUp tree last.leaf values
  pub size : (old : EvidenceValue) × EncodesEvidence octets old
      × (2 ^ 32 ≤ length (evidence_parts (renewed old tree.algorithm values token)))

-- what a renewal stands on isn't earlier than the new time-stamp, or no leaf of the tree, by its algorithm
abbrev pub IsNoLeaf : HashTree → (m : ℕ) → (leaf : Digest) → (last : ℕ) → Type 0
IsNoLeaf tree m leaf last = (m ≤ last) ⊎ ((alg_of leaf ≡ tree.algorithm) × Contains tree.leaves (octets_of leaf) → ⊥)

-- the tree isn't over these octets: they encode no record; or, by U3, one that can't be renewed; or what its renewal by
-- the token stands on is no leaf of the tree, or not earlier
abbrev pub IsOutside : HashTree → (token : List ℕ) → (m : ℕ) → (octets : List ℕ) → Type 0
IsOutside tree token m octets = ((fault : Fault) × Faults (file evidence_record) octets fault) ⊎ (HasNoStamp octets
    ⊎ ((last : LastStamp) × StandsOn (Some token) octets last × IsNoLeaf tree m last.leaf last.moment))

-- ---- all records

-- so it is done with the record of a path
abbrev pub renewal : HashTree → (token : List ℕ) → (m : ℕ) → Renewal (Bor (List ℕ))
renewal tree token m = record {
  path = λ path. path.now;
  Becomes = λ path octets new. Becomes tree token m octets new;
  IsTooLong = λ path octets. IsTooLong tree token octets;
  IsOutside = λ path octets. IsOutside tree token m octets;
}

-- The token stamps the root of the tree on these records, later than their last time-stamps; a test found that all can
-- be renewed; and then each record that isn't renewed already was replaced by the new one, and no other file.
abbrev pub AreRenewed : Ways → (before after : Option (List Kept)) → (paths : List (Bor (List ℕ)))
    → (token : List ℕ) → Type 0
AreRenewed ways before after paths token =
    AreDone ways before after (λ footings. AreFootings ways (Some token) paths footings) renewal paths token

-- none of these is the standard input
abbrev pub AreNoInput : List (Bor (List ℕ)) → Type 0
AreNoInput paths = AllByRecursion (λ path. path.now ≢ codes "-") paths

-- so it is of the records of these words, by the token that a file holds
pub record AreRecordsRenewed {F : Type 0} (holds contents : F → Option (List ℕ)) (words : RenewWords) : Type 0 where
  pub no_input : AreNoInput words.records.items
  pub token : List ℕ
  pub token_held : IsHeld holds token
  pub are : AreRenewed (system_ways holds contents) None None words.records.items token
