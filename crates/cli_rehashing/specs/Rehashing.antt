-- What `evidence rehash` makes (Hash-Tree Renewal, RFC 4998, 5.2): the request for a stamp of the root of the tree over
-- the leaves of the records of a text of sums, and with its token each record with a new chain, in its place.
-- `holds` is what an open file holds, and `contents` what it has taken, if that is known. Begin here.
use Rattle.std.specs.Prelude.{◌≡◌, ◌≢◌, ◌⊎◌, ◌<◌, ◌≤◌, ◌^◌, ℕ, Bool, List, Option, None, Some, Contains}
use Rattle.std.specs.Prelude.{length}
use Rattle.std.specs.List.{AllByRecursion}
use Rattle.der_core.specs.declared.fault.Fault.{Fault}
use Rattle.der_core.specs.Faults.{Faults}
use Rattle.der_core.specs.Grammar.{file}
use Rattle.digests.specs.declared.algorithm.Alg.{Alg}
use Rattle.digests.specs.declared.value.Digest.{Digest}
use Rattle.digests.specs.Algorithms.{name_of}
use Rattle.evidence_types.specs.EvidenceTable.{evidence_record}
use Rattle.evidence_types.specs.EvidenceValue.{EvidenceValue, EncodesEvidence, chains_parts, evidence_parts}
use Rattle.check_evidence.specs.Grounds.{Grounds}
use Rattle.check_evidence.specs.Showing.{Shows}
use Rattle.judge_evidence.specs.ShowingLaws.{held_at}
use Rattle.evidence_trees.specs.HashTrees.{HashTree}
use Rattle.evidence_trees.specs.Groups.{GroupValue}
use Rattle.evidence_sums.specs.Records.{RecordValue}
use Rattle.evidence_making.specs.Done.{IsRehashedBy, StandsAnewOn}
use Rattle.evidence_making.specs.Laws.{TokenStands}
use Rattle.evidence_making.specs.Groups.{AreAmong, IsRehashLeaf, LeavesOthers}
use Rattle.evidence_making.specs.Leaves.{HasNoMoment}
use Rattle.evidence_making.specs.Renewed.{rehashed}
use Rattle.evidence_making.specs.Renewing.{StandIn}
use Rattle.cli_tasks.specs.declared.task.RehashRequestWords.{RehashRequestWords}
use Rattle.cli_tasks.specs.declared.task.RehashWords.{RehashWords}
use Rattle.cli_failures.specs.Files.{IsHeld, path_below}
use Rattle.cli_making.specs.Given.{AreGiven}
use Rattle.cli_renewing.specs.Keeping.{IsTaken, Kept, Ways, system_ways}
use Rattle.cli_renewing.specs.Records.{Renewal}
use Rattle.cli_renewing.specs.Renewing.{IsNoLeaf, LeadsUp}
use Rattle.cli_renewing.specs.Runs.{AreDone, IsRequestOn}
use Rattle.cli_rehashing.specs.declared.folder.RecordFolder.{RecordFolder}
use Rattle.cli_rehashing.specs.Footings.{AreLineFootings}
use Rattle.cli_rehashing.specs.Lines.{AreLines}
use Rattle.cli_rehashing.specs.Standing.{IsNodeOf}

-- ---- the request

-- the folder that the words of a command name, and what they take its records for
abbrev pub asked_folder : RehashRequestWords → RecordFolder
asked_folder words = record { path = words.into; alone = words.alone }

abbrev pub given_folder : RehashWords → RecordFolder
given_folder words = record { path = words.into; alone = words.alone }

-- these octets encode the request for a stamp of the root of the tree on the records of a text
pub record IsRehashRequest (ways : Ways) (folder : RecordFolder) (alg : Alg) (text octets : List ℕ) : Type 0 where
  pub sums : List RecordValue
  pub are : AreLines alg text sums
  pub made : IsRequestOn (λ footings. AreLineFootings ways None folder sums footings) octets

-- the file that the words name for the request is that of none of these records, by their paths
abbrev pub IsApart : RehashRequestWords → List RecordValue → Type 0
IsApart words sums = AllByRecursion (λ s. words.out.now ≢ path_below words.into.now s.name) sums

-- the text of a file has the request, by the algorithm of the words
pub record IsRequested {F : Type 0} (holds contents : F → Option (List ℕ)) (words : RehashRequestWords) : Type 0 where
  pub alg : Alg
  pub named : words.alg.now ≡ name_of alg
  pub text : List ℕ
  pub held : IsHeld holds text
  pub octets : List ℕ
  pub made : IsRehashRequest (system_ways holds contents) (asked_folder words) alg text octets

-- a file took the octets of that request; and it is neither that of the sums nor one of a record, by their paths
pub record IsRehashRequestWritten {F : Type 0} (holds contents : F → Option (List ℕ)) (words : RehashRequestWords)
    : Type 0 where
  pub requested : IsRequested holds contents words
  pub written : IsTaken contents requested.octets
  pub not_sums : words.out.now ≢ words.sums.now
  pub apart : IsApart words requested.made.sums

-- ---- one record

-- What the old record shows at the moment of the new time-stamp of data objects that each have one of these digests the
-- new record shows of them, if the token stands on the root.
abbrev pub ShowsDataAfter : HashTree → (digests : List Digest) → (token octets new : List ℕ) → Type 0
ShowsDataAfter tree digests token octets new = (g : Grounds) (data_objects : List (List ℕ)) (m n : ℕ)
    → AreAmong tree.algorithm digests data_objects → TokenStands g tree.algorithm tree.root token n
    → Shows (held_at n g) octets data_objects m → Shows g new data_objects m

-- The octets `new` encode the record that these octets encode, with a new chain by the token at this moment, for the
-- data objects of these digests: its last time-stamp is earlier, and its leaf is one of the tree, which is by the
-- digests' algorithm. The first list of the new archive time-stamp has the values of the group whose node the leaf is,
-- and the others those that lead from there to the root. The octets of the old chains stand in the new record.
pub record IsNewChainOf (tree : HashTree) (token : List ℕ) (m : ℕ) (alone : Bool) (alg : Alg) (digests : List Digest)
    (octets new : List ℕ) : Type 0 where
  pub by : alg ≡ tree.algorithm
  pub group : GroupValue
  pub last : ℕ
  pub stood : IsRehashLeaf octets alone alg digests group last
  pub leaf : Digest
  pub node : IsNodeOf group leaf
  pub later : last < m
  pub values : List (List ℕ)
  pub up : LeadsUp tree leaf values
  pub old : EvidenceValue
  pub was : EncodesEvidence octets old
  pub encoded : EncodesEvidence new (rehashed old tree.algorithm group.values values token)
  pub stays : StandIn (chains_parts old.chains) new
  pub shows : ShowsDataAfter tree digests token octets new

-- The octets encode a record that has been renewed so by the token already, and the node of what it stood on then is a
-- leaf of the tree, and earlier.
pub record HasNewChain (tree : HashTree) (token : List ℕ) (m : ℕ) (alg : Alg) (digests : List Digest)
    (octets : List ℕ) : Type 0 where
  pub by : alg ≡ tree.algorithm
  pub group : GroupValue
  pub last : ℕ
  pub done : IsRehashedBy octets token alg digests group last
  pub there : Contains tree.leaves group.node
  pub later : last < m

-- a record becomes these new octets; or it is renewed already, and stays
abbrev pub BecomesAnew : HashTree → (token : List ℕ) → (m : ℕ) → (alone : Bool) → Alg → (digests : List Digest)
    → (octets : List ℕ) → (new : Option (List ℕ)) → Type 0
BecomesAnew tree token m alone alg digests octets (Some new) =
    IsNewChainOf tree token m alone alg digests octets new
BecomesAnew tree token m alone alg digests octets None = HasNewChain tree token m alg digests octets

-- the record, with the new chain, would be longer than an element can be
pub record IsTooLongAnew (tree : HashTree) (token : List ℕ) (alone : Bool) (alg : Alg) (digests : List Digest)
    (octets : List ℕ) : Type 0 where
  pub by : alg ≡ tree.algorithm
  pub group : GroupValue
  pub last : ℕ
  pub stood : IsRehashLeaf octets alone alg digests group last
  pub leaf : Digest
  pub node : IsNodeOf group leaf
  pub values : List (List ℕ)
  pub up : LeadsUp tree leaf values
  pub size : (old : EvidenceValue) × EncodesEvidence octets old
      × (2 ^ 32 ≤ length (evidence_parts (rehashed old tree.algorithm group.values values token)))

-- the tree isn't over these octets, for the data objects of these digests: they encode no record; or, by U3 or U11, one
-- that can't be renewed; or what its renewal by the token stands on is no leaf of the tree, or not earlier
abbrev pub IsOutsideAnew : HashTree → (token : List ℕ) → (m : ℕ) → (alone : Bool) → Alg → (digests : List Digest)
    → (octets : List ℕ) → Type 0
IsOutsideAnew tree token m alone alg digests octets =
    ((fault : Fault) × Faults (file evidence_record) octets fault)
    ⊎ (HasNoMoment octets ⊎ (LeavesOthers octets alone digests
    ⊎ ((group : GroupValue) × (last : ℕ) × StandsAnewOn (Some token) octets alone alg digests group last
    × ((leaf : Digest) × IsNodeOf group leaf × IsNoLeaf tree m leaf last))))

-- ---- all records

-- so it is done with a record, which is below a folder
abbrev pub rehashing : RecordFolder → HashTree → (token : List ℕ) → (m : ℕ) → Renewal RecordValue
rehashing folder tree token m = record {
  path = λ s. path_below folder.path.now s.name;
  Becomes = λ s octets new. BecomesAnew tree token m folder.alone s.alg s.digests octets new;
  IsTooLong = λ s octets. IsTooLongAnew tree token folder.alone s.alg s.digests octets;
  IsOutside = λ s octets. IsOutsideAnew tree token m folder.alone s.alg s.digests octets;
}

-- The token stamps the root of the tree on these records, later than their last time-stamps; a test found what each
-- record becomes; and then each that isn't renewed already was replaced by the new one, and no other file.
abbrev pub AreAnewOn : Ways → (before after : Option (List Kept)) → RecordFolder → List RecordValue
    → (token : List ℕ) → Type 0
AreAnewOn ways before after folder sums token =
    AreDone ways before after (λ footings. AreLineFootings ways (Some token) folder sums footings) (rehashing folder)
    sums token

-- so it is of the records of a text
pub record AreAnew (ways : Ways) (before after : Option (List Kept)) (folder : RecordFolder) (alg : Alg)
    (text token : List ℕ) : Type 0 where
  pub sums : List RecordValue
  pub are : AreLines alg text sums
  pub made : AreAnewOn ways before after folder sums token

-- so it is of the text of a file, by the algorithm that the words name, and of the token that a file holds
pub record AreRecordsAnew {F : Type 0} (holds contents : F → Option (List ℕ)) (words : RehashWords) : Type 0 where
  pub alg : Alg
  pub text : List ℕ
  pub token : List ℕ
  pub given : AreGiven holds (Some words.alg.now) alg text token
  pub are : AreAnew (system_ways holds contents) None None (given_folder words) alg text token
