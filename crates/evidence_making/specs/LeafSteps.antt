-- What is found on the way to what a renewal stands on.
use Rattle.std.specs.Prelude.{◌≡◌, ◌⊎◌, ℕ, Bool, List, ◌++◌, length, Some, None, Result, Ok, Err}
use Rattle.der_core.specs.Element.{el}
use Rattle.der_core.specs.Faults.{Faults}
use Rattle.digests.specs.Digests.{alg_of, octets_of}
use Rattle.digests.specs.Messages.{digest_of}
use Rattle.der_core.specs.Grammar.{file}
use Rattle.evidence_types.specs.EvidenceTable.{evidence_record}
use Rattle.evidence_types.specs.StampValue.{StampValue}
use Rattle.evidence_types.specs.EvidenceValue.{EvidenceValue, EncodesEvidence}
use Rattle.check_evidence.specs.Places.{Place, IsIn, first_beside}
use Rattle.check_evidence.specs.Refusing.{IsEncrypted}
use Rattle.judge_evidence.specs.Going.{IsLastPlace}
use Rattle.evidence_making.specs.declared.fault.LeafFault.{LeafFault}
use Rattle.evidence_making.specs.declared.fault.LeafFault.TheVariants.{Malformed, NoStamp, OutOfMemory, Unnamed}
use Rattle.check_evidence.specs.StampStates.{HasTime}
use Rattle.digests.specs.declared.algorithm.Alg.{Alg}
use Rattle.digests.specs.declared.value.Digest.{Digest}
use Rattle.evidence_making.specs.declared.leaves.NewLeaf.{NewLeaf}
use Rattle.evidence_making.specs.Groups.{AreAll, IsRehashOn, LeaveOthers}
use Rattle.evidence_making.specs.Leaves.{EndsWithoutTime, EndsWithoutAlg}

-- the octets encode a record whose data are open; or they have this fault; or the record is encrypted
abbrev pub IsOpened : (octets : List ℕ) → Result EvidenceValue LeafFault → Type 0
IsOpened octets (Ok v) = EncodesEvidence octets v × (v.encryption ≡ None)
IsOpened octets (Err (Malformed fault)) = Faults (file evidence_record) octets fault
IsOpened octets (Err NoStamp) = IsEncrypted octets
IsOpened octets (Err Unnamed) = ⊥
IsOpened octets (Err OutOfMemory) = ⊥

-- the first and the last archive time-stamp of the last chain
pub record AreEndsOf (chains : List (List StampValue)) (first last : StampValue) : Type 0 where
  pub place : Place
  pub there : IsIn chains place
  pub is_last : IsLastPlace place
  pub at : place.stamp ≡ last
  pub is_first : first_beside place ≡ Some first

-- the last time-stamp states a moment, and so many digests are all
pub record HaveAll (alone : Bool) (chains : List (List StampValue)) (count : ℕ) : Type 0 where
  pub place : Place
  pub there : IsIn chains place
  pub is_last : IsLastPlace place
  pub moment : ℕ
  pub time : HasTime place.stamp moment
  pub all : AreAll alone chains count

-- the chains end without a moment, or without an algorithm
abbrev pub EndWithoutEither : List (List StampValue) → Type 0
EndWithoutEither chains = EndsWithoutTime chains ⊎ EndsWithoutAlg chains

-- what the renewal of chains by a hash tree stands on, for data objects of these digests, by a group as this shows it;
-- or they end without a moment; or they have other data objects; or there is a moment and no other, and memory was
-- refused
abbrev pub IsNewLeaf : (alone : Bool) → (chains : List (List StampValue)) → Alg → (digests : List Digest)
    → Result NewLeaf LeafFault → Type 0
IsNewLeaf alone chains alg digests (Ok new) = IsRehashOn alone chains alg digests new.group new.after
IsNewLeaf alone chains alg digests (Err (Malformed fault)) = ⊥
IsNewLeaf alone chains alg digests (Err NoStamp) = EndsWithoutTime chains
IsNewLeaf alone chains alg digests (Err Unnamed) = LeaveOthers alone chains (length digests)
IsNewLeaf alone chains alg digests (Err OutOfMemory) = HaveAll alone chains (length digests)

-- what a new chain after these must cover for the data object of a digest: H(h + ha) (5.2, steps 3 and 4)
pub record IsNewLeafOf (alg : Alg) (before : List ℕ) (digest leaf : Digest) : Type 0 where
  pub by : alg_of leaf ≡ alg
  pub hashed : octets_of leaf ≡ digest_of alg (octets_of digest ++ digest_of alg (el 0x30 before))
