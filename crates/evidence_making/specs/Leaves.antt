-- What the renewal of an evidence record stands on (RFC 4998, 5.2).
use Rattle.std.specs.Prelude.{◌≡◌, ◌⊎◌, ⊤, ℕ, ◌<◌, List, [], ◌∷◌, ◌++◌, Some, None}
use Rattle.der_core.specs.Element.{el}
use Rattle.digests.specs.Digests.{alg_of, octets_of}
use Rattle.digests.specs.Messages.{digest_of}
use Rattle.digests.specs.declared.value.Digest.{Digest}
use Rattle.evidence_types.specs.StampValue.{StampValue}
use Rattle.evidence_types.specs.EvidenceValue.{EvidenceValue, EncodesEvidence, chains_parts}
use Rattle.check_evidence.specs.Grounds.{Grounds}
use Rattle.check_evidence.specs.Places.{Place, IsIn}
use Rattle.check_evidence.specs.StampStates.{HasTime}
use Rattle.check_evidence.specs.Covering.{covered_at}
use Rattle.check_evidence.specs.Refusing.{IsEncrypted}
use Rattle.evidence_stamps.specs.PlaceValues.{IsChainAlg}
use Rattle.judge_evidence.specs.Going.{IsLastPlace}
use Rattle.evidence_trees.specs.HashTrees.{HashTree, AreListsOf}
use Rattle.evidence_making.specs.declared.fault.LeafFault.{LeafFault}
use Rattle.evidence_making.specs.declared.fault.LeafFault.TheVariants.{Malformed, NoStamp, OutOfMemory, Unnamed}
use Rattle.evidence_making.specs.declared.leaves.LastStamp.{LastStamp}
use Rattle.evidence_making.specs.Laws.{TokenStands}
use Rattle.evidence_making.specs.Renewed.{renewed}
use Rattle.evidence_making.specs.RenewalLaws.{LastStands}

-- ---- chains

-- of these chains a renewal by a time-stamp stands on this: the algorithm of the last one, the hash value by it of the
-- last `timeStamp`, the whole element, and the moment that this states
pub record IsLastOf (chains : List (List StampValue)) (last : LastStamp) : Type 0 where
  pub place : Place
  pub there : IsIn chains place
  pub is_last : IsLastPlace place
  pub chain_alg : IsChainAlg place (Some last.alg)
  pub by : alg_of last.leaf ≡ last.alg
  pub hashed : octets_of last.leaf ≡ digest_of last.alg place.stamp.stamp
  pub time : HasTime place.stamp last.moment

-- a renewal by a hash tree, for the data object of this digest, stands on this, all by the digest's algorithm: the hash
-- value of the digest and of the hash value of the ArchiveTimeStampSequence, in this order, and the last moment
pub record IsRehashOf (chains : List (List StampValue)) (digest leaf : Digest) (m : ℕ) : Type 0 where
  pub place : Place
  pub there : IsIn chains place
  pub is_last : IsLastPlace place
  pub by : alg_of leaf ≡ alg_of digest
  pub hashed : octets_of leaf ≡ digest_of (alg_of digest)
      (octets_of digest ++ digest_of (alg_of digest) (el 0x30 (chains_parts chains)))
  pub time : HasTime place.stamp m

-- the last time-stamp states no moment
pub record EndsWithoutTime (chains : List (List StampValue)) : Type 0 where
  pub place : Place
  pub there : IsIn chains place
  pub is_last : IsLastPlace place
  pub none : (m : ℕ) → HasTime place.stamp m → ⊥

-- the last chain has no algorithm that is known
pub record EndsWithoutAlg (chains : List (List StampValue)) : Type 0 where
  pub place : Place
  pub there : IsIn chains place
  pub is_last : IsLastPlace place
  pub none : IsChainAlg place None

-- ---- records

-- the octets encode a record whose data are open, and this is of its chains
abbrev pub OfOpen : (octets : List ℕ) → (List (List StampValue) → Type 0) → Type 0
OfOpen octets Is = (v : EvidenceValue) × EncodesEvidence octets v × (v.encryption ≡ None) × Is v.chains

abbrev pub IsLastStamp : (octets : List ℕ) → LastStamp → Type 0
IsLastStamp octets last = OfOpen octets (λ chains. IsLastOf chains last)

-- the record is encrypted, or ends without a moment
abbrev pub HasNoMoment : (octets : List ℕ) → Type 0
HasNoMoment octets = IsEncrypted octets ⊎ OfOpen octets EndsWithoutTime

-- or without an algorithm
abbrev pub HasNoStamp : (octets : List ℕ) → Type 0
HasNoStamp octets = HasNoMoment octets ⊎ OfOpen octets EndsWithoutAlg

-- a fault for which a record has no last stamp: data objects aren't named there, and no memory is asked for
abbrev pub IsOfLast : LeafFault → Type 0
IsOfLast (Malformed fault) = ⊤
IsOfLast NoStamp = ⊤
IsOfLast Unnamed = ⊥
IsOfLast OutOfMemory = ⊥

-- ---- what must be covered

-- Whatever the data objects, the new time-stamp of the record that is renewed so must cover the leaf, and nothing else.
abbrev pub IsDueInChain : (octets : List ℕ) → LastStamp → Type 0
IsDueInChain octets last = (v : EvidenceValue) (values : List (List ℕ)) (token : List ℕ) (data_objects : List (List ℕ))
    (p : Place) → EncodesEvidence octets v → IsIn (renewed v last.alg values token).chains p → IsLastPlace p
    → covered_at last.alg data_objects p ≡ octets_of last.leaf ∷ []

-- ---- what suffices

-- In the record that is renewed so the new time-stamp stands, where the lists are those of the leaf in a tree by the
-- algorithm, and the token stands on the root of the tree with a later moment.
abbrev pub StandsInChain : (octets : List ℕ) → LastStamp → Type 0
StandsInChain octets last = (g : Grounds) (v : EvidenceValue) (tree : HashTree) (values : List (List ℕ))
    (token : List ℕ) (data_objects : List (List ℕ)) (m : ℕ) → EncodesEvidence octets v → tree.algorithm ≡ last.alg
    → AreListsOf tree (octets_of last.leaf) values → last.moment < m → TokenStands g tree.algorithm tree.root token m
    → LastStands g data_objects (renewed v tree.algorithm values token).chains
