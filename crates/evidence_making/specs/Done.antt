-- Whether a record has been renewed by a token already (RFC 4998, 5.2). Of many records that are renewed by one token
-- some may be renewed, and the others not yet, when the work is cut off.
use Rattle.std.specs.Prelude.{◌≡◌, ◌⊎◌, ℕ, Bool, ◌<◌, List, [], ◌∷◌, ◌++◌, Option, Some, None}
use Rattle.digests.specs.Digests.{alg_of, octets_of}
use Rattle.digests.specs.declared.value.Digest.{Digest}
use Rattle.evidence_types.specs.StampValue.{StampValue}
use Rattle.check_evidence.specs.StampStates.{HasAlg}
use Rattle.check_evidence.specs.Roots.{IsRoot, IsCovered}
use Rattle.check_evidence.specs.Standing.{HasLengths}
use Rattle.evidence_making.specs.declared.leaves.LastStamp.{LastStamp}
use Rattle.digests.specs.declared.algorithm.Alg.{Alg}
use Rattle.evidence_trees.specs.Groups.{GroupValue}
use Rattle.evidence_making.specs.Groups.{IsRehashLeaf, LeadTo}
use Rattle.evidence_making.specs.Leaves.{IsLastOf, IsLastStamp, IsRehashOf, OfOpen}
use Rattle.evidence_making.specs.Renewed.{with_stamp}
use Rattle.evidence_making.specs.Stamping.{StampsRoot}

-- this is the root of an archive time-stamp that covers a leaf: it is by the leaf's algorithm, each hash value is as
-- long as a digest by it, and the leaf stands in the first list (4.3)
pub record IsRootOver (s : StampValue) (leaf root : Digest) : Type 0 where
  pub alg : HasAlg s (alg_of leaf)
  pub lengths : HasLengths s.lists (alg_of leaf)
  pub covers : IsCovered s.lists (octets_of leaf ∷ [])
  pub by : alg_of root ≡ alg_of leaf
  pub is_root : IsRoot (alg_of leaf) s.lists (octets_of leaf ∷ []) (octets_of root)

-- the token stamps the root, with a later moment (5.1)
pub record StampsAfter (token : List ℕ) (root : Digest) (last : ℕ) : Type 0 where
  pub moment : ℕ
  pub stamped : StampsRoot token root moment
  pub later : last < moment

-- the archive time-stamp fits over a leaf, and after a moment, whoever signed it
pub record FitsOver (s : StampValue) (leaf : Digest) (last : ℕ) : Type 0 where
  pub root : Digest
  pub over : IsRootOver s leaf root
  pub stamped : StampsAfter s.stamp root last

-- ---- chains

-- These chains are renewed by a time-stamp with this token (Time-Stamp Renewal): without their last archive time-stamp,
-- which has the token, they are chains of which a renewal stands on `last`, and it fits over that.
pub record AreRenewed (chains : List (List StampValue)) (token : List ℕ) (last : LastStamp) : Type 0 where
  pub before : List (List StampValue)
  pub stamp : StampValue
  pub added : chains ≡ with_stamp stamp before
  pub token_is : stamp.stamp ≡ token
  pub stood : IsLastOf before last
  pub fits : FitsOver stamp last.leaf last.moment

-- These chains are renewed by a hash tree and this token, for the data object of a digest (Hash-Tree Renewal): the last
-- one is a chain of one archive time-stamp, which has the token; the renewal of those before it stands on this leaf and
-- this moment; and it fits over them.
pub record AreRehashed (chains : List (List StampValue)) (token : List ℕ) (digest leaf : Digest) (m : ℕ)
    : Type 0 where
  pub before : List (List StampValue)
  pub stamp : StampValue
  pub added : chains ≡ before ++ (stamp ∷ []) ∷ []
  pub token_is : stamp.stamp ≡ token
  pub stood : IsRehashOf before digest leaf m
  pub fits : FitsOver stamp leaf m

-- ---- records

-- the octets encode a record that is renewed by this token
abbrev pub IsRenewedBy : (octets token : List ℕ) → LastStamp → Type 0
IsRenewedBy octets token last = OfOpen octets (λ chains. AreRenewed chains token last)

-- so for one data object
abbrev pub IsRehashedFor : (octets token : List ℕ) → (digest leaf : Digest) → (m : ℕ) → Type 0
IsRehashedFor octets token digest leaf m = OfOpen octets (λ chains. AreRehashed chains token digest leaf m)

-- so for each of the data objects of these digests, whose leaves are this group
abbrev pub IsRehashedBy : (octets token : List ℕ) → Alg → (digests : List Digest) → GroupValue → (m : ℕ) → Type 0
IsRehashedBy octets token alg digests group m =
    LeadTo (λ d leaf. IsRehashedFor octets token d leaf m) alg digests group

-- ---- what a renewal stands on

-- a record is renewed already, which it isn't where no token is there yet
abbrev pub IsDoneBy : (token : Option (List ℕ)) → (octets : List ℕ) → LastStamp → Type 0
IsDoneBy None octets last = ⊥
IsDoneBy (Some token) octets last = IsRenewedBy octets token last

-- A renewal by a time-stamp stands on this: of a record that is renewed already on what that renewal stood on, and of
-- another one on its last time-stamp.
abbrev pub StandsOn : (token : Option (List ℕ)) → (octets : List ℕ) → LastStamp → Type 0
StandsOn token octets last = IsDoneBy token octets last
    ⊎ (((other : LastStamp) → IsDoneBy token octets other → ⊥) × IsLastStamp octets last)

-- the same of a renewal by a hash tree, for data objects of these digests
abbrev pub IsDoneAnewBy : (token : Option (List ℕ)) → (octets : List ℕ) → Alg → (digests : List Digest) → GroupValue
    → (m : ℕ) → Type 0
IsDoneAnewBy None octets alg digests group m = ⊥
IsDoneAnewBy (Some token) octets alg digests group m = IsRehashedBy octets token alg digests group m

abbrev pub StandsAnewOn : (token : Option (List ℕ)) → (octets : List ℕ) → (alone : Bool) → Alg
    → (digests : List Digest) → GroupValue → (m : ℕ) → Type 0
StandsAnewOn token octets alone alg digests group m = IsDoneAnewBy token octets alg digests group m
    ⊎ (((other : GroupValue) (n : ℕ) → IsDoneAnewBy token octets alg digests other n → ⊥)
    × IsRehashLeaf octets alone alg digests group m)
