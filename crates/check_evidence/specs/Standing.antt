-- When an archive time-stamp of a record stands (RFC 4998, 4.3 and 5.3): facts, each of which is asked of it by itself.
use Rattle.std.specs.Prelude.{◌≡◌, ⊤, ℕ, ◌<◌, ◌≤◌, List, [], length, Option, Some, None, All, Any, unwrap_or}
use Rattle.digests.specs.Algorithms.{length_of}
use Rattle.digests.specs.declared.algorithm.Alg.{Alg}
use Rattle.cms_types.specs.AttributeValue.{AttributeValue}
use Rattle.cms_types.specs.SignerValue.{SignerValue}
use Rattle.trust_lists.specs.Entries.{EntryValue}
use Rattle.evidence_types.specs.StampValue.{StampValue}
use Rattle.check_verdict.specs.Trusted.{Holds}
use Rattle.check_verdict.specs.Passing.{StampedUnder, PassesFor}
use Rattle.check_evidence.specs.Grounds.{AlgEnd, Grounds, terms_of, of_root}
use Rattle.check_evidence.specs.Roots.{IsRoot, IsCovered}
use Rattle.check_evidence.specs.Places.{Place, first_beside, preceding, following}
use Rattle.check_evidence.specs.StampStates.{HasTime, HasAlg, IsUntil}
use Rattle.check_evidence.specs.Covering.{covered_at}
use Rattle.check_evidence.specs.Ends.{AlgHolds}

-- its algorithm is this one, which is that of the first stamp of its chain (5.2: "the same hash algorithm" in a chain)
pub record IsAlgOf (p : Place) (alg : Alg) : Type 0 where
  pub its : HasAlg p.stamp alg
  pub first : StampValue
  pub is_first : first_beside p ≡ Some first
  pub same : HasAlg first alg

-- each hash value of its lists has as many octets as a digest by the algorithm
abbrev pub HasLengths : Option (List (List (List ℕ))) → Alg → Type 0
HasLengths lists alg = All (All (λ value. length value ≡ length_of alg)) (unwrap_or lists [])

-- its lists cover what they must
abbrev pub Covers : (data_objects : List (List ℕ)) → Place → Alg → Type 0
Covers data_objects p alg = IsCovered p.stamp.lists (covered_at alg data_objects p)

-- its token passes with this moment, and its imprint is the root of its lists
pub record Imprints (g : Grounds) (data_objects : List (List ℕ)) (p : Place) (alg : Alg) (m : ℕ) : Type 0 where
  pub root : List ℕ
  pub is_root : IsRoot alg p.stamp.lists (covered_at alg data_objects p) root
  pub passes : PassesFor (terms_of g) p.stamp.stamp (of_root alg root) m

-- its moment is later than that of the stamp before it (5.1: "ordered ascending by time")
abbrev pub IsLater : Option StampValue → ℕ → Type 0
IsLater None m = ⊤
IsLater (Some s) m = (n : ℕ) × HasTime s n × (n < m)

-- if it is the last one, its moment isn't later than the one that the user names
abbrev pub IsInTime : (next : Option StampValue) → (at : Option ℕ) → ℕ → Type 0
IsInTime (Some s) at m = ⊤
IsInTime None None m = ⊤
IsInTime None (Some last) m = m ≤ last

pub record IsOrdered (g : Grounds) (p : Place) (m : ℕ) : Type 0 where
  pub later : IsLater (preceding p) m
  pub in_time : IsInTime (following p) g.at m

-- Fits: all that is asked of a stamp by the moment that it states
pub record FitsIn (g : Grounds) (data_objects : List (List ℕ)) (p : Place) (alg : Alg) (m : ℕ) : Type 0 where
  pub is_alg : IsAlgOf p alg
  pub lengths : HasLengths p.stamp.lists alg
  pub covers : Covers data_objects p alg
  pub imprints : Imprints g data_objects p alg m
  pub ordered : IsOrdered g p m

-- its algorithms hold at the end of its use: that of its lists, that of its imprint, and its signer's digest algorithm
-- (5.3, step 2)
pub record AlgsHold (ends : List AlgEnd) (lists imprint signer : Alg) (until : ℕ) : Type 0 where
  pub by_lists : AlgHolds ends lists until
  pub by_imprint : AlgHolds ends imprint until
  pub by_signer : AlgHolds ends signer until

-- the verifier vouches for its token under a trusted entry that holds when the token was made and at the end of its use
abbrev pub LastsUnder : (g : Grounds) → SignerValue → List AttributeValue → (m until : ℕ) → EntryValue → Type 0
LastsUnder g signer attributes m until e = StampedUnder (terms_of g) signer attributes m e × Holds e until

abbrev pub Lasts : (g : Grounds) → SignerValue → List AttributeValue → (m until : ℕ) → Type 0
Lasts g signer attributes m until = Any (LastsUnder g signer attributes m until) g.trust

-- The stamp at a place stands.
pub record Stands (g : Grounds) (data_objects : List (List ℕ)) (p : Place) : Type 0 where
  pub alg : Alg
  pub moment : ℕ
  pub fits : FitsIn g data_objects p alg moment
  pub until : ℕ
  pub is_until : IsUntil g.at p until
  pub algs : AlgsHold g.ends alg fits.imprints.passes.imprint.alg fits.imprints.passes.fits.alg until
  pub lasts : Lasts g fits.imprints.passes.signer fits.imprints.passes.attributes moment until
