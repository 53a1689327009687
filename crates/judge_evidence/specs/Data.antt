-- The digests of data objects that a check is given, and what they say of hash values.
use Rattle.std.specs.Prelude.{◌≡◌, ◌≢◌, ◌↔◌, ℕ, true, List, [], Option, Some, None}
use Rattle.std.specs.List.{AllZip, AllByRecursion}
use Rattle.der_core.specs.Element.{el}
use Rattle.digests.specs.Digests.{octets_of}
use Rattle.digests.specs.Messages.{digest_of}
use Rattle.digests.specs.Selection.{AreOfWanted, set_given}
use Rattle.digests.specs.Sets.{is_in}
use Rattle.digests.specs.declared.algorithm.Alg.{Alg}
use Rattle.digests.specs.declared.set.Algs.{Algs}
use Rattle.digests.specs.declared.selection.WantedDigests.{WantedDigests}
use Rattle.digests.specs.declared.value.Digest.{Digest}
use Rattle.evidence_types.specs.StampValue.{StampValue}
use Rattle.evidence_types.specs.EvidenceValue.{chains_parts}
use Rattle.check_evidence.specs.Places.{Place, IsIn}
use Rattle.check_evidence.specs.StampStates.{HasAlg}

-- the digests are those of the data objects, in order
abbrev pub AreOfData : List WantedDigests → (data_objects : List (List ℕ)) → Type 0
AreOfData digests data_objects = AllZip AreOfWanted digests data_objects

-- of each data object there is a digest by the algorithm
abbrev pub HaveAlg : Alg → List WantedDigests → Type 0
HaveAlg alg digests = AllByRecursion (λ d. is_in alg (set_given d) ≡ true) digests

-- an algorithm of the first stamp of a chain
pub record IsFirstAlg (chains : List (List StampValue)) (alg : Alg) : Type 0 where
  pub place : Place
  pub there : IsIn chains place
  pub first : place.before ≡ []
  pub its : HasAlg place.stamp alg

-- they are in the set, and no others
abbrev pub AreFirstAlgs : (chains : List (List StampValue)) → Algs → Type 0
AreFirstAlgs chains wanted = (alg : Alg) → is_in alg wanted ≡ true ↔ IsFirstAlg chains alg

-- of each data object there are digests by the algorithms of the chains' first stamps
abbrev pub HaveWanted : (chains : List (List StampValue)) → List WantedDigests → Type 0
HaveWanted chains digests = (alg : Alg) → IsFirstAlg chains alg → HaveAlg alg digests

-- the digest of the sequence of the chains before, if there are any
abbrev pub IsOfChains : Alg → (earlier : List (List StampValue)) → Option Digest → Type 0
IsOfChains alg earlier None = earlier ≡ []
IsOfChains alg earlier (Some d) = (earlier ≢ []) × (octets_of d ≡ digest_of alg (el 0x30 (chains_parts earlier)))
