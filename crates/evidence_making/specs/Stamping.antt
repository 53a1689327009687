-- Whether a token is the time-stamp of the root of a hash tree (RFC 3161, 2.4.2; RFC 4998, 4.2), whoever signed it.
use Rattle.std.specs.Prelude.{◌≡◌, ℕ, List}
use Rattle.der_time.specs.Moments.{generalized_moment}
use Rattle.digests.specs.Algorithms.{Names}
use Rattle.digests.specs.Digests.{alg_of, octets_of}
use Rattle.digests.specs.declared.value.Digest.{Digest}
use Rattle.tsp_types.specs.ImprintValue.{ImprintValue}
use Rattle.tsp_types.specs.TstValue.{TstValue}
use Rattle.evidence_types.specs.StampValue.{StampValue}
use Rattle.check_evidence.specs.Grounds.{Grounds}
use Rattle.check_evidence.specs.StampStates.{States, HasTime}
use Rattle.evidence_making.specs.Laws.{TokenStands}

-- the imprint is the root: it names the root's algorithm, and has its octets
pub record IsRootImprint (imprint : ImprintValue) (root : Digest) : Type 0 where
  pub algorithm : Names imprint.algorithm.oid imprint.algorithm.parameters (alg_of root)
  pub octets : imprint.digest ≡ octets_of root

-- the token states an imprint that is the root, and this moment
pub record StampsRoot (token : List ℕ) (root : Digest) (m : ℕ) : Type 0 where
  pub stated : TstValue
  pub states : States token stated
  pub imprint : IsRootImprint stated.imprint root
  pub moment : generalized_moment stated.time ≡ m

-- the token states another imprint
pub record StampsAnother (token : List ℕ) (root : Digest) : Type 0 where
  pub stated : TstValue
  pub states : States token stated
  pub other : IsRootImprint stated.imprint root → ⊥

-- the octets are no token: they state nothing
abbrev pub IsNoToken : (token : List ℕ) → Type 0
IsNoToken token = (stated : TstValue) → States token stated → ⊥

-- ---- laws

-- only one of the three holds of a token, and of the first with one moment
pub record StampsAreOneCase : Type 0 where
  pub no_token : (token : List ℕ) (root : Digest) (m : ℕ) → StampsRoot token root m → IsNoToken token → ⊥
  pub another : (token : List ℕ) (root : Digest) (m : ℕ) → StampsRoot token root m → StampsAnother token root → ⊥
  pub no_other : (token : List ℕ) (root : Digest) → StampsAnother token root → IsNoToken token → ⊥
  pub one_moment : (token : List ℕ) (root : Digest) (m n : ℕ) → StampsRoot token root m → StampsRoot token root n
      → m ≡ n

-- A token that stands on a root with a moment stamps it with that moment.
abbrev pub StandingStamps : Type 0
StandingStamps = (g : Grounds) (root : Digest) (token : List ℕ) (m : ℕ)
    → TokenStands g (alg_of root) (octets_of root) token m → StampsRoot token root m

-- An archive time-stamp whose token stamps a root has the moment.
abbrev pub StampsHaveTime : Type 0
StampsHaveTime = (s : StampValue) (root : Digest) (m : ℕ) → StampsRoot s.stamp root m → HasTime s m
