-- What is handed in of the place of an archive time-stamp.
use Rattle.std.specs.Prelude.{◌≡◌, ℕ, List, Option, Some, None}
use Rattle.digests.specs.declared.algorithm.Alg.{Alg}
use Rattle.evidence_types.specs.StampValue.{StampValue}
use Rattle.check_evidence.specs.Grounds.{Grounds}
use Rattle.check_evidence.specs.Places.{Place, first_beside, preceding, following}
use Rattle.check_evidence.specs.StampStates.{HasTime, HasAlg}
use Rattle.check_evidence.specs.Covering.{covered_at}
use Rattle.check_evidence.specs.CoveredValues.{AreValues, AreGiven, AreSome}
use Rattle.evidence_stamps.specs.declared.around.Around.{Around}

-- this is the algorithm of the first stamp of its chain; or that has none
abbrev pub IsChainAlg : Place → Option Alg → Type 0
IsChainAlg p (Some alg) = (first : StampValue) × (first_beside p ≡ Some first) × HasAlg first alg
IsChainAlg p None = (first : StampValue) (alg : Alg) → first_beside p ≡ Some first → HasAlg first alg → ⊥

-- this is the moment of a stamp, if there is one
abbrev pub IsMomentOf : Option StampValue → Option ℕ → Type 0
IsMomentOf None moment = moment ≡ None
IsMomentOf (Some s) moment = (m : ℕ) × HasTime s m × (moment ≡ Some m)

-- this is the last moment that a stamp may have: if none follows, that which the user names
abbrev pub IsLatestBy : (next : Option StampValue) → (at latest : Option ℕ) → Type 0
IsLatestBy None at latest = latest ≡ at
IsLatestBy (Some s) at latest = latest ≡ None

-- this is what is around a place
pub record IsAround (g : Grounds) (data_objects : List (List ℕ)) (p : Place) (around : Around) : Type 0 where
  pub alg : IsChainAlg p around.alg
  pub covered : (alg : Alg) → around.alg ≡ Some alg
      → AreValues alg around.covered (covered_at alg data_objects p)
  pub before : IsMomentOf (preceding p) around.before
  pub latest : IsLatestBy (following p) g.at around.latest

-- the values that it must cover can be computed by the algorithm, and there is one
pub record AreBy (alg : Alg) (around : Around) : Type 0 where
  pub given : AreGiven alg around.covered
  pub some : AreSome around.covered

abbrev pub AreWell : Around → Type 0
AreWell around = (alg : Alg) → around.alg ≡ Some alg → AreBy alg around
