-- What is known while one goes through the places of archive time-stamps.
use Rattle.std.specs.Prelude.{◌≡◌, ◌≢◌, ⊤, ℕ, true, false, List, [], Option, Some, None, MatchOption}
use Rattle.digests.specs.declared.algorithm.Alg.{Alg}
use Rattle.evidence_types.specs.StampValue.{StampValue}
use Rattle.check_evidence.specs.Grounds.{Grounds}
use Rattle.check_evidence.specs.Places.{Place, IsIn, IsBefore, chain_number, stamp_number, first_beside, preceding}
use Rattle.check_evidence.specs.Places.{following}
use Rattle.check_evidence.specs.StampStates.{HasTime, HasAlg}
use Rattle.check_evidence.specs.Standing.{Stands}
use Rattle.check_evidence.specs.Showing.{IsWhole}
use Rattle.check_evidence.specs.Failing.{FailsToLast}
use Rattle.check_evidence.specs.Refusing.{Fits, StampFails}
use Rattle.check_evidence.specs.declared.rules.StampRule.{StampRule}
use Rattle.evidence_stamps.specs.PlaceValues.{IsMomentOf}
use Rattle.judge_evidence.specs.Going.{IsFirstPlace, IsUpTo}
use Rattle.judge_evidence.specs.declared.run.Lapse.{Lapse}
use Rattle.judge_evidence.specs.declared.run.Begun.{Begun}
use Rattle.judge_evidence.specs.declared.run.Run.{Run}

-- ---- of one place

-- this is the algorithm of the first of its chain
pub record KnowsAlg (p : Place) (known : Option Alg) : Type 0 where
  pub first : StampValue
  pub is_first : first_beside p ≡ Some first
  pub alg : Alg
  pub its : HasAlg first alg
  pub is : known ≡ Some alg

-- it is known, unless the place is the first of its chain
abbrev pub KnowsChainAlg : Place → (known : Option Alg) → Type 0
KnowsChainAlg p known = p.before ≢ [] → KnowsAlg p known

-- it states a moment
abbrev pub ShowsTime : StampValue → Type 0
ShowsTime s = (m : ℕ) × HasTime s m

-- what follows it, if anything does, states a moment
abbrev pub ShowsUntil : Place → Type 0
ShowsUntil p = (s : StampValue) → following p ≡ Some s → ShowsTime s

-- one that fits stands, or fails this rule first; if it can be told until when it is used
abbrev pub IsFound : Grounds → (data_objects : List (List ℕ)) → Place → Option StampRule → Type 0
IsFound g data_objects p found = ShowsUntil p
    → MatchOption found (Stands g data_objects p) (λ failed. FailsToLast g data_objects p failed)

-- ---- of the places that were judged

-- each fits
abbrev pub AllFit : Grounds → (data_objects : List (List ℕ)) → (chains : List (List StampValue))
    → (Judged : Place → Type 0) → Type 0
AllFit g data_objects chains Judged = (q : Place) → IsIn chains q → Judged q → Fits g data_objects q

-- this is the first that fails to last
pub record FirstLapse (g : Grounds) (data_objects : List (List ℕ)) (chains : List (List StampValue))
    (Judged : Place → Type 0) (l : Lapse) : Type 0 where
  pub place : Place
  pub there : IsIn chains place
  pub judged : Judged place
  pub is_chain : l.chain ≡ chain_number place
  pub is_stamp : l.stamp ≡ stamp_number place
  pub before : (q : Place) → IsIn chains q → IsBefore q place → Stands g data_objects q
  pub fails : FailsToLast g data_objects place l.rule

-- the first lapse, with what was found of one more place, if there was none before
abbrev pub lapse_with : (found : Option StampRule) → (chain stamp : ℕ) → Option Lapse → Option Lapse
lapse_with found chain stamp (Some l) = Some l
lapse_with None chain stamp None = None
lapse_with (Some failed) chain stamp None = Some (record { chain = chain; stamp = stamp; rule = failed })

-- the first that fails to last; or all stand
abbrev pub IsLapse : Grounds → (data_objects : List (List ℕ)) → (chains : List (List StampValue))
    → (Judged : Place → Type 0) → Option Lapse → Type 0
IsLapse g data_objects chains Judged None =
    (q : Place) → IsIn chains q → Judged q → Stands g data_objects q
IsLapse g data_objects chains Judged (Some l) = FirstLapse g data_objects chains Judged l

-- what the first of all shows: its moment, and whether it has hash values that may not stand there
pub record IsBeginning (g : Grounds) (data_objects : List (List ℕ)) (chains : List (List StampValue)) (b : Begun)
    : Type 0 where
  pub place : Place
  pub there : IsIn chains place
  pub is_first : IsFirstPlace place
  pub moment : HasTime place.stamp b.moment
  pub whole : b.others ≡ false → g.whole ≡ true → IsWhole data_objects place.stamp
  pub others : b.others ≡ true → (g.whole ≡ true) × (IsWhole data_objects place.stamp → ⊥)

-- the first of all is still to be judged, or is known
abbrev pub IsBegun : Grounds → (data_objects : List (List ℕ)) → (chains : List (List StampValue)) → Place
    → Option Begun → Type 0
IsBegun g data_objects chains p None = IsFirstPlace p
IsBegun g data_objects chains p (Some b) = IsBeginning g data_objects chains b

-- what is known before a place is judged
pub record IsRunAt (g : Grounds) (data_objects : List (List ℕ)) (chains : List (List StampValue)) (p : Place)
    (run : Run) : Type 0 where
  pub there : IsIn chains p
  pub alg : KnowsChainAlg p run.alg
  pub before : IsMomentOf (preceding p) run.before
  pub fit : AllFit g data_objects chains (λ q. IsBefore q p)
  pub lapse : ShowsTime p.stamp → IsLapse g data_objects chains (λ q. IsBefore q p) run.lapsed
  pub begun : IsBegun g data_objects chains p run.begun

-- and after it was judged, if it fits
pub record IsRunPast (g : Grounds) (data_objects : List (List ℕ)) (chains : List (List StampValue)) (p : Place)
    (run : Run) : Type 0 where
  pub there : IsIn chains p
  pub alg : KnowsAlg p run.alg
  pub moment : ℕ
  pub before : run.before ≡ Some moment
  pub time : HasTime p.stamp moment
  pub fit : AllFit g data_objects chains (λ q. IsUpTo q p)
  pub lapse : ShowsUntil p → IsLapse g data_objects chains (λ q. IsUpTo q p) run.lapsed
  pub beginning : Begun
  pub begun : run.begun ≡ Some beginning
  pub is_beginning : IsBeginning g data_objects chains beginning

-- and after all were
pub record IsRunOver (g : Grounds) (data_objects : List (List ℕ)) (chains : List (List StampValue)) (run : Run)
    : Type 0 where
  pub fit : AllFit g data_objects chains (λ q. ⊤)
  pub lapse : IsLapse g data_objects chains (λ q. ⊤) run.lapsed
  pub beginning : Begun
  pub begun : run.begun ≡ Some beginning
  pub is_beginning : IsBeginning g data_objects chains beginning

-- the place with these numbers fails this rule, and the record is refused for it
pub record FailsAt (g : Grounds) (data_objects : List (List ℕ)) (chains : List (List StampValue)) (chain stamp : ℕ)
    (failed : StampRule) : Type 0 where
  pub place : Place
  pub is_chain : chain ≡ chain_number place
  pub is_stamp : stamp ≡ stamp_number place
  pub fails : StampFails g data_objects chains place failed
