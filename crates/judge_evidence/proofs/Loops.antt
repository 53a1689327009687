-- What stays known from place to place.
use Rattle.std.proofs.Common.{◌≡◌, ℕ, Bool, List, Option, None, Result, subst}
use Rattle.trust_lists.specs.Asking.{Asked}
use Rattle.digests.specs.declared.selection.WantedDigests.{WantedDigests}
use Rattle.evidence_types.specs.StampValue.{StampValue}
use Rattle.check_verdict.specs.Asks.{AsksOnly}
use Rattle.check_verdict.specs.Checkers.{CheckerValue}
use Rattle.check_evidence.specs.Grounds.{Grounds}
use Rattle.digests.specs.declared.algorithm.Alg.{Alg}
use Rattle.check_evidence.specs.Places.{Place, IsIn}
use Rattle.check_evidence.specs.Standing.{FitsIn}
use Rattle.check_evidence.specs.declared.rules.StampRule.{StampRule}
use Rattle.evidence_stamps.specs.StateValue.{StateValue, IsStateOf}
use Rattle.judge_evidence.specs.Asking.{IsAskedOfChains}
use Rattle.judge_evidence.specs.Data.{AreOfData}
use Rattle.judge_evidence.specs.Running.{IsRunAt, IsFound}
use Rattle.judge_evidence.specs.Terms.{grounds_of, checker_of}
use Rattle.judge_evidence.specs.Walking.{IsRunOf}
use Rattle.check_evidence.specs.declared.rules.EvidenceRefused.{EvidenceRefused}
use Rattle.judge_evidence.specs.declared.run.Lapse.{Lapse}
use Rattle.judge_evidence.specs.declared.run.Run.{Run}
use Rattle.judge_evidence.specs.declared.terms.Terms.{Terms}

pub record IsAtPlace (g : Grounds) (terms : Terms) (chains : List (List StampValue)) (digests : List WantedDigests)
    (p : Place) (run : Run) (its : Option StateValue) (checker : CheckerValue) (vouches : Asked → Bool)
    (Only : (Asked → Bool) → Type 0) (first count : ℕ) : Type 0 where
  pub there : IsIn chains p
  pub state : IsStateOf p.stamp.stamp its
  pub runs : (ds : List (List ℕ)) → AreOfData digests ds → IsRunAt g ds chains p run
  pub only : (ds : List (List ℕ)) → AreOfData digests ds → AsksOnly Only (IsAskedOfChains g ds chains)
  pub goes : checker ≡ checker_of terms
  pub same : vouches ≡ g.vouches
  pub counted : count ≡ first

-- what is answered of a place by the verifier as it was at first
pub judged_by : (terms : Terms) (first vouches : Asked → Bool) (digests : List WantedDigests) (p : Place) (run : Run)
    (result : Result Run EvidenceRefused) → vouches ≡ first
    → ((chains : List (List StampValue)) (ds : List (List ℕ)) → AreOfData digests ds
    → IsRunAt (grounds_of terms vouches) ds chains p run → IsRunOf (grounds_of terms vouches) ds chains p result)
    → (chains : List (List StampValue)) (ds : List (List ℕ)) → AreOfData digests ds
    → IsRunAt (grounds_of terms first) ds chains p run → IsRunOf (grounds_of terms first) ds chains p result
judged_by terms first vouches digests p run result same h =
    subst (λ (v : Asked → Bool). (chains : List (List StampValue)) (ds : List (List ℕ)) → AreOfData digests ds
    → IsRunAt (grounds_of terms v) ds chains p run → IsRunOf (grounds_of terms v) ds chains p result) same h

-- what is found of a place by the verifier as it was at first
pub found_by : (terms : Terms) (first vouches : Asked → Bool) (p : Place) (alg : Alg) (m : ℕ) (lapsed : Option Lapse)
    (found : Option StampRule) → vouches ≡ first
    → ((ds : List (List ℕ)) → FitsIn (grounds_of terms vouches) ds p alg m → lapsed ≡ None
    → IsFound (grounds_of terms vouches) ds p found)
    → (ds : List (List ℕ)) → FitsIn (grounds_of terms first) ds p alg m → lapsed ≡ None
    → IsFound (grounds_of terms first) ds p found
found_by terms first vouches p alg m lapsed found same h =
    subst (λ (v : Asked → Bool). (ds : List (List ℕ)) → FitsIn (grounds_of terms v) ds p alg m → lapsed ≡ None
    → IsFound (grounds_of terms v) ds p found) same h
