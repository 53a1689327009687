-- What is answered about an archive time-stamp: that it fits, or the first of W1 to W5 that it fails.
use Rattle.std.specs.Prelude.{◌≡◌, ℕ, ◌⊎◌, ◌<◌, ◌≤◌, true, Bool, List, Option, Some, Result, Ok, Err, IfSome}
use Rattle.devices.specs.Device.{raised}
use Rattle.digests.specs.Digests.{alg_of, octets_of}
use Rattle.digests.specs.declared.algorithm.Alg.{Alg}
use Rattle.digests.specs.declared.value.Digest.{Digest}
use Rattle.check_fit.specs.declared.rules.DeviceFault.TheVariants as device
use Rattle.check_fit.specs.Fitting.{with_sha1}
use Rattle.trust_lists.specs.Asking.{Asked}
use Rattle.evidence_types.specs.StampValue.{StampValue}
use Rattle.check_verdict.specs.Passing.{Terms, Due, PassesFor}
use Rattle.check_verdict.specs.TokenRules.{TokenFailsFor}
use Rattle.check_verdict.specs.Asks.{IsAskedFor}
use Rattle.check_verdict.specs.Checkers.{CheckerValue}
use Rattle.check_evidence.specs.declared.covered.Covered.{Covered}
use Rattle.check_evidence.specs.declared.rules.StampRule.TheVariants as rule
use Rattle.check_evidence.specs.Grounds.{Grounds, of_root}
use Rattle.check_evidence.specs.CoveredValues.{AreValues}
use Rattle.check_evidence.specs.Places.{Place}
use Rattle.check_evidence.specs.Roots.{IsRoot, IsCovered}
use Rattle.check_evidence.specs.StampStates.{HasAlg}
use Rattle.check_evidence.specs.Standing.{HasLengths, FitsIn}
use Rattle.check_evidence.specs.Failing.{FailsToFit}
use Rattle.evidence_stamps.specs.declared.around.Around.{Around}
use Rattle.evidence_stamps.specs.declared.unfit.Fit.{Fit}
use Rattle.evidence_stamps.specs.declared.unfit.Unfit.{Unfit}
use Rattle.evidence_stamps.specs.declared.unfit.Unfit.TheVariants as unfit

-- a check goes by these grounds
pub record IsBy (g : Grounds) (checker : CheckerValue) (vouches : Asked → Bool) : Type 0 where
  pub policy : checker.policy ≡ with_sha1 true
  pub trust : checker.trust ≡ g.trust
  pub answers : vouches ≡ g.vouches

-- it fits; or it fails this rule first; or the verifier failed, or memory was refused
abbrev pub IsFitOf : Grounds → (data_objects : List (List ℕ)) → Place → Result Fit Unfit → Type 0
IsFitOf g data_objects p (Ok fit) = FitsIn g data_objects p fit.alg fit.moment
IsFitOf g data_objects p (Err (unfit.Rule failed)) = FailsToFit g data_objects p failed
IsFitOf g data_objects p (Err (unfit.Device fault)) = (fault ≡ device.AskFailed) ⊎ (fault ≡ device.OutOfMemory)

-- the verifier's count of failures rose by one if it failed, and otherwise it is as it was
abbrev pub CountsUnfit : {T : Type 0} → Result T Unfit → (count count' : ℕ) → Type 0
CountsUnfit (Err (unfit.Device device.AskFailed)) count count' = count' ≡ raised count
CountsUnfit result count count' = count' ≡ count

-- asked about the token of a stamp, whose algorithm is that of the first of its chain, on the root of lists that cover
-- what they must
pub record IsAskedOfStamp (checker : CheckerValue) (s : StampValue) (around : Around) (q : Asked) : Type 0 where
  pub alg : Alg
  pub its : HasAlg s alg
  pub same : around.alg ≡ Some alg
  pub lengths : HasLengths s.lists alg
  pub covers : (due : List (List ℕ)) → AreValues alg around.covered due → IsCovered s.lists due
  pub root : List ℕ
  pub is_root : (due : List (List ℕ)) → AreValues alg around.covered due → IsRoot alg s.lists due root
  pub about : IsAskedFor checker.policy checker.trust (of_root alg root) s.stamp q

-- ---- steps

-- the digest is the root of lists that have their lengths and cover the values that they must
pub record IsRootFor (alg : Alg) (lists : Option (List (List (List ℕ)))) (covered : Covered) (root : Digest)
    : Type 0 where
  pub lengths : HasLengths lists alg
  pub covers : (due : List (List ℕ)) → AreValues alg covered due → IsCovered lists due
  pub by : alg_of root ≡ alg
  pub is_root : (due : List (List ℕ)) → AreValues alg covered due → IsRoot alg lists due (octets_of root)

-- W2 and W3, and the root
abbrev pub RootsOrFails : Alg → (lists : Option (List (List (List ℕ)))) → Covered → Result Digest Unfit → Type 0
RootsOrFails alg lists covered (Ok root) = IsRootFor alg lists covered root
RootsOrFails alg lists covered (Err (unfit.Rule rule.HashLength)) = HasLengths lists alg → ⊥
RootsOrFails alg lists covered (Err (unfit.Rule rule.NotCovered)) =
    HasLengths lists alg × ((due : List (List ℕ)) → AreValues alg covered due → IsCovered lists due → ⊥)
RootsOrFails alg lists covered (Err (unfit.Device fault)) = fault ≡ device.OutOfMemory
RootsOrFails alg lists covered (Err (unfit.Rule _)) = ⊥

-- W4
abbrev pub PassesOrFails : Terms → (token : List ℕ) → Due → Result ℕ Unfit → Type 0
PassesOrFails t token due (Ok m) = PassesFor t token due m
PassesOrFails t token due (Err (unfit.Rule (rule.Token failed))) = TokenFailsFor t token due failed
PassesOrFails t token due (Err (unfit.Device fault)) = fault ≡ device.AskFailed
PassesOrFails t token due (Err (unfit.Rule _)) = ⊥

-- W5: it is after the one before, and not after the last moment that it may have
pub record IsBetween (around : Around) (m : ℕ) : Type 0 where
  pub later : IfSome around.before (λ n. n < m)
  pub in_time : IfSome around.latest (λ last. m ≤ last)
