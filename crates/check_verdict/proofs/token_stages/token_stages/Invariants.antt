use Rattle.std.proofs.Common.{◌≡◌, ◌≤◌, ◌-◌, Bool, true, length, take}
use Rattle.std.specs.Prelude.{Contains}
use Rattle.trust_lists.specs.Asking.{Asked}
use Rattle.trust_lists.specs.Entries.{EntryValue}
use Rattle.check_verdict.specs.Trusted.{asked}
use Rattle.check_verdict.specs.Filters.{Best}
use Rattle.check_verdict.specs.Stages.{passed_for_token}
use Rattle.check_verdict.specs.Passing.{Terms}
use Rattle.check_verdict.specs.TokenRules.{LeftForToken, IsInPeriod}
use Rattle.check_verdict.proofs.Going.{GoesOn}
use Rattle.check_verdict.proofs.token_stages.token_stages.Given as goal

-- the best of the entries so far stops there, and the verifier answered each question
abbrev pub invariant-loop-at : goal.invariant-loop-at
invariant-loop-at g l = record {
  within : l.from ≤ length l.trust;
  so_far : (t : Terms) → t.vouches ≡ g.V.Verifier.vouches l.initial.verifier
      → Best (LeftForToken t l.claim) 5 (take l.from l.trust) (passed_for_token l.best);
  only : (test : Asked → Bool) → ((e : EntryValue) → Contains l.initial.checker.trust e → IsInPeriod l.claim e
      → test (asked e.certificate l.claim.signer l.claim.attributes) ≡ true)
      → g.V.Verifier.asked_only test l.initial.verifier l.verifier;
  goes : GoesOn g.V.Verifier.vouches g.V.Verifier.failures l.initial.verifier l.verifier l.initial.checker l.checker;
}

abbrev pub decreases-loop-at : goal.decreases-loop-at
decreases-loop-at g l = length l.trust - l.from
