use Rattle.std.proofs.Common.{◌≡◌, ◌≤◌, ◌-◌, Bool, true, List, Some, length, take}
use Rattle.std.specs.Prelude.{Contains}
use Rattle.trust_lists.specs.Asking.{Asked}
use Rattle.trust_lists.specs.Entries.{EntryValue}
use Rattle.check_names.specs.Naming.{NamesIfAny}
use Rattle.check_verdict.specs.Trusted.{asked}
use Rattle.cms_types.specs.AttributeValue.{AttributeValue}
use Rattle.check_verdict.specs.Filters.{Best}
use Rattle.check_verdict.specs.Stages.{passed_for_signer}
use Rattle.check_verdict.specs.Passing.{Terms}
use Rattle.check_verdict.specs.SignerStages.{LeftAt, IsSignersAt}
use Rattle.check_verdict.proofs.Going.{GoesOn}
use Rattle.check_verdict.proofs.signer_stages.signer_stages.Given as goal

-- the best of the entries so far stops there, and the verifier answered each question
abbrev pub invariant-loop-at : goal.invariant-loop-at
invariant-loop-at g l = record {
  within : l.from ≤ length l.trust;
  so_far : (t : Terms) → t.vouches ≡ g.V.Verifier.vouches l.initial.verifier → (attributes : List AttributeValue)
      → l.signer.signed_attributes ≡ Some
      attributes → Best (LeftAt t l.signer attributes l.moment) 3 (take l.from l.trust) (passed_for_signer l.best);
  only : (test : Asked → Bool) → (attributes : List AttributeValue) → l.signer.signed_attributes ≡ Some attributes
      → ((e : EntryValue) → Contains l.initial.checker.trust e → IsSignersAt l.signer l.moment e
      → NamesIfAny attributes e.certificate
      → test (asked e.certificate l.signer attributes) ≡ true)
      → g.V.Verifier.asked_only test l.initial.verifier l.verifier;
  goes : GoesOn g.V.Verifier.vouches g.V.Verifier.failures l.initial.verifier l.verifier l.initial.checker l.checker;
}

abbrev pub decreases-loop-at : goal.decreases-loop-at
decreases-loop-at g l = length l.trust - l.from
