use Rattle.std.proofs.Common.{◌≡◌, List, ℕ, Some, ◌++◌, length}
use Rattle.check_fit.specs.Fitting.{Fits}
use Rattle.check_verdict.specs.Asks.{IsAskedOf, AsksOnly}
use Rattle.cms_types.specs.AttributeValue.{AttributeValue}
use Rattle.check_verdict.specs.Passing.{Terms}
use Rattle.check_verdict.specs.Verdicts.{tokens}
use Rattle.check_verdict.specs.SignerStages.{Tallied}
use Rattle.check_verdict.specs.Checkers.{terms_for}
use Rattle.check_verdict.proofs.Going.{GoesOn}
use Rattle.check_verdict.proofs.tally.tally_of.Given as goal

-- the tokens before those that are left say this together, and the verifier answered each question
abbrev pub invariant-loop-token : goal.invariant-loop-token
invariant-loop-token g l = record {
  before : List (List ℕ);
  all : before ++ l.left ≡ tokens l.signer;
  so_far : (t : Terms) → t ≡ terms_for l.initial.checker (g.V.Verifier.vouches l.initial.verifier)
      → (attributes : List AttributeValue)
      → l.signer.signed_attributes ≡ Some attributes → Tallied t l.signer attributes before l.tally;
  only : (t : Terms) → t ≡ terms_for l.initial.checker (g.V.Verifier.vouches l.initial.verifier)
      → (content econtent_type : List ℕ)
      → Fits t.policy content econtent_type l.signer
      → AsksOnly (λ test. g.V.Verifier.asked_only test l.initial.verifier l.verifier)
      (IsAskedOf t content econtent_type l.signer);
  goes : GoesOn g.V.Verifier.vouches g.V.Verifier.failures l.initial.verifier l.verifier l.initial.checker l.checker;
}

abbrev pub decreases-loop-token : goal.decreases-loop-token
decreases-loop-token g l = length l.left
