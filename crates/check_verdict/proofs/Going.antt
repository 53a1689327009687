-- A check goes by the same as before, and the verifier vouches for the same.
use Rattle.std.proofs.Common.{◌≡◌, ◌∙◌, ℕ, Bool, sym, subst}
use Rattle.check_fit.specs.Fitting.{Wants}
use Rattle.cms_types.specs.SignerValue.{SignerValue}
use Rattle.digests.specs.declared.algorithm.Alg.{Alg}
use Rattle.trust_lists.specs.Asking.{Asked}
use Rattle.check_verdict.specs.Passing.{Terms}
use Rattle.check_verdict.specs.Checkers.{CheckerValue, terms_for}

-- while a verifier is asked it vouches for the same and does not fail, and the check goes by the same
pub record GoesOn {V : Type 0} (vouches : V → Asked → Bool) (failures : V → ℕ) (first now : V)
    (before after : CheckerValue) : Type 0 where
  pub same : vouches now ≡ vouches first
  pub count : failures now ≡ failures first
  pub stays : after ≡ before

module _ {V : Type 0} {vouches : V → Asked → Bool} {failures : V → ℕ} {first now : V} {before after : CheckerValue}
    (h : GoesOn vouches failures first now before after) where
  -- also after one more call
  pub goes_further : {next : V} {last : CheckerValue} → vouches next ≡ vouches now → failures next ≡ failures now
      → last ≡ after → GoesOn vouches failures first next before last
  goes_further same count stays = record { same = same ∙ h.same; count = count ∙ h.count; stays = stays ∙ h.stays }

  -- so its terms are those that they were
  pub still_terms : (t : Terms) → t ≡ terms_for before (vouches first) → t ≡ terms_for after (vouches now)
  still_terms t is = let v = h.same in let c = h.stays in cc

  -- and a signer wants what it wanted
  pub wanted_before : (s : SignerValue) (alg : Alg) → Wants after.policy s alg → Wants before.policy s alg
  wanted_before s alg w = subst (λ (c : CheckerValue). Wants c.policy s alg) h.stays w

  pub wanted_now : (s : SignerValue) (alg : Alg) → Wants before.policy s alg → Wants after.policy s alg
  wanted_now s alg w = subst (λ (c : CheckerValue). Wants c.policy s alg) (sym h.stays) w
