-- The verdict about a token, by an answers list, which never fails; and what follows from what the call says.
use Rattle.std.proofs.Common.{◌≡◌, ℕ, Bool, List, Result, Ok, Err, sym, ap, subst, ◌∙◌, inl, inr}
use Rattle.check_fit.specs.declared.rules.TokenRefused.{TokenRefused}
use Rattle.check_fit.specs.declared.rules.TokenRefused.TheVariants as refused
use Rattle.trust_lists.specs.Asking.{Asked}
use Rattle.check_verdict.specs.Checkers.{CheckerValue, terms_for}
use Rattle.check_verdict.specs.Passing.{Terms, Passes}
use Rattle.check_verdict.specs.TokenVerdicts.{IsTokenVerdict, PassesOrDevice, CountsAsks}
use Rattle.library_answers.specs.declared.answer.Answer.{Answer}
use Rattle.library_calls.specs.CheckedTokens.{IsKnownTokenVerdict, IsTokenJudged, IsTokenChecked, SaysPasses}
use Rattle.library_calls.specs.CheckedTokens.{token_answer_numbers}
use Rattle.library_calls.proofs.InMemory.{never_raised}
use Rattle.library_calls.proofs.Moments.{passed_is}

known : (t : Terms) (token stamped : List ℕ) (answer : Result ℕ TokenRefused) → IsTokenVerdict t token stamped answer
    → CountsAsks answer 0 0
    → IsKnownTokenVerdict t token stamped answer
known t token stamped (Ok m) verdict count = verdict
known t token stamped (Err (refused.Rule failed)) verdict count = verdict
known t token stamped (Err (refused.Device fault)) verdict count = absurd (never_raised count)

passes_or_not : (answer : Result ℕ TokenRefused) (m : ℕ) → CountsAsks answer 0 0 → PassesOrDevice m answer
    → answer ≡ Ok m
passes_or_not answer m count (inl is) = is
passes_or_not (Ok n) m count (inr device) = absurd device
passes_or_not (Err (refused.Rule failed)) m count (inr device) = absurd device
passes_or_not (Err (refused.Device fault)) m count (inr device) = absurd (never_raised count)

token_judged : (t : Terms) (token stamped : List ℕ) (answer : Result ℕ TokenRefused)
    → IsTokenVerdict t token stamped answer
    → ((m : ℕ) → Passes t token stamped m → PassesOrDevice m answer) → CountsAsks answer 0 0
    → IsTokenJudged t token stamped answer
token_judged t token stamped answer verdict complete count = record {
  verdict = known t token stamped answer verdict count;
  complete = λ m passes. passes_or_not answer m count (complete m passes);
}

-- the verdict by a checker is judged under what the checker is
pub judged_by : (k u : CheckerValue) (vouches : Asked → Bool) (token stamped : List ℕ) (answer : Result ℕ TokenRefused)
    → k ≡ u → IsTokenVerdict (terms_for k vouches) token stamped answer
    → ((m : ℕ) → Passes (terms_for k vouches) token stamped m → PassesOrDevice m answer) → CountsAsks answer 0 0
    → IsTokenJudged (terms_for u vouches) token stamped answer
judged_by k u vouches token stamped answer same verdict complete count =
    subst (λ (c : CheckerValue). IsTokenJudged (terms_for c vouches) token stamped answer) same
    (token_judged (terms_for k vouches) token stamped answer verdict complete count)

pub passing : (t : Terms) (token stamped : List ℕ) (answer : Result ℕ TokenRefused) (m : ℕ)
    → IsKnownTokenVerdict t token stamped answer → answer ≡ Ok m
    → Passes t token stamped m
passing t token stamped answer m verdict e =
    subst (λ (r : Result ℕ TokenRefused). IsKnownTokenVerdict t token stamped r) e verdict

pub says_passes : (t : Terms) (token stamped : List ℕ) (said : Answer) (status : ℕ)
    → IsTokenChecked t token stamped said status → (m : ℕ)
    → SaysPasses t token stamped said m
says_passes t token stamped said status (answer, judged, e, is) m = (
  (λ one. passing t token stamped answer m judged.verdict (passed_is answer m (sym e ∙ one))),
  λ passes. e ∙ ap (λ (r : Result ℕ TokenRefused). token_answer_numbers r) (judged.complete m passes),
)
