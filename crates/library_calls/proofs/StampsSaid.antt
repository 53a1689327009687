-- What follows from what the call says of a stamp.
use Rattle.std.proofs.Common.{◌≡◌, ℕ, List, Result, Ok, Err, inl, inr, sym, ap, subst, ◌∙◌}
use Rattle.check_fit.specs.declared.rules.TokenRefused.{TokenRefused}
use Rattle.check_fit.specs.declared.rules.TokenRefused.TheVariants as token_refused
use Rattle.check_verdict.specs.Passing.{Terms, Passes}
use Rattle.tsp_requester.specs.declared.rules.MatchFault.{MatchFault}
use Rattle.tsp_requester.specs.declared.rules.MatchFault.TheVariants as match
use Rattle.cli_failures.specs.declared.failure.Failure.{Failure}
use Rattle.cli_failures.specs.Stamps.{HoldsNoStamp, IsStampIn}
use Rattle.library_answers.specs.declared.answer.Answer.{Answer}
use Rattle.library_answers.specs.Failures.{failure_numbers, match_numbers}
use Rattle.library_answers.specs.Numbers.{accepted_numbers}
use Rattle.library_calls.specs.CheckedTokens.{IsKnownTokenVerdict, IsTokenJudged, token_answer_numbers}
use Rattle.library_calls.specs.Stamps.{IsOfRules, IsStampChecked, SaysStamp, SaysStamped}
use Rattle.library_calls.proofs.CheckingTokens.{passing}
use Rattle.library_calls.proofs.Moments.{passed_is}
use Rattle.library_calls.proofs.StampsHeld.{never_both, one_token}

-- no device fails
pub of_rules : (t : Terms) (token stamped : List ℕ) (answer : Result ℕ TokenRefused)
    → IsTokenJudged t token stamped answer → IsOfRules answer
of_rules t token stamped (Ok m) judged = tt
of_rules t token stamped (Err (token_refused.Rule rule)) judged = tt
of_rules t token stamped (Err (token_refused.Device fault)) judged = judged.verdict

matched_is_no : (rule : MatchFault) → (match_numbers rule).verdict ≡ 1 → ⊥
matched_is_no match.Status e = cc
matched_is_no match.NoToken e = cc
matched_is_no match.TokenMalformed e = cc
matched_is_no match.Imprint e = cc
matched_is_no match.Nonce e = cc
matched_is_no match.Policy e = cc
matched_is_no match.CertMissing e = cc

-- of a stamp without a token the numbers aren't those of an acceptance
failure_is_no : (stamp : List ℕ) (f : Failure) → HoldsNoStamp stamp f → (failure_numbers f).verdict ≡ 1 → ⊥
failure_is_no stamp f (inl (by, inl none)) e =
    let k = subst (λ (x : Failure). (failure_numbers x).verdict ≡ 1) none.malformed e in
    absurd (let no : 3 ≡ 1 = k in cc)
failure_is_no stamp f (inl (by, inr (given, rule, encodes, lacks, is))) e =
    matched_is_no rule (subst (λ (x : Failure). (failure_numbers x).verdict ≡ 1) is e)
failure_is_no stamp f (inr (not, none)) e =
    let k = subst (λ (x : Failure). (failure_numbers x).verdict ≡ 1) none.malformed e in
    absurd (let no : 3 ≡ 1 = k in cc)

module _ (said : Answer) (status : ℕ) (before : List ℕ) (size : ℕ) (after : List ℕ) where
  -- the numbers are those of the verdict
  numbers : (answer : Result ℕ TokenRefused) → SaysStamp answer said status before size after
      → said ≡ token_answer_numbers answer
  numbers (Ok m) says = says.0
  numbers (Err (token_refused.Rule rule)) says = says.0
  numbers (Err (token_refused.Device fault)) says = absurd says

  module _ (t : Terms) (stamp stamped : List ℕ) (m : ℕ) where
    says_it : IsStampChecked t stamp stamped said status before size after → said ≡ accepted_numbers m
        → (token : List ℕ) × IsStampIn stamp token × Passes t token stamped m
    says_it (inl (token, held, (answer, judged, says))) one = (
      token,
      held,
      passing t token stamped answer m judged.verdict (passed_is answer m (sym (numbers answer says) ∙ one)),
    )
    says_it (inr (why, none, (is, line))) one =
        absurd (failure_is_no stamp why none (ap (λ (a : Answer). a.verdict) (sym is ∙ one)))

    it_says : IsStampChecked t stamp stamped said status before size after
        → (token : List ℕ) × IsStampIn stamp token × Passes t token stamped m → said ≡ accepted_numbers m
    it_says (inl (token, held, (answer, judged, says))) (other, is, passes) =
        let same : other ≡ token = one_token stamp other token is held in
        numbers answer says ∙ ap (λ (r : Result ℕ TokenRefused). token_answer_numbers r)
        (judged.complete m (subst (λ (x : List ℕ). Passes t x stamped m) same passes))
    it_says (inr (why, none, says)) (other, is, passes) = absurd (never_both stamp other why is none)

    pub says_stamped : IsStampChecked t stamp stamped said status before size after
        → SaysStamped t stamp stamped said m
    says_stamped checked = (says_it checked, it_says checked)
