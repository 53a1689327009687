-- Lists of answers that agree on the questions of a file give one verdict.
use Rattle.std.proofs.Common.{◌≡◌, ℕ, Bool, List, Option, Result, Ok, Err, sym, ap}
use Rattle.trust_lists.specs.Asking.{Asked}
use Rattle.check_fit.specs.declared.rules.Refused.{Refused}
use Rattle.check_verdict.specs.Passing.{Terms}
use Rattle.check_verdict.specs.TokenVerdicts.{terms_of}
use Rattle.check_verdict.specs.Questions.{Answers, with_answers}
use Rattle.check_verdict.specs.Checking.{IsVerdict}
use Rattle.check_verdict.specs.Alone.{verdict_alone}
use Rattle.check_verdict.specs.Laws.{AnswersDecide}
use Rattle.check_verdict.proofs.Sufficiency.{yes_suffices, refusals_suffice}
use Rattle.check_verdict.proofs.Verdicts.{never_both, one_moment, one_refusal}

abbrev accepted : ℕ → Result ℕ Refused
accepted m = Ok m

abbrev refused : Refused → Result ℕ Refused
refused r = Err r

-- a file has one verdict
one_verdict : (t : Terms) (file : List ℕ) (handed : Option (List ℕ)) (r s : Result ℕ Refused)
    → IsVerdict t file handed r → IsVerdict t file handed s
    → verdict_alone r ≡ verdict_alone s
one_verdict t file handed (Ok m) (Ok n) x y = ap accepted (one_moment t file handed m n x y)
one_verdict t file handed (Ok m) (Err f) x y = absurd (never_both t file handed m f x y)
one_verdict t file handed (Err f) (Ok n) x y = absurd (never_both t file handed n f y x)
one_verdict t file handed (Err f) (Err k) x y = ap refused (one_refusal t file handed f k x y)

with_others : (t : Terms) (file : List ℕ) (handed : Option (List ℕ)) (others : Asked → Bool) → Answers t file others
    → (r : Result ℕ Refused)
    → IsVerdict t file handed r → IsVerdict (with_answers t others) file handed r
with_others t file handed others agree (Ok m) x = (yes_suffices t file handed others agree m).0 x
with_others t file handed others agree (Err f) x = (refusals_suffice t file handed others agree f).0 x

pub answers_decide : AnswersDecide
answers_decide policy trust file handed answers others agree verdict another x y =
    one_verdict (terms_of policy trust others) file handed verdict another
    (with_others (terms_of policy trust answers) file handed others (λ q k. sym (agree q k)) verdict x) y
