-- What follows from what a call says of a file: that it says yes exactly of a yes, with its moment; and that the
-- verdict rests on the answers to the file's questions.
use Rattle.std.proofs.Common.{◌≡◌, ◌⊎◌, ℕ, Bool, List, Option, Some, None, Result, Ok, Err, sym, ap, subst, ◌∙◌, inl}
use Rattle.std.proofs.Common.{inr}
use Rattle.check_fit.specs.declared.rules.Refused.{Refused}
use Rattle.check_fit.specs.declared.rules.Refused.TheVariants as refused
use Rattle.check_fit.specs.declared.rules.FileRule.TheVariants as file
use Rattle.trust_lists.specs.Asking.{Asked}
use Rattle.check_verdict.specs.Passing.{Terms}
use Rattle.check_verdict.specs.Verdicts.{Yes}
use Rattle.check_verdict.specs.Questions.{Answers, with_answers}
use Rattle.check_verdict.proofs.Sufficiency.{yes_suffices, refusals_suffice}
use Rattle.check_verdict.proofs.Verdicts.{one_moment, never_both}
use Rattle.library_answers.specs.declared.answer.Answer.{Answer}
use Rattle.library_answers.specs.Numbers.{accepted_numbers, numbers_of}
use Rattle.library_answers.specs.Verdicts.{status_of, Tells}
use Rattle.library_calls.specs.Known.{IsTooLong}
use Rattle.library_calls.specs.Checked.{IsKnownVerdict, IsChecked, SaysYes, SaysTooLong, SaysMoment}
use Rattle.library_calls.proofs.Moments.{accepted_is, refused_is_no}

abbrev accepted : ℕ → Result ℕ Refused
accepted m = Ok m

pub too_long : (handed : Option (List ℕ)) (answer : Result ℕ Refused) (said : Answer) → said ≡ numbers_of answer
    → IsTooLong handed answer → SaysTooLong handed said
too_long None answer said e long = long
too_long (Some content) answer said e (is, many) = (e ∙ ap (λ (r : Result ℕ Refused). numbers_of r) is, many)

pub long_is_no : (handed : Option (List ℕ)) (m : ℕ) → IsTooLong handed (Ok m) → ⊥
long_is_no None m long = long
long_is_no (Some content) m (is, many) = cc

sound : (t : Terms) (octets : List ℕ) (handed : Option (List ℕ)) (answer : Result ℕ Refused) (m : ℕ)
    → IsKnownVerdict t octets handed answer
    → answer ≡ Ok m → Yes t octets handed m
sound t octets handed (Ok n) m (inl long) e = absurd (long_is_no handed n long)
sound t octets handed (Ok n) m (inr is) e = subst (λ (k : ℕ). Yes t octets handed k) (same n m e) is
  where
    same : (a b : ℕ) → accepted a ≡ accepted b → a ≡ b
    same a b k = cc
sound t octets handed (Err why) m v e = absurd (let no : Err why ≡ accepted m = e in cc)

complete : (t : Terms) (octets : List ℕ) (handed : Option (List ℕ)) (answer : Result ℕ Refused) (said : Answer) (m : ℕ)
    → IsKnownVerdict t octets handed answer
    → said ≡ numbers_of answer → Yes t octets handed m → (said ≡ accepted_numbers m) ⊎ SaysTooLong handed said
complete t octets handed answer said m (inl long) e is = inr (too_long handed answer said e long)
complete t octets handed (Ok n) said m (inr other) e is =
    inl (e ∙ ap (λ (k : ℕ). accepted_numbers k) (one_moment t octets handed n m other is))
complete t octets handed (Err why) said m (inr refuses) e is = absurd (never_both t octets handed m why is refuses)

-- yes exactly of a yes
pub says_yes : (t : Terms) (octets : List ℕ) (handed : Option (List ℕ)) (said : Answer) (status : ℕ) (before : List ℕ)
    (size : ℕ) (after : List ℕ)
    → IsChecked t octets handed said status before size after → (m : ℕ) → SaysYes t octets handed said m
says_yes t octets handed said status before size after (answer, v, e, told) m = record {
  sound = λ is. sound t octets handed answer m v (accepted_is answer m (sym e ∙ is));
  complete = complete t octets handed answer said m v e;
}

-- ---- the verdict 1 and the status 1

one_is_a_moment : (answer : Result ℕ Refused) (said : Answer) → said ≡ numbers_of answer → said.verdict ≡ 1
    → (m : ℕ) × (said ≡ accepted_numbers m)
one_is_a_moment (Ok m) said e one = (m, e)
one_is_a_moment (Err why) said e one = absurd (refused_is_no why (sym (ap (λ (a : Answer). a.verdict) e) ∙ one))

done_is_one : (answer : Result ℕ Refused) (said : Answer) → said ≡ numbers_of answer → status_of answer ≡ 1
    → said.verdict ≡ 1
done_is_one (Ok m) said e done = ap (λ (a : Answer). a.verdict) e
done_is_one (Err (refused.File (file.Malformed f))) said e done = absurd cc
done_is_one (Err (refused.File file.NotSignedData)) said e done = absurd cc
done_is_one (Err (refused.File file.NoSigner)) said e done = absurd cc
done_is_one (Err (refused.File file.NoContent)) said e done = absurd cc
done_is_one (Err (refused.File file.ContentTwice)) said e done = absurd cc
done_is_one (Err (refused.File file.NoSuchSigner)) said e done = absurd cc
done_is_one (Err (refused.Signer i rule)) said e done = absurd cc
done_is_one (Err (refused.Token i j rule)) said e done = absurd cc
done_is_one (Err (refused.Device fault)) said e done = absurd cc

done_tells : (answer : Result ℕ Refused) (status : ℕ) (before : List ℕ) (size : ℕ) (after : List ℕ)
    → Tells answer status before size after
    → status ≡ 1 → status_of answer ≡ 1
done_tells answer status before size after (inl (is, line, none)) one = sym is ∙ one
done_tells answer status before size after (inr (some, as_it_was, inl (six, line))) one =
    absurd (let no : 6 ≡ 1 = sym six ∙ one in cc)
done_tells answer status before size after (inr (some, as_it_was, inr (seven, none))) one =
    absurd (let no : 7 ≡ 1 = sym seven ∙ one in cc)

pub says_moment : (t : Terms) (octets : List ℕ) (handed : Option (List ℕ)) (said : Answer) (status : ℕ)
    (before : List ℕ) (size : ℕ) (after : List ℕ)
    → IsChecked t octets handed said status before size after → SaysMoment said status
says_moment t octets handed said status before size after (answer, v, e, told) = record {
  moment = one_is_a_moment answer said e;
  done = λ one. done_is_one answer said e (done_tells answer status before size after told one);
}

-- ---- the verdict with a list of answers that agrees on the questions

pub known_suffices : (t : Terms) (octets : List ℕ) (handed : Option (List ℕ)) (answers : Asked → Bool)
    → Answers t octets answers
    → (answer : Result ℕ Refused) → IsKnownVerdict t octets handed answer
    → IsKnownVerdict (with_answers t answers) octets handed answer
known_suffices t octets handed answers agree answer (inl long) = inl long
known_suffices t octets handed answers agree (Ok m) (inr is) = inr ((yes_suffices t octets handed answers agree m).0 is)
known_suffices t octets handed answers agree (Err why) (inr refuses) =
    inr ((refusals_suffice t octets handed answers agree why).0 refuses)

pub checked_suffices : (t : Terms) (octets : List ℕ) (handed : Option (List ℕ)) (said : Answer) (status : ℕ)
    (before : List ℕ) (size : ℕ) (after : List ℕ)
    → IsChecked t octets handed said status before size after → (answers : Asked → Bool) → Answers t octets answers
    → IsChecked (with_answers t answers) octets handed said status before size after
checked_suffices t octets handed said status before size after (answer, v, e, told) answers agree =
    (answer, known_suffices t octets handed answers agree answer v, e, told)
