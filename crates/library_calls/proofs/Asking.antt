-- A verdict rests on the answers to those questions alone that are asked: about signers that fit the content, and their
-- tokens, under entries that passed the earlier filters.
use Rattle.std.proofs.Common.{ℕ, Bool, List, Option, Result, Ok, Err}
use Rattle.std.proofs.Common.{inl, inr}
use Rattle.trust_lists.specs.Asking.{Asked}
use Rattle.check_fit.specs.declared.rules.Refused.{Refused}
use Rattle.check_fit.specs.declared.rules.Refused.TheVariants as refused
use Rattle.check_verdict.specs.Passing.{Terms}
use Rattle.check_verdict.specs.Questions.{with_answers}
use Rattle.check_verdict.specs.Checking.{IsVerdict}
use Rattle.library_answers.specs.declared.answer.Answer.{Answer}
use Rattle.library_calls.specs.Checked.{IsChecked, AnswersAsked}
use Rattle.check_verdict.proofs.Answered.{judges, ready_of}

verdict : (t : Terms) (octets : List ℕ) (handed : Option (List ℕ)) (w : Asked → Bool) (answer : Result ℕ Refused)
    → AnswersAsked t octets handed w
    → IsVerdict t octets handed answer → IsVerdict (with_answers t w) octets handed answer
verdict t octets handed w (Ok m) agree y = record {
  signed = y.signed;
  encodes = y.encodes;
  content = y.content;
  is_content = y.is_content;
  accepts = judges t w y.content y.signed (Ok m)
      (ready_of t w y.content y.signed (agree y.signed y.encodes y.content y.is_content)) y.accepts;
}
verdict t octets handed w (Err (refused.File failed)) agree y = y
verdict t octets handed w (Err (refused.Device fault)) agree y = y
verdict t octets handed w (Err (refused.Signer number failed)) agree (v, e, content, is, j) = (
  v,
  e,
  content,
  is,
  judges t w content v (Err (refused.Signer number failed)) (ready_of t w content v (agree v e content is)) j,
)
verdict t octets handed w (Err (refused.Token number token failed)) agree (v, e, content, is, j) = (
  v,
  e,
  content,
  is,
  judges t w content v (Err (refused.Token number token failed))
      (ready_of t w content v (agree v e content is)) j,
)

pub checked_by_asked : (t : Terms) (octets : List ℕ) (handed : Option (List ℕ)) (said : Answer) (status : ℕ)
    (before : List ℕ) (size : ℕ) (after : List ℕ)
    → IsChecked t octets handed said status before size after → (answers : Asked → Bool)
    → AnswersAsked t octets handed answers
    → IsChecked (with_answers t answers) octets handed said status before size after
checked_by_asked t octets handed said status before size after (answer, inl long, e, told) answers agree =
    (answer, inl long, e, told)
checked_by_asked t octets handed said status before size after (answer, inr known, e, told) answers agree =
    (answer, inr (verdict t octets handed answers answer agree known), e, told)
