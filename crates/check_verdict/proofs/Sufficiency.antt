-- A verdict rests on the questions of the file alone, or of the token.
use Rattle.std.proofs.Common.{ℕ, Bool, List, Option, Result, Ok, Err, sym}
use Rattle.std.specs.Prelude.{Contains}
use Rattle.cms_types.specs.SignerValue.{SignerValue}
use Rattle.cms_types.specs.SignedDataValue.{SignedDataValue, EncodesSignedData}
use Rattle.trust_lists.specs.Asking.{Asked}
use Rattle.check_fit.specs.declared.rules.Refused.{Refused}
use Rattle.check_fit.specs.declared.rules.Refused.TheVariants as refused
use Rattle.check_fit.specs.declared.rules.TokenRule.{TokenRule}
use Rattle.check_verdict.specs.Passing.{Terms, Due, PassesFor}
use Rattle.check_verdict.specs.TokenRules.{TokenFailsFor}
use Rattle.check_verdict.specs.Asks.{IsAskedFor}
use Rattle.check_verdict.specs.Verdicts.{Yes, Judges, Refuses}
use Rattle.check_verdict.specs.Questions.{Answers, with_answers, YesSuffices, RefusalsSuffice}
use Rattle.check_verdict.specs.Questions.{AnswersOfToken, PassingSuffices, FailuresSuffice}
use Rattle.check_verdict.proofs.Answered.{Agree, Ready, ready_of, judges, passes, token_fails}
use Rattle.check_verdict.proofs.Asks.{about_token, question_of_file}

module _ (t : Terms) (file : List ℕ) (w : Asked → Bool) (agree : Answers t file w) (v : SignedDataValue)
    (encodes : EncodesSignedData file v) (content : List ℕ) where
  -- what is asked of a signer of the file is a question of the file
  pub ready : (s : SignerValue) → Contains v.signers s → Ready content v.encapsulated.content_type t w s
  ready = ready_of t w content v (λ q a.
      agree q (question_of_file t file content v.encapsulated.content_type v a.signer q encodes a.among a.about))

  -- so the signers are judged alike
  pub judges_by : (result : Result ℕ Refused) → Judges t content v result → Judges (with_answers t w) content v result
  judges_by result j = judges t w content v result ready j

yes_along : (t : Terms) (file : List ℕ) (handed : Option (List ℕ)) (w : Asked → Bool) → Answers t file w → (m : ℕ)
    → Yes t file handed m
    → Yes (with_answers t w) file handed m
yes_along t file handed w agree m y = record {
  signed = y.signed;
  encodes = y.encodes;
  content = y.content;
  is_content = y.is_content;
  accepts = judges_by t file w agree y.signed y.encodes y.content (Ok m) y.accepts;
}

pub yes_suffices : YesSuffices
yes_suffices t file handed w h m =
    (yes_along t file handed w h m, yes_along (with_answers t w) file handed t.vouches (λ q k. sym (h q k)) m)

refuses_along : (t : Terms) (file : List ℕ) (handed : Option (List ℕ)) (w : Asked → Bool) → Answers t file w
    → (r : Refused) → Refuses t file handed r
    → Refuses (with_answers t w) file handed r
refuses_along t file handed w h (refused.Device fault) y = y
refuses_along t file handed w h (refused.File failed) y = y
refuses_along t file handed w h (refused.Signer number failed) (v, e, content, is, bad) =
    (v, e, content, is, judges_by t file w h v e content (Err (refused.Signer number failed)) bad)
refuses_along t file handed w h (refused.Token number token failed) (v, e, content, is, bad) =
    (v, e, content, is, judges_by t file w h v e content (Err (refused.Token number token failed)) bad)

pub refusals_suffice : RefusalsSuffice
refusals_suffice t file handed w h r =
    (refuses_along t file handed w h r, refuses_along (with_answers t w) file handed t.vouches (λ q k. sym (h q k)) r)

-- ---- a token

asked_alike : (t : Terms) (token : List ℕ) (due : Due) (w : Asked → Bool) → AnswersOfToken t token w
    → Agree (IsAskedFor t.policy t.trust due token) t.vouches w
asked_alike t token due w h q a = sym (h q (about_token t.policy t.trust due token q a))

passes_along : (t : Terms) (token : List ℕ) (due : Due) (w : Asked → Bool) → AnswersOfToken t token w → (m : ℕ)
    → PassesFor t token due m → PassesFor (with_answers t w) token due m
passes_along t token due w h m p = passes t w token due m (asked_alike t token due w h) p

pub passing_suffices : PassingSuffices
passing_suffices t token due w h m = (
  passes_along t token due w h m,
  passes_along (with_answers t w) token due t.vouches (λ q k. sym (h q k)) m,
)

fails_along : (t : Terms) (token : List ℕ) (due : Due) (w : Asked → Bool) → AnswersOfToken t token w
    → (failed : TokenRule) → TokenFailsFor t token due failed → TokenFailsFor (with_answers t w) token due failed
fails_along t token due w h failed f = token_fails t w token due failed (asked_alike t token due w h) f

pub failures_suffice : FailuresSuffice
failures_suffice t token due w h failed = (
  fails_along t token due w h failed,
  fails_along (with_answers t w) token due t.vouches (λ q k. sym (h q k)) failed,
)
