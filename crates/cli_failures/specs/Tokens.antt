-- The token of a response that answers a request (RFC 3161, 2.2 and 2.4.2).
use Rattle.std.specs.Prelude.{◌≡◌, ℕ, List, Some}
use Rattle.der_core.specs.Faults.{Faults}
use Rattle.der_core.specs.Grammar as grammar
use Rattle.der_grammar.specs.Table as table
use Rattle.tsp_types.specs.RequestValue.{RequestValue, EncodesRequest}
use Rattle.tsp_types.specs.ResponseValue.{ResponseValue, EncodesResponse}
use Rattle.tsp_requester.specs.Answering.{Answering, MatchFails}
use Rattle.cli_failures.specs.declared.failure.Failure.{Failure}
use Rattle.cli_failures.specs.declared.failure.Failure.TheVariants as failure
use Rattle.cli_failures.specs.declared.failure.Message.TheVariants as message

-- the octets encode a request and a response that answers it, and this is the token of the response
pub record Answers (request response token : List ℕ) : Type 0 where
  pub asked : RequestValue
  pub encodes_asked : EncodesRequest request asked
  pub given : ResponseValue
  pub encodes_given : EncodesResponse response given
  pub answering : Answering asked given
  pub holds : given.token ≡ Some token

-- there are a request and a response, of which this holds
abbrev pub OfBoth : (request response : List ℕ) → (RequestValue → ResponseValue → Type 0) → Type 0
OfBoth request response Fact = (asked : RequestValue) × (given : ResponseValue) × EncodesRequest request asked
    × EncodesResponse response given × Fact asked given

-- the octets aren't a request; there is a request, and the others aren't a response; or there are both, and the
-- response doesn't answer by this rule
abbrev pub AnswersNot : (request response : List ℕ) → Failure → Type 0
AnswersNot request response (failure.MalformedMessage message.Request fault) =
    Faults (grammar.file table.request) request fault
AnswersNot request response (failure.MalformedMessage message.Response fault) =
    ((asked : RequestValue) × EncodesRequest request asked) × Faults (grammar.file table.response) response fault
AnswersNot request response (failure.Unmatched rule) =
    OfBoth request response (λ asked given. MatchFails asked given rule)
AnswersNot request response why = ⊥
