-- What holds of the definitions of answering.
use Rattle.std.specs.Prelude.{◌≡◌, ◌⊎◌, IfSome}
use Rattle.der_core.specs.Element.{IsBytes}
use Rattle.tsp_types.specs.RequestValue.{RequestValue}
use Rattle.tsp_types.specs.ResponseValue.{ResponseValue}
use Rattle.tsp_requester.specs.declared.rules.MatchFault.{MatchFault}
use Rattle.tsp_requester.specs.Answering.{Answering, MatchFails}

-- a response, if its token is a list of octets, answers the request or fails a rule
abbrev pub AnswersOrFails : Type 0
AnswersOrFails = (request : RequestValue) (response : ResponseValue) → IfSome response.token IsBytes
    → Answering request response ⊎ ((failed : MatchFault) × MatchFails request response failed)

-- and never both
abbrev pub NeverBoth : Type 0
NeverBoth = (request : RequestValue) (response : ResponseValue) (failed : MatchFault) → Answering request response
    → MatchFails request response failed → ⊥

-- it fails exactly one rule first
abbrev pub FailsOneRule : Type 0
FailsOneRule = (request : RequestValue) (response : ResponseValue) (a b : MatchFault) → MatchFails request response a
    → MatchFails request response b → a ≡ b
