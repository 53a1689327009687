-- How octets fail that are to be a request and a response. Reading them takes no memory.
use Rattle.std.proofs.Common.{◌≢◌, ℕ, List, Result, Err, refl}
use Rattle.der_core.specs.declared.fault.ReadFault.{ReadFault}
use Rattle.der_core.specs.declared.fault.ReadFault.TheVariants as read
use Rattle.der_core.specs.ReadFaults.{IsReadFault}
use Rattle.der_core.specs.Grammar as grammar
use Rattle.der_grammar.specs.Table as table
use Rattle.tsp_types.specs.RequestValue.{RequestValue, EncodesRequest}
use Rattle.tsp_types.specs.ResponseValue.{ResponseValue}
use Rattle.cli_failures.specs.declared.failure.Message.TheVariants as message
use Rattle.cli_failures.specs.Failures.{failure_of_message}
use Rattle.cli_failures.specs.Tokens.{AnswersNot}

pub no_request : (request response : List ℕ) (e : ReadFault) → IsReadFault (grammar.file table.request) request e
    → (let r : Result RequestValue ReadFault = Err e in r ≢ Err read.OutOfMemory)
    → AnswersNot request response (failure_of_message message.Request e)
no_request request response (read.Malformed fault) is memory = is
no_request request response read.OutOfMemory is memory = absurd (memory refl)

pub no_response : (request response : List ℕ) (asked : RequestValue) (e : ReadFault) → EncodesRequest request asked
    → IsReadFault (grammar.file table.response) response e
    → (let r : Result ResponseValue ReadFault = Err e in r ≢ Err read.OutOfMemory)
    → AnswersNot request response (failure_of_message message.Response e)
no_response request response asked (read.Malformed fault) encodes is memory = ((asked, encodes), is)
no_response request response asked read.OutOfMemory encodes is memory = absurd (memory refl)
