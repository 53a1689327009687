use Rattle.std.proofs.Common.{ℕ, Vec, Global}
use Rattle.library_calls.specs.Requests.{IsGiven}
use Rattle.library_calls.proofs.Requested.{requested}
use Rattle.library_calls.proofs.request.tell_request.Goals as goal

pub returns : goal.returns
returns c = requested c.args.policy.now c.args.nonce.now c.args.certificate (IsGiven c.args.name.now c.args.digest.now)
    c.args.name.now c.given.result c.given.ensures.found c.given.ensures.refused (λ (v : Vec ℕ Global). v.items)
    c.octets_of-made.result c.tell_result.result.said c.tell_result.result.status _ c.tell_result.result.size _
    c.octets_of-made.ensures.made c.octets_of-made.ensures.refused c.tell_result.ensures
