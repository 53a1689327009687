use Rattle.std.proofs.Common.{ℕ, Vec, Global}
use Rattle.library_calls.specs.Requests.{IsHashed}
use Rattle.library_calls.proofs.Requested.{by_name, requested}
use Rattle.library_calls.proofs.request.tell_request_of.Goals as goal

pub returns : goal.returns
returns c =
    let IsOf = IsHashed c.args.name.now c.args.octets.now in
    requested c.args.policy.now c.args.nonce.now c.args.certificate IsOf c.args.name.now c.hashed.result
    c.hashed.ensures.found (by_name c.args.policy.now c.args.nonce.now c.args.certificate IsOf c.args.name.now
    c.hashed.result c.hashed.ensures.refused) (λ (v : Vec ℕ Global). v.items) c.octets_of-made.result
    c.tell_result.result.said c.tell_result.result.status _ c.tell_result.result.size _ c.octets_of-made.ensures.made
    c.octets_of-made.ensures.refused c.tell_result.ensures
