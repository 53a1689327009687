use Rattle.std.proofs.Common.{ℕ, Vec, Global}
use Rattle.library_calls.proofs.Stamped.{signature_requested}
use Rattle.library_calls.proofs.request.tell_request_of_signature.Goals as goal

pub returns : goal.returns
returns c = signature_requested c.args.name.now c.args.file.now c.args.signer c.args.policy.now c.args.nonce.now
    c.args.certificate
    (λ (v : Vec ℕ Global). v.items) c.octets_of_signature-made.result c.tell_result.result.said
    c.tell_result.result.status _
    c.tell_result.result.size _
    c.octets_of_signature-made.ensures.made c.octets_of_signature-made.ensures.refused c.tell_result.ensures
