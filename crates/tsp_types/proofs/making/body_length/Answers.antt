use Rattle.std.proofs.Common.{◌≡◌, cond}
use Rattle.std.specs.Prelude.{option_map}
use Rattle.tsp_types.proofs.LengthsMade.{body_sum}
use Rattle.tsp_types.proofs.making.body_length.Goals as goal
use Rattle.tsp_types.proofs.making.body_length.Goals.{then-cert_req, else-cert_req}

pub returns-clause-size : goal.returns-clause-size
returns-clause-size c =
    let flag : c.if-cert_req.flag ≡ cond c.args.cert_req 3 0 =
    elim c.if-cert_req.branch [
      | then-cert_req w ↦ rw (w.if-cert_req.true) w.flag-is
      | else-cert_req w ↦ rw (w.if-cert_req.false) w.flag-is
    ] in
    body_sum c.args.digest.now (option_map (λ x. x.now) c.args.policy)
    (option_map (λ x. x.now) c.args.nonce) c.args.cert_req c.imprint_length.result
    c.in_ok-policy.policy c.in_ok-nonce.nonce c.if-cert_req.flag
    c.imprint_length.ensures.size c.imprint_length.ensures.bound c.in_ok-policy.ensures.size.0
    c.in_ok-nonce.ensures.size.0 flag
