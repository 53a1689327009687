use Rattle.std.proofs.Common.{◌≡◌, ◌≤◌, ◌++◌, ◌∷◌, ℕ, List, length, inl, inr, ap, ◌∙◌, arith}
use Rattle.std.proofs.lemmas.Bool.{cases_lt}
use Rattle.der_core.specs.Element.{len}
use Rattle.tsp_types.specs.Asked.{asked}
use Rattle.tsp_types.specs.RequestValue.{request_parts}
use Rattle.tsp_types.proofs.RequestMade.{request_made}
use Rattle.tsp_types.proofs.request.Request.make.Goals as goal

pub returns-clause-made : goal.returns-clause-made
returns-clause-made c =
    let fits : c.in_ok-body.body ≤ 4294967295 =
    elim (cases_lt 4294967295
    c.in_ok-body.body) [ inl h ↦ absurd (let z = c.in_ok-size.ensures.too_long.1 h in cc) | inr h ↦ h ] in
    let octets = c.policy_octets-policy.ensures.octets in
    let numbers = c.nonce_octets-nonce.ensures.octets in
    let parts = request_parts (asked c.args.digest.now c.args.policy c.args.nonce c.args.cert_req) in
    let body : c.in_ok-body.body ≡ length parts = rw (octets, numbers) at c.in_ok-body.ensures.size in
    let put = rw (octets, numbers) at c.in_ok-put_body.ensures.put in
    let policy_fits = rw octets at c.in_ok-put_body.ensures.policy in
    let nonce_fits = rw numbers at c.in_ok-put_body.ensures.nonce in
    let header : c.put_header.new.out.items ≡ 48 ∷ len (length parts) = c.in_ok-put_header.ensures.put
    ∙ ap (λ x. x ++ (48 ∷ len c.in_ok-body.body)) c.in_ok-out.ensures.items ∙ ap (λ (n : ℕ). 48 ∷ len n) body in
    request_made c.args.digest.now c.args.policy c.args.nonce c.args.cert_req c.put_body.new.out.items
    c.in_ok-put_body.ensures.count
    (omega (arith, fits, body)) (put ∙ ap (λ (x : List ℕ). x ++ parts) header)
    (record {
      policy = c.policy_octets-policy.ensures.formed;
      policy_fits = policy_fits;
      nonce = c.nonce_octets-nonce.ensures.formed;
      nonce_fits = nonce_fits;
    })
