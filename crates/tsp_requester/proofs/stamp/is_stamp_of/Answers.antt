use Rattle.std.proofs.Common.{ℕ, List, Option, ap, ◌∙◌}
use Rattle.std.specs.Prelude.{option_map}
use Rattle.der_core.specs.Values.{AlgorithmValue}
use Rattle.tsp_requester.proofs.Imprint.{named_as, imprint_when}
use Rattle.tsp_requester.proofs.stamp.is_stamp_of.Goals as goal

abbrev oid : AlgorithmValue → List ℕ
oid v = v.oid

abbrev parameters : AlgorithmValue → Option (List ℕ)
parameters v = v.parameters

pub returns-in-Some : goal.returns-in-Some
returns-in-Some c =
    let alone =
    named_as c.oid.result.now c.args.stamp.now.imprint.algorithm.oid (option_map (λ p. p.now) c.parameters.result)
    c.args.stamp.now.imprint.algorithm.parameters c.in-Some.alg (c.oid.ensures ∙ ap oid c.algorithm-algorithm.ensures)
    (c.parameters.ensures ∙ ap parameters c.algorithm-algorithm.ensures)
    (record { named = c.in-Some.ensures.found; only = c.in-Some.ensures.only }) in
    imprint_when c.args.stamp.now.imprint c.args.octets.now c.in-Some.alg c.imprint.result.now c.bytes.result.now
    c.is_same.result alone
    c.imprint.ensures (c.bytes.ensures.octets ∙ c.digest.ensures.octets) c.is_same.ensures
