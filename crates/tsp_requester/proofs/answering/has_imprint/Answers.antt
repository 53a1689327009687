use Rattle.std.proofs.Common.{ℕ, List, ap, ◌∙◌}
use Rattle.der_core.specs.Values.{AlgorithmValue}
use Rattle.der_core.proofs.SameOctets.{compared}
use Rattle.tsp_requester.proofs.AnsweringLaw.{imprint_when, other_algorithm}
use Rattle.tsp_requester.proofs.answering.has_imprint.Goals as goal

abbrev oid : AlgorithmValue → List ℕ
oid v = v.oid

pub returns-then-is_same : goal.returns-then-is_same
returns-then-is_same c =
    let asked = c.args.request.now.imprint in
    let stamped = c.args.stamp.now.imprint in
    imprint_when asked stamped c.is_same.result c.is_same-then-is_same.result
    (compared c.bytes.result.now asked.algorithm.oid c.bytes-2.result.now stamped.algorithm.oid c.is_same.result
    (c.bytes.ensures.octets ∙ (c.oid.ensures ∙ ap oid c.algorithm.ensures))
    (c.bytes-2.ensures.octets ∙ (c.oid-2.ensures ∙ ap oid c.algorithm-2.ensures))
    c.is_same.ensures)
    (compared c.imprint.result.now asked.digest c.imprint-then-is_same.result.now stamped.digest
    c.is_same-then-is_same.result
    c.imprint.ensures c.imprint-then-is_same.ensures c.is_same-then-is_same.ensures)
    c.if-is_same.true

pub returns-else-is_same : goal.returns-else-is_same
returns-else-is_same c =
    let asked = c.args.request.now.imprint in
    let stamped = c.args.stamp.now.imprint in
    other_algorithm asked stamped c.is_same.result
    (compared c.bytes.result.now asked.algorithm.oid c.bytes-2.result.now stamped.algorithm.oid c.is_same.result
    (c.bytes.ensures.octets ∙ (c.oid.ensures ∙ ap oid c.algorithm.ensures))
    (c.bytes-2.ensures.octets ∙ (c.oid-2.ensures ∙ ap oid c.algorithm-2.ensures))
    c.is_same.ensures)
    c.if-is_same.false
