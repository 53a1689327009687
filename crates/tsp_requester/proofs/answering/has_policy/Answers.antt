use Rattle.std.proofs.Common.{ℕ, List, Option, Some, ap, ◌∙◌}
use Rattle.tsp_requester.proofs.AnsweringLaw.{same_policy}
use Rattle.tsp_requester.proofs.answering.has_policy.Goals as goal

abbrev some : List ℕ → Option (List ℕ)
some b = Some b

pub returns-in-Some : goal.returns-in-Some
returns-in-Some c = same_policy c.args.request.now.policy c.args.stamp.now.policy c.bytes-in-Some.result.now
    c.bytes.result.now c.is_same.result
    (ap some c.bytes-in-Some.ensures.octets ∙ c.in-Some.ensures)
    (c.bytes.ensures.octets ∙ c.policy-in-Some.ensures) c.is_same.ensures
