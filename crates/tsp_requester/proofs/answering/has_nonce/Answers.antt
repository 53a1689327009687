use Rattle.std.proofs.Common.{ℕ, List, Option, Some, ap, ◌∙◌}
use Rattle.tsp_requester.proofs.AnsweringLaw.{same_part}
use Rattle.tsp_requester.proofs.answering.has_nonce.Goals as goal

abbrev some : List ℕ → Option (List ℕ)
some b = Some b

pub returns-in-Some-Some : goal.returns-in-Some-Some
returns-in-Some-Some c = same_part c.args.request.now.nonce c.args.stamp.now.nonce c.bytes-in-Some-Some.result.now
    c.bytes.result.now c.is_same.result
    (ap some c.bytes-in-Some-Some.ensures.octets ∙ c.in-Some-Some.ensures)
    (ap some c.bytes.ensures.octets ∙ c.in-Some-Some.ensures') c.is_same.ensures
