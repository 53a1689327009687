use Rattle.tsp_requester.proofs.AnsweringLaw.{never, one_rule}
use Rattle.tsp_requester.proofs.Deciding.{answers_or_fails}
use Rattle.tsp_requester.proofs.answering_laws.responses_are_judged.Goals as goal

pub returns : goal.returns
returns c = record { judged = answers_or_fails; never_both = never; one_rule = one_rule }
