use Rattle.std.proofs.Common.{inl, inr, ap, ◌∙◌}
use Rattle.cli_failures.specs.declared.failure.Failure.{Failure}
use Rattle.tsp_requester.specs.declared.fault.AttachFault.{AttachFault}
use Rattle.library_calls.specs.Attaching.{failure_of_attach}
use Rattle.library_answers.specs.Failures.{failure_status}
use Rattle.library_calls.proofs.Told.{made_as, unmade_as}
use Rattle.library_calls.proofs.attach.tell_attached.Goals as goal

pub returns-in-Ok-clause-answer : goal.returns-in-Ok-clause-answer
returns-in-Ok-clause-answer c = let f = c.in-Ok.ensures.found in
    inl (f.0, f.1, made_as _ _ _ _ _ _ _ (c.deref.ensures.value ∙ f.2) c.tell_made.ensures)

pub returns-in-Ok-clause-only : goal.returns-in-Ok-clause-only
returns-in-Ok-clause-only c =
    λ w a. inl (made_as _ _ _ _ _ _ _ (c.deref.ensures.value ∙ c.in-Ok.ensures.only w a) c.tell_made.ensures)

pub returns-in-Err-clause-answer : goal.returns-in-Err-clause-answer
returns-in-Err-clause-answer c =
    inr (c.in-Err.fault, c.in-Err.ensures.refused, unmade_as _ _ _ _ _ _ _ c.failure_of.ensures c.tell_unmade.ensures)

pub returns-in-Err-clause-only : goal.returns-in-Err-clause-only
returns-in-Err-clause-only c = λ w a. inr (c.tell_unmade.ensures.1 ∙ ap (λ (f : Failure). failure_status f)
    (c.failure_of.ensures ∙ ap (λ (f : AttachFault). failure_of_attach f) (c.in-Err.ensures.only w a)))
