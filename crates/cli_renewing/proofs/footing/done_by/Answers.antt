use Rattle.cli_renewing.proofs.footing.done_by.Goals as goal

pub returns-in-Some : goal.returns-in-Some
returns-in-Some c = rw c.in-Some.is c.renewed_by.ensures.renewed
