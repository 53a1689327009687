use Rattle.cli_rehashing.proofs.footing.done_by.Goals as goal

pub returns-in-Some : goal.returns-in-Some
returns-in-Some c = rw c.in-Some.is c.rehashed_by.ensures.rehashed
