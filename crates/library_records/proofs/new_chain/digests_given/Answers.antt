use Rattle.std.proofs.Common.{inr, refl}
use Rattle.library_records.proofs.new_chain.digests_given.Goals as goal

pub returns-in-Ok-Some-clause-found : goal.returns-in-Ok-Some-clause-found
returns-in-Ok-Some-clause-found c =
    let both = rw c.in-Ok-Some.field-0-is at c.in-Ok-Some.ensures in
    record { by = both.1; are = both.0 }

pub returns-in-Ok-None-clause-refused : goal.returns-in-Ok-None-clause-refused
returns-in-Ok-None-clause-refused c =
    let none = rw c.in-Ok-None.field-0-is at c.in-Ok-None.ensures in
    inr (refl, none)
