use Rattle.std.proofs.Common.{inl, inr, refl, rules}
use Rattle.library_records.proofs.new_chain.tell_rehashed.Goals as goal

pub returns-in-Ok-None : goal.returns-in-Ok-None
returns-in-Ok-None c =
    let done = rw c.in-Ok-None.field-0-is at c.in-Ok-None.ensures.rehashed in
    inl (c.args.octets.now, inr (done, refl), search rules)

pub returns-in-Err : goal.returns-in-Err
returns-in-Err c = inr (c.in-Err.why, c.in-Err.ensures.refused, c.tell_unmade.ensures)
