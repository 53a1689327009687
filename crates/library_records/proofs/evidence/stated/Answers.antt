use Rattle.std.proofs.Common.{inl, inr, refl}
use Rattle.std.proofs.lemmas.Result.{err_from_is_err_and}
use Rattle.library_records.proofs.Stated.{says_not}
use Rattle.library_records.proofs.evidence.stated.Goals as goal

pub returns-in_err-at-clause-refused : goal.returns-in_err-at-clause-refused
returns-in_err-at-clause-refused c =
    let p = err_from_is_err_and c.from_residual-in_err-at.result c.from_residual-in_err-at.ensures.1 in
    rw (p.1, p.2, ← c.input.view_is)
    (inr (inr ((c.in_ok-ends.ends.items, c.in_ok-ends.ensures.found), inl c.in_err-at.ensures.refused)))

pub returns-else-have_lengths-clause-refused : goal.returns-else-have_lengths-clause-refused
returns-else-have_lengths-clause-refused c =
    rw (← c.input.view_is) (inr (inr (
      (c.in_ok-ends.ends.items, c.in_ok-ends.ensures.found),
      inr (
        (c.in_ok-at.at, c.in_ok-at.ensures.found),
        (refl, says_not c.have_lengths.result _ c.have_lengths.ensures c.if-have_lengths.false),
      ),
    )))
