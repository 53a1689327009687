use Rattle.std.proofs.Common.{ℕ, Vec, Global, inl, inr}
use Rattle.std.proofs.lemmas.Result.{err_from_is_err_and}
use Rattle.library_records.proofs.Renewals.{found_last, is_renewal, not_renewed, renews_nothing, stands_on}
use Rattle.library_records.proofs.renewal.renewed_of.Goals as goal

pub returns-in_err-standing-clause-refused : goal.returns-in_err-standing-clause-refused
returns-in_err-standing-clause-refused c =
    let p = err_from_is_err_and c.from_residual.result c.from_residual.ensures.1 in
    rw (p.1, p.2)
    (renews_nothing c.args.tree.now c.args.token.now c.args.octets.now _ c.in_err-standing.ensures.refused)

pub returns-in_err-values-clause-refused : goal.returns-in_err-values-clause-refused
returns-in_err-values-clause-refused c =
    let p = err_from_is_err_and c.from_residual-in_err-values.result c.from_residual-in_err-values.ensures.1 in
    rw (p.1, p.2) (inr (inr (inl (
      c.in_ok-standing.standing.last,
      stands_on c.args.token.now c.args.octets.now c.in_ok-standing.standing.done c.in_ok-standing.standing.last
          c.in_ok-standing.ensures.found,
      c.in_err-values.ensures.refused,
    ))))

pub returns-in-Ok-clause-renewed : goal.returns-in-Ok-clause-renewed
returns-in-Ok-clause-renewed c =
    let (not_done, stood) = found_last c.args.token.now c.args.octets.now c.in_ok-standing.standing.done
    c.in_ok-standing.standing.last c.if-standing.false c.in_ok-standing.ensures.found in
    let (v, was, encoded) = c.in-Ok.ensures.answer in
    is_renewal c.args.tree.now c.args.token.now c.args.octets.now c.in_ok-standing.standing.last
    c.in_ok-values.ensures.stamped not_done stood c.in_ok-values.values c.in_ok-values.ensures.up v
    c.in-Ok.renewed.items was encoded (c.in-Ok.ensures.kept v was) (c.in-Ok.ensures.shows v was)

pub returns-in-Err-clause-refused : goal.returns-in-Err-clause-refused
returns-in-Err-clause-refused c =
    let (not_done, stood) = found_last c.args.token.now c.args.octets.now c.in_ok-standing.standing.done
    c.in_ok-standing.standing.last c.if-standing.false c.in_ok-standing.ensures.found in
    rw c.failure_of.ensures
    (not_renewed c.args.tree.now c.args.token.now c.args.octets.now c.in_ok-standing.standing.last
    c.in_ok-values.ensures.stamped not_done stood c.in_ok-values.values c.in_ok-values.ensures.up
    (λ (v : Vec ℕ Global). v.items) c.renew_record.result c.in-Err.fault c.in-Err.is c.renew_record.ensures.answer)
