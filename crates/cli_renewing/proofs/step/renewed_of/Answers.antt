use Rattle.std.proofs.Common.{Some, inl, inr, refl}
use Rattle.cli_renewing.proofs.Renewals.{is_done, is_renewal, too_long}
use Rattle.cli_renewing.proofs.Standings.{found_done, found_last, outside_leaf, outside_none}
use Rattle.cli_renewing.proofs.step.renewed_of.Goals as goal

pub returns-then-standing : goal.returns-then-standing
returns-then-standing c =
    is_done c.args.by.now.tree.now c.args.by.now.token.now c.args.by.now.moment c.requires.0 c.args.octets.now
    c.in-Ok.standing.last c.in-Some.values c.in-Some.ensures.up c.in-Some.ensures.later
    (found_done (Some c.args.by.now.token.now) c.args.octets.now c.in-Ok.standing.done c.in-Ok.standing.last
    c.if-standing.true c.in-Ok.ensures.found)

pub returns-in-Ok-renew_record : goal.returns-in-Ok-renew_record
returns-in-Ok-renew_record c =
    let (v, was, encoded) = c.in-Ok-renew_record.ensures.answer in
    is_renewal c.args.by.now.tree.now c.args.by.now.token.now c.args.by.now.moment c.requires.0 c.args.octets.now
    c.in-Ok.standing.last c.in-Some.values c.in-Some.ensures.up c.in-Some.ensures.later
    (found_last (Some c.args.by.now.token.now) c.args.octets.now c.in-Ok.standing.done c.in-Ok.standing.last
    c.if-standing.false c.in-Ok.ensures.found)
    v c.in-Ok-renew_record.renewed.items was encoded (c.in-Ok-renew_record.ensures.kept v was)
    (c.in-Ok-renew_record.ensures.shows v was)

pub returns-in-Err-TooLong : goal.returns-in-Err-TooLong
returns-in-Err-TooLong c =
    let answer = rw c.in-Err-TooLong.field-0-is at c.in-Err-TooLong.ensures.answer in
    too_long c.args.by.now.tree.now c.args.by.now.token.now c.args.by.now.moment c.requires.0 c.args.octets.now
    c.in-Ok.standing.last c.in-Some.values c.in-Some.ensures.up c.in-Some.ensures.later
    (found_last (Some c.args.by.now.token.now) c.args.octets.now c.in-Ok.standing.done c.in-Ok.standing.last
    c.if-standing.false c.in-Ok.ensures.found)
    answer.0 answer.1 answer.2

pub returns-in-Err : goal.returns-in-Err
returns-in-Err c = elim c.of.ensures [
  | inl w ↦ rw w.0 tt
  | inr w ↦ rw w.0
      (outside_none c.args.by.now.tree.now c.args.by.now.token.now c.args.by.now.moment c.args.octets.now
      c.in-Err.failure w.1 c.in-Err.ensures.refused)
]

pub returns-in_default : goal.returns-in_default
returns-in_default c =
    outside_leaf c.args.by.now.tree.now c.args.by.now.token.now c.args.by.now.moment c.args.octets.now
    c.in-Ok.standing.done c.in-Ok.standing.last c.in-Ok.ensures.found (c.in_default.ensures.none refl)
