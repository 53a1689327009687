use Rattle.std.proofs.Common.{◌^◌, ◌<◌, refl, arith}
use Rattle.der_oid_text.proofs.Subidentifiers.{read_last, read_more, read_large}
use Rattle.der_oid_text.proofs.oid_arcs.subidentifiers.Goals as goal
use Rattle.der_oid_text.proofs.oid_arcs.subidentifiers.Goals.{then-octet-lt128+in_ok-push, else-octet-lt128}

pub returns-in_default : goal.returns-in_default
returns-in_default c = read_large c.args.contents.now c.loop-octet.octet-index c.loop-octet.found.items
    c.loop-octet.number _ c.loop-octet.invariant
    c.loop-octet-test.true refl c.in_default.ensures

pub loop-octet-preserved : goal.loop-octet-preserved
loop-octet-preserved c =
    let fits : c.in-Some.next < 2 ^ 128 = omega arith in
    elim c.if-octet-lt128.branch [
      | then-octet-lt128+in_ok-push w ↦ rw (w.found-is, w.number-is, w.in_ok-push.ensures.items) (
          read_last c.args.contents.now c.loop-octet.octet-index c.loop-octet.found.items c.loop-octet.number _
          c.in-Some.next c.loop-octet.invariant
          c.loop-octet-test.true refl w.if-octet-lt128.true c.in-Some.ensures fits)
      | else-octet-lt128 w ↦ rw (w.found-is, w.number-is) (
          read_more c.args.contents.now c.loop-octet.octet-index c.loop-octet.found.items c.loop-octet.number _
          c.in-Some.next c.loop-octet.invariant
          c.loop-octet-test.true refl w.if-octet-lt128.false c.in-Some.ensures)
    ]
