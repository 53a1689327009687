use Rattle.std.proofs.Common.{inr, refl}
use Rattle.cli_failures.proofs.Taking.{up_to_more, cut_more, cut_kept}
use Rattle.cli_failures.proofs.output.put.Goals as goal
use Rattle.cli_failures.proofs.output.put.Goals.{in_default-via-in-Ok+else-taken-gt0, in_default-via-in_default}

pub loop-left-preserved : goal.loop-left-preserved
loop-left-preserved g c = up_to_more c.args.octets.now c.loop-left.left.now (g.O.Write.contents c.args.out.now)
    (g.O.Write.contents c.loop-left.out)
    (g.O.Write.contents c.write.new.self) c.in-Ok.taken c.loop-left.invariant c.in-Ok.ensures.bytes

pub returns-in_default-clause-cut : goal.returns-in_default-clause-cut
returns-in_default-clause-cut g c = (
  inr (_, refl),
  elim c.in_default.branch [
    | in_default-via-in-Ok+else-taken-gt0 w ↦
        cut_more c.args.octets.now c.loop-left.left.now (g.O.Write.contents c.args.out.now)
        (g.O.Write.contents c.loop-left.out)
        (g.O.Write.contents c.write.new.self) w.in-Ok.taken c.loop-left.invariant w.in-Ok.ensures.bytes
    | in_default-via-in_default w ↦ cut_kept c.args.octets.now c.loop-left.left.now (g.O.Write.contents c.args.out.now)
        (g.O.Write.contents c.loop-left.out)
        (g.O.Write.contents c.write.new.self) c.loop-left.invariant w.in_default.ensures.bytes
  ],
)

pub returns-in-Err-clause-cut : goal.returns-in-Err-clause-cut
returns-in-Err-clause-cut g c = (
  inr (_, refl),
  cut_kept c.args.octets.now c.loop-left.left.now (g.O.Write.contents c.args.out.now)
      (g.O.Write.contents c.loop-left.out)
      (g.O.Write.contents c.flush.new.self) c.loop-left.invariant c.in-Err.ensures.bytes,
)
