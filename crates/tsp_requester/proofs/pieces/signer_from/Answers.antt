use Rattle.std.proofs.Common.{◌<◌, drop, sym, ap, ◌∙◌, arith}
use Rattle.std.proofs.Math.Seq.{drop-nil}
use Rattle.tsp_requester.proofs.Cutting.{drop_next, unnumbered}
use Rattle.tsp_requester.proofs.pieces.signer_from.Goals as goal

pub returns : goal.returns
returns c = unnumbered c.args.signers.now c.args.number c.loop-signer.invariant.1
    (sym c.loop-signer.invariant.0
    ∙ (ap (drop c.loop-signer.before) c.in_default.ensures ∙ drop-nil c.loop-signer.before))

pub loop-signer-preserved : goal.loop-signer-preserved
loop-signer-preserved c =
    let some : 0 < c.loop-signer.before = omega (arith, c.if-before-eq0.false) in (
      sym (drop_next c.loop-signer.left c.loop-signer.before c.in-Some.signer c.in-Some.others some c.in-Some.ensures)
          ∙ c.loop-signer.invariant.0,
      c.loop-signer.invariant.1,
    )
