use Rattle.std.proofs.Common.{sym, subst}
use Rattle.std.proofs.lemmas.Result.{err_from_is_err_and}
use Rattle.cli_making.specs.Leaves.{AreReady, IsReady}
use Rattle.cli_making.proofs.Walked.{first_of, write_begins, write_ends, write_on, write_stops}
use Rattle.cli_making.proofs.make.write_records.Goals as goal

pub loop-sum-init : goal.loop-sum-init
loop-sum-init g c = record {
  ready = subst (λ ss. AreReady c.args.by.now.tree.now ss) (sym c.again-left.ensures) c.requires.lines;
  written =
      write_begins g.P.Puts.did c.args.folder.now c.args.by.now.tree.now c.args.by.now.token.now c.args.sums.now _ _
      c.again-left.ensures;
}

pub write_line-requires-clause-line : goal.write_line-requires-clause-line
write_line-requires-clause-line g c =
    (first_of (λ s. IsReady c.args.by.now.tree.now s) c.in-Some.sum _ _ c.in-Some.ensures c.loop-sum.invariant.ready).0

pub loop-sum-preserved : goal.loop-sum-preserved
loop-sum-preserved g c = record {
  ready = (first_of (λ s. IsReady c.args.by.now.tree.now s) c.in-Some.sum _ _ c.in-Some.ensures
      c.loop-sum.invariant.ready).1;
  written =
      write_on g.P.Puts.did c.args.folder.now c.args.by.now.tree.now c.args.by.now.token.now _ _ _ c.in-Some.sum _ _ _
      c.in-Some.ensures c.loop-sum.invariant.written c.in_ok-write_line.ensures.put;
}

pub returns-in_err-write_line-clause-failed : goal.returns-in_err-write_line-clause-failed
returns-in_err-write_line-clause-failed g c =
    let p = err_from_is_err_and c.from_residual.result c.from_residual.ensures.1 in
    rw (p.1, p.2)
    (write_stops g.P.Puts.did c.args.folder.now c.args.by.now.tree.now c.args.by.now.token.now _ _ _ c.in-Some.sum _ _ _
    c.in-Some.ensures c.loop-sum.invariant.written g.P.Puts.ways _ c.in_err-write_line.ensures.fails
    c.in_err-write_line.ensures.none)

pub returns-clause-written : goal.returns-clause-written
returns-clause-written g c =
    write_ends g.P.Puts.did c.args.folder.now c.args.by.now.tree.now c.args.by.now.token.now _ _ c.loop-sum.left
    c.args.sums.now
    c.in_default.ensures c.loop-sum.invariant.written
