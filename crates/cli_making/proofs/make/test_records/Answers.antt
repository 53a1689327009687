use Rattle.std.proofs.Common.{sym, subst}
use Rattle.std.proofs.lemmas.Result.{err_from_is_err_and}
use Rattle.cli_making.specs.Leaves.{AreReady, IsReady}
use Rattle.cli_making.proofs.Walked.{first_of, walk_begins, walk_ends, walk_on, test_stops}
use Rattle.cli_making.proofs.make.test_records.Goals as goal

pub loop-sum-init : goal.loop-sum-init
loop-sum-init g c = record {
  ready = subst (λ ss. AreReady c.args.by.now.tree.now ss) (sym c.again-left.ensures) c.requires.lines;
  walked =
      walk_begins g.P.Puts.ways.can c.args.folder.now c.args.by.now.tree.now c.args.by.now.token.now c.args.sums.now _
      c.again-left.ensures;
}

pub test_line-requires-clause-line : goal.test_line-requires-clause-line
test_line-requires-clause-line g c =
    (first_of (λ s. IsReady c.args.by.now.tree.now s) c.in-Some.sum _ _ c.in-Some.ensures c.loop-sum.invariant.ready).0

pub loop-sum-preserved : goal.loop-sum-preserved
loop-sum-preserved g c =
    let (p, of, can) = c.in_ok-test_line.ensures.can in
    record {
      ready = (first_of (λ s. IsReady c.args.by.now.tree.now s) c.in-Some.sum _ _ c.in-Some.ensures
          c.loop-sum.invariant.ready).1;
      walked =
          walk_on g.P.Puts.ways.can c.args.folder.now c.args.by.now.tree.now c.args.by.now.token.now c.in-Some.sum _ _ _
          c.in-Some.ensures c.loop-sum.invariant.walked p of can;
    }

pub returns-in_err-test_line-clause-failed : goal.returns-in_err-test_line-clause-failed
returns-in_err-test_line-clause-failed g c =
    let p = err_from_is_err_and c.from_residual.result c.from_residual.ensures.1 in
    rw (p.1, p.2)
    (test_stops g.P.Puts.ways.can c.args.folder.now c.args.by.now.tree.now c.args.by.now.token.now g.P.Puts.ways
    c.in-Some.sum _ _ _
    c.in-Some.ensures c.loop-sum.invariant.walked _ c.in_err-test_line.ensures.fails)

pub returns-clause-tested : goal.returns-clause-tested
returns-clause-tested g c =
    walk_ends g.P.Puts.ways.can c.args.folder.now c.args.by.now.tree.now c.args.by.now.token.now c.loop-sum.left
    c.args.sums.now
    c.in_default.ensures c.loop-sum.invariant.walked
