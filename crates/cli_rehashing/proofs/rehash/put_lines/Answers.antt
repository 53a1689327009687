use Rattle.std.proofs.Common.{sym, subst}
use Rattle.std.specs.List.{AllByRecursion}
use Rattle.std.specs.Str.{IsUtf8}
use Rattle.std.proofs.lemmas.Result.{err_from_is_err_and}
use Rattle.cli_rehashing.specs.Rehashing.{rehashing}
use Rattle.cli_rehashing.proofs.Puts.{put_begins, put_on, put_stops}
use Rattle.cli_rehashing.proofs.Walks.{first_of}
use Rattle.cli_rehashing.proofs.rehash.put_lines.Goals as goal

pub loop-sum-init : goal.loop-sum-init
loop-sum-init g c = record {
  named = subst (λ ss. AllByRecursion (λ s. IsUtf8 s.name) ss) (sym c.again-left.ensures) c.requires.named;
  walked = put_begins g.K.KeepsBelow.ways
      (rehashing c.args.folder.now c.args.by.now.tree.now c.args.by.now.token.now c.args.by.now.moment) _ _ _
      c.again-left.ensures;
}

pub loop-sum-preserved : goal.loop-sum-preserved
loop-sum-preserved g c = record {
  named = (first_of (λ s. IsUtf8 s.name) c.in-Some.sum _ _ c.in-Some.ensures c.loop-sum.invariant.named).1;
  walked = put_on g.K.KeepsBelow.ways
      (rehashing c.args.folder.now c.args.by.now.tree.now c.args.by.now.token.now c.args.by.now.moment) c.in-Some.sum
      _ _ _ c.in-Some.ensures _ _ _ c.loop-sum.invariant.walked c.in_ok-put_line.ensures.put;
}

pub returns-in_err-put_line-clause-failed : goal.returns-in_err-put_line-clause-failed
returns-in_err-put_line-clause-failed g c =
    let p = err_from_is_err_and c.from_residual.result c.from_residual.ensures.1 in
    rw (p.1, p.2)
    (put_stops g.K.KeepsBelow.ways
    (rehashing c.args.folder.now c.args.by.now.tree.now c.args.by.now.token.now c.args.by.now.moment) c.in-Some.sum
    _ _ _ c.in-Some.ensures _ _ _ c.loop-sum.invariant.walked _ c.in_err-put_line.ensures.fails
    c.in_err-put_line.ensures.none)
