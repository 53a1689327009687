use Rattle.std.proofs.Common.{sym, subst}
use Rattle.std.specs.List.{AllByRecursion}
use Rattle.std.specs.Str.{IsUtf8}
use Rattle.std.proofs.lemmas.Result.{err_from_is_err_and}
use Rattle.cli_rehashing.specs.Rehashing.{rehashing}
use Rattle.cli_rehashing.proofs.Puts.{tested_on, tests_begin, untested_there}
use Rattle.cli_rehashing.proofs.Walks.{first_of}
use Rattle.cli_rehashing.proofs.rehash.test_lines.Goals as goal

pub loop-sum-init : goal.loop-sum-init
loop-sum-init g c = record {
  named = subst (λ ss. AllByRecursion (λ s. IsUtf8 s.name) ss) (sym c.again-left.ensures) c.requires.named;
  walked = tests_begin g.K.KeepsBelow.ways
      (rehashing c.args.folder.now c.args.by.now.tree.now c.args.by.now.token.now c.args.by.now.moment) _ _
      c.again-left.ensures;
}

pub loop-sum-preserved : goal.loop-sum-preserved
loop-sum-preserved g c = record {
  named = (first_of (λ s. IsUtf8 s.name) c.in-Some.sum _ _ c.in-Some.ensures c.loop-sum.invariant.named).1;
  walked = tested_on g.K.KeepsBelow.ways
      (rehashing c.args.folder.now c.args.by.now.tree.now c.args.by.now.token.now c.args.by.now.moment)
      c.in-Some.sum _ _ _ c.in-Some.ensures c.loop-sum.invariant.walked c.in_ok-test_line.ensures.tested;
}

pub returns-in_err-test_line-clause-failed : goal.returns-in_err-test_line-clause-failed
returns-in_err-test_line-clause-failed g c =
    let p = err_from_is_err_and c.from_residual.result c.from_residual.ensures.1 in
    rw (p.1, p.2)
    (untested_there g.K.KeepsBelow.ways
    (rehashing c.args.folder.now c.args.by.now.tree.now c.args.by.now.token.now c.args.by.now.moment) c.in-Some.sum
    _ _ _ c.in-Some.ensures c.loop-sum.invariant.walked _ c.in_err-test_line.ensures.fails)
