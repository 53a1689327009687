use Rattle.std.proofs.Common.{refl}
use Rattle.std.proofs.lemmas.Result.{err_from_is_err_and}
use Rattle.cli_failures.specs.declared.failure.Failure.TheVariants as failure
use Rattle.cli_making.proofs.Made.{lacks, made_if, none_stated, not_stamped, not_tested, stopped_if}
use Rattle.cli_making.proofs.Stated.{ready_there}
use Rattle.cli_making.proofs.make.make_all.Goals as goal

pub tree_over-requires : goal.tree_over-requires
tree_over-requires g c = (c.args.text.now, c.in_ok-sums.ensures.found)

pub test_records-requires-clause-lines : goal.test_records-requires-clause-lines
test_records-requires-clause-lines g c =
    ready_there c.args.alg c.args.text.now _ _ _ c.in_ok-sums.ensures.found c.in_ok-sums.ensures.named
    c.in_ok-tree.ensures c.in_ok-by.ensures.has.0

pub write_records-requires-clause-lines : goal.write_records-requires-clause-lines
write_records-requires-clause-lines g c =
    ready_there c.args.alg c.args.text.now _ _ _ c.in_ok-sums.ensures.found c.in_ok-sums.ensures.named
    c.in_ok-tree.ensures c.in_ok-by.ensures.has.0

pub returns-in_err-sums-clause-failed : goal.returns-in_err-sums-clause-failed
returns-in_err-sums-clause-failed g c =
    let p = err_from_is_err_and c.from_residual.result c.from_residual.ensures.1 in
    rw (p.1, p.2)
    (none_stated g.P.Puts.ways _ c.args.folder.now c.args.alg c.args.text.now c.args.token.now _
    c.in_err-sums.ensures.refused)

pub returns-in_err-tree-clause-failed : goal.returns-in_err-tree-clause-failed
returns-in_err-tree-clause-failed g c =
    let p = err_from_is_err_and c.from_residual-in_err-tree.result c.from_residual-in_err-tree.ensures.1 in
    rw (p.1, p.2)
    (lacks g.P.Puts.ways _ c.args.folder.now c.args.alg c.args.text.now c.args.token.now _ c.in_ok-sums.ensures.found
    c.in_ok-sums.ensures.named failure.Memory refl)

pub returns-in_err-by-clause-failed : goal.returns-in_err-by-clause-failed
returns-in_err-by-clause-failed g c =
    let p = err_from_is_err_and c.from_residual-in_err-by.result c.from_residual-in_err-by.ensures.1 in
    rw (p.1, p.2)
    (not_stamped g.P.Puts.ways _ c.args.folder.now c.args.alg c.args.text.now c.args.token.now _
    c.in_ok-sums.ensures.found c.in_ok-sums.ensures.named c.in_ok-tree.tree c.in_ok-tree.ensures _
    c.in_err-by.ensures.refused)

pub returns-in_err-test_records-clause-failed : goal.returns-in_err-test_records-clause-failed
returns-in_err-test_records-clause-failed g c =
    let p = err_from_is_err_and c.from_residual-in_err-test_records.result
    c.from_residual-in_err-test_records.ensures.1 in
    rw (p.1, p.2)
    (not_tested g.P.Puts.ways _ c.args.folder.now c.args.alg c.args.text.now c.args.token.now _
    c.in_ok-sums.ensures.found c.in_ok-sums.ensures.named c.in_ok-tree.tree c.in_ok-tree.ensures c.in_ok-by.by
    c.in_ok-by.ensures.has c.in_ok-by.ensures.stamps _ c.in_err-test_records.ensures.failed)

pub returns-clause-failed : goal.returns-clause-failed
returns-clause-failed g c =
    stopped_if g.P.Puts.ways _ c.args.folder.now c.args.alg c.args.text.now c.args.token.now _
    c.in_ok-sums.ensures.found c.in_ok-sums.ensures.named c.in_ok-tree.tree c.in_ok-tree.ensures c.in_ok-by.by
    c.in_ok-by.ensures.has c.in_ok-by.ensures.stamps c.in_ok-test_records.ensures.tested _ c.write_records.result
    c.write_records.ensures.failed

pub returns-clause-made : goal.returns-clause-made
returns-clause-made g c =
    made_if g.P.Puts.ways _ c.args.folder.now c.args.alg c.args.text.now c.args.token.now _
    c.in_ok-sums.ensures.found c.in_ok-sums.ensures.named c.in_ok-tree.tree c.in_ok-tree.ensures c.in_ok-by.by
    c.in_ok-by.ensures.has c.in_ok-by.ensures.stamps c.in_ok-test_records.ensures.tested _ g.P.Puts.did
    c.write_records.result c.write_records.ensures.written
