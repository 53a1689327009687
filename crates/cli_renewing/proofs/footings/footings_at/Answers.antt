use Rattle.std.proofs.Common.{◌+◌, List, take, inr, sym, subst}
use Rattle.std.proofs.lemmas.Result.{err_from_is_err_and}
use Rattle.std.specs.Option.{option_copied}
use Rattle.cli_renewing.specs.declared.footing.Footing.{Footing}
use Rattle.cli_renewing.specs.Footings.{AreFootings}
use Rattle.cli_renewing.specs.Steps.{AreOfFirst}
use Rattle.cli_renewing.proofs.Standings.{first_more, mixed_at, not_of_first, of_first, one_more, refused_at}
use Rattle.cli_renewing.proofs.footings.footings_at.Goals as goal

pub returns-in_err-footing-clause-refused : goal.returns-in_err-footing-clause-refused
returns-in_err-footing-clause-refused g c =
    let p = err_from_is_err_and c.from_residual.result c.from_residual.ensures.1 in
    rw (p.1, p.2)
    (refused_at g.K.Keeps.ways (option_copied c.args.token) c.args.paths.now c.loop-path.footings.items
    c.loop-path.path-index _ c.loop-path-test.true c.loop-path.invariant.are _ c.in_err-footing.ensures.refused)

pub returns-then-not-is_of_first-clause-refused : goal.returns-then-not-is_of_first-clause-refused
returns-then-not-is_of_first-clause-refused g c =
    inr (mixed_at g.K.Keeps.ways (option_copied c.args.token) c.args.paths.now c.loop-path.footings.items
    c.loop-path.path-index _ c.loop-path-test.true c.loop-path.invariant.are c.in_ok-footing.footing
    c.loop-path.invariant.by
    (not_of_first c.loop-path.footings.items c.as_slice.result.now c.alg.result c.in_ok-footing.footing
    c.is_of_first.result c.as_slice.ensures.value c.alg.ensures c.is_of_first.ensures c.if-not-is_of_first.true)
    c.in_ok-footing.ensures.found)

pub loop-path-preserved : goal.loop-path-preserved
loop-path-preserved g c = record {
  are = subst (λ (fs : List Footing). AreFootings g.K.Keeps.ways (option_copied c.args.token)
      (take (c.loop-path.path-index + 1) c.args.paths.now) fs) (sym c.in_ok-push.ensures.items)
      (one_more g.K.Keeps.ways (option_copied c.args.token) c.args.paths.now c.loop-path.footings.items
      c.loop-path.path-index _ c.loop-path-test.true c.loop-path.invariant.are c.in_ok-footing.footing
      c.in_ok-footing.ensures.found);
  by = subst (λ (fs : List Footing). AreOfFirst fs) (sym c.in_ok-push.ensures.items)
      (first_more c.loop-path.footings.items c.in_ok-footing.footing c.loop-path.invariant.by
      (of_first c.loop-path.footings.items c.as_slice.result.now c.alg.result c.in_ok-footing.footing
      c.is_of_first.result c.as_slice.ensures.value c.alg.ensures c.is_of_first.ensures c.if-not-is_of_first.false));
}
