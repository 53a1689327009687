use Rattle.std.proofs.Common.{List, None, inl, inr, sym, subst, refl}
use Rattle.std.proofs.lemmas.Result.{err_from_is_err_and}
use Rattle.cli_renewing.specs.declared.footing.Footing.{Footing}
use Rattle.cli_renewing.specs.Footings.{AreFootings}
use Rattle.cli_renewing.specs.Unrenewed.{HaveNoTree}
use Rattle.cli_renewing.proofs.Runs.{asks_not, no_tree}
use Rattle.cli_renewing.proofs.Short.{short_request}
use Rattle.cli_renewing.proofs.request.renewal_request.Goals as goal

pub returns-in_err-tree-clause-refused : goal.returns-in_err-tree-clause-refused
returns-in_err-tree-clause-refused g c =
    let p = err_from_is_err_and c.from_residual-in_err-tree.result c.from_residual-in_err-tree.ensures.1 in
    rw (p.1, p.2)
    (no_tree g.K.Keeps.ways None c.args.paths.now c.as_slice.result.now
    (subst (λ (fs : List Footing). AreFootings g.K.Keeps.ways None c.args.paths.now fs) (sym c.as_slice.ensures.value)
    c.in_ok-footings.ensures.found) _ c.in_err-tree.ensures.refused)

pub returns-clause-refused : goal.returns-clause-refused
returns-clause-refused g c =
    asks_not (HaveNoTree g.K.Keeps.ways None c.args.paths.now) (inr (inl refl)) c.root-root.result
    (short_request c.root-root.result c.bytes-octets.ensures.count) c.request_of.result c.request_of.ensures.refused
