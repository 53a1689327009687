use Rattle.std.proofs.Common.{◌≡◌, ◌⊎◌, None, inl, refl}
use Rattle.cli_failures.specs.declared.failure.Failure.TheVariants as failure
use Rattle.cli_renewing.proofs.Runs.{asks_not}
use Rattle.cli_renewing.proofs.Short.{short_request}
use Rattle.cli_rehashing.specs.Unrehashed.{StopsAt}
use Rattle.cli_rehashing.proofs.request.request_on.Goals as goal

pub returns-clause-refused : goal.returns-clause-refused
returns-clause-refused g c =
    asks_not (λ f. (f ≡ failure.Memory) ⊎ StopsAt g.K.KeepsBelow.ways None c.args.folder.now c.args.sums.now f)
    (inl refl) c.root-root.result (short_request c.root-root.result c.bytes-octets.ensures.count) c.request_of.result
    c.request_of.ensures.refused
