use Rattle.std.proofs.Common.{List, ℕ, sym, subst}
use Rattle.std.specs.Option.{option_copied}
use Rattle.cli_renewing.specs.Keeping.{kept}
use Rattle.cli_renewing.proofs.Standings.{is_footing}
use Rattle.cli_renewing.proofs.footing.footing_at.Goals as goal

pub returns-clause-found : goal.returns-clause-found
returns-clause-found g c =
    is_footing g.K.Keeps.ways (option_copied c.args.token) c.args.path.now c.as_slice.result.now
    c.in_ok-standing.standing.done c.in_ok-standing.standing.last
    (subst (λ (os : List ℕ). g.K.Keeps.ways.read (kept c.args.path.now os)) (sym c.as_slice.ensures.value)
    c.in_ok-octets.ensures.read) c.in_ok-standing.ensures.found
