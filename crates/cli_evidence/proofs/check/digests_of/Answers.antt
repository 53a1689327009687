use Rattle.std.proofs.Common.{[], inr, refl, unwrap_or}
use Rattle.cli_evidence.proofs.Digested.{digested, undigested}
use Rattle.cli_evidence.proofs.check.digests_of.Goals as goal

pub returns-in-Ok-clause-found : goal.returns-in-Ok-clause-found
returns-in-Ok-clause-found g c =
    digested g.R.File.Read.remaining c.args.wanted _ _ _ _ c.in-Ok.digests c.in-Ok.ensures

pub returns-clause-refused : goal.returns-clause-refused
returns-clause-refused g c = inr (
  c.in-Err.fault,
  undigested g.R.File.Read.remaining c.args.wanted _
      (unwrap_or (g.R.File.Read.remaining c.digests_from.new.source.inner) []) _ _ c.in-Err.fault c.in-Err.ensures,
  refl,
)
