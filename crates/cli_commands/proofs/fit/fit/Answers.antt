use Rattle.cli_commands.proofs.fit.fit.Goals as goal
use Rattle.cli_values.proofs.Held.{held_as}
use Rattle.cli_commands.proofs.JudgedFiles.{given_by}
use Rattle.cli_commands.proofs.Fitting.{shows_fit, shows_unfit}

pub returns-clause-fits : goal.returns-clause-fits
returns-clause-fits g c = shows_fit _ (λ (v : _). v.items) _ c.args.words.now _ _ _ _
    (λ s content all. given_by g.R.File.Read.remaining s.inner content all)
    (held_as _ _ _ c.as_slice.ensures.value c.in_ok-octets.ensures.whole) c.with_sha1-policy.ensures
    c.in_ok-content.ensures.handed c.text_of.result c.text_of.ensures

pub returns-clause-refused : goal.returns-clause-refused
returns-clause-refused g c = shows_unfit _ (λ (v : _). v.items) _ c.args.words.now _ _ _ _
    (λ s content all. given_by g.R.File.Read.remaining s.inner content all)
    (held_as _ _ _ c.as_slice.ensures.value c.in_ok-octets.ensures.whole) c.with_sha1-policy.ensures
    c.in_ok-content.ensures.handed c.text_of.result c.text_of.ensures
