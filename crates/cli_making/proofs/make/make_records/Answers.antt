use Rattle.std.proofs.lemmas.Result.{err_from_is_err_and}
use Rattle.cli_making.proofs.Givens.{given_as}
use Rattle.cli_making.proofs.Made.{none_given, none_made}
use Rattle.cli_making.proofs.make.make_records.Goals as goal

pub returns-in_err-given-clause-failed : goal.returns-in_err-given-clause-failed
returns-in_err-given-clause-failed g c =
    let p = err_from_is_err_and c.from_residual.result c.from_residual.ensures.1 in
    rw (p.1, p.2) (none_given g.R.File.Read.remaining c.args.words.now _ c.in_err-given.ensures.refused)

pub returns-in_err-make_all-clause-failed : goal.returns-in_err-make_all-clause-failed
returns-in_err-make_all-clause-failed g c =
    let p = err_from_is_err_and c.from_residual-in_err-make_all.result c.from_residual-in_err-make_all.ensures.1 in
    rw (p.1, p.2)
    (none_made g.R.File.Read.remaining c.args.words.now _ c.in_ok-given.given.alg c.as_slice-text.result.now
    c.as_slice-token.result.now
    (given_as _ _ _ _ _ _ _ c.as_slice-text.ensures.value c.as_slice-token.ensures.value c.in_ok-given.ensures.found)
    c.in_err-make_all.ensures.failed)

pub returns-clause-made : goal.returns-clause-made
returns-clause-made g c = record {
  alg = c.in_ok-given.given.alg;
  text = c.as_slice-text.result.now;
  token = c.as_slice-token.result.now;
  given =
      given_as _ _ _ _ _ _ _ c.as_slice-text.ensures.value c.as_slice-token.ensures.value c.in_ok-given.ensures.found;
  made = c.in_ok-make_all.ensures.made;
}
