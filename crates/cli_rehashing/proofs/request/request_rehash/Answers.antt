use Rattle.std.proofs.lemmas.Result.{err_from_is_err_and}
use Rattle.cli_values.proofs.Held.{held_as}
use Rattle.cli_rehashing.proofs.Runs.{octets_refused, requested, unwritten}
use Rattle.cli_rehashing.proofs.request.request_rehash.Goals as goal

pub returns-in_err-octets-clause-failed : goal.returns-in_err-octets-clause-failed
returns-in_err-octets-clause-failed g c =
    let p = err_from_is_err_and c.from_residual-in_err-octets.result c.from_residual-in_err-octets.ensures.1 in
    rw (p.1, p.2)
    (octets_refused g.R.File.Read.remaining g.R.File.Write.contents c.args.words.now c.in_ok-alg.alg
    c.in_ok-alg.ensures.found c.as_slice.result.now
    (held_as _ _ _ c.as_slice.ensures.value c.in_ok-text.ensures.whole) _ c.in_err-octets.ensures.refused)

pub returns-in_err-write_whole-clause-failed : goal.returns-in_err-write_whole-clause-failed
returns-in_err-write_whole-clause-failed g c =
    let p = err_from_is_err_and c.from_residual-in_err-write_whole.result
    c.from_residual-in_err-write_whole.ensures.1 in
    rw (p.1, p.2)
    (unwritten g.R.File.Read.remaining g.R.File.Write.contents c.args.words.now _
    (requested g.R.File.Read.remaining g.R.File.Write.contents c.args.words.now c.in_ok-alg.alg
    c.in_ok-alg.ensures.found c.as_slice.result.now
    (held_as _ _ _ c.as_slice.ensures.value c.in_ok-text.ensures.whole) _ c.in_ok-octets.ensures.made.0)
    c.in_err-write_whole.ensures.failure)

pub returns-clause-made : goal.returns-clause-made
returns-clause-made g c = record {
  requested = record {
    alg = c.in_ok-alg.alg;
    named = c.in_ok-alg.ensures.found;
    text = c.as_slice.result.now;
    held = held_as _ _ _ c.as_slice.ensures.value c.in_ok-text.ensures.whole;
    octets = c.in_ok-octets.octets.items;
    made = c.in_ok-octets.ensures.made.0;
  };
  written = rw c.as_slice-2.ensures.value at c.in_ok-write_whole.ensures.whole;
  not_sums = c.in_ok-apart.ensures.apart;
  apart = c.in_ok-octets.ensures.made.1;
}
