use Rattle.cli_rehashing.specs.Lines.{AreLines}
use Rattle.cli_rehashing.proofs.Runs.{octets_if}
use Rattle.cli_rehashing.proofs.request.octets_of.Goals as goal

pub returns-clause-made : goal.returns-clause-made
returns-clause-made g c =
    let are : AreLines c.args.alg c.args.text.now c.in_ok-sums.sums = c.in_ok-sums.ensures.found in
    octets_if g.R.File.Read.remaining g.R.File.Write.contents c.args.words.now c.args.alg c.args.text.now _ are
    c.in_ok-test_apart.ensures.apart (λ v. v.items) c.request_on.result c.request_on.ensures.made
