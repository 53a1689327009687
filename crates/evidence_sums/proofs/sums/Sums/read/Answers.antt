use Rattle.std.proofs.Common.{sym, ◌∙◌, inr}
use Rattle.evidence_sums.proofs.Tested.{sums_found, sums_twice}
use Rattle.evidence_sums.proofs.sums.Sums.read.Goals as goal

pub returns-in-Some-clause-refused : goal.returns-in-Some-clause-refused
returns-in-Some-clause-refused c = inr (sums_twice c.args.alg c.args.text.now c.in_ok-test.ensures.tested c.in-Some.line
    (sym c.in-Some.is ∙ c.in_ok-line.ensures))

pub returns-in-None-clause-found : goal.returns-in-None-clause-found
returns-in-None-clause-found c =
    sums_found c.args.alg c.args.text.now c.in_ok-test.ensures.tested (sym c.in-None.is ∙ c.in_ok-line.ensures)
