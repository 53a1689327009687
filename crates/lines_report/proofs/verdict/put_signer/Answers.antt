use Rattle.std.proofs.Common.{ℕ, List, ◌++◌, ap}
use Rattle.std.specs.Prelude.{codes}
use Rattle.std.specs.Fmt.{decimal}
use Rattle.lines_report.proofs.Texts.{wrote_same}
use Rattle.lines_report.proofs.verdict.put_signer.Goals as goal

pub returns-clause-wrote : goal.returns-clause-wrote
returns-clause-wrote g c =
    wrote_same c.put_three.result (g.S.Sink.tells c.args.sink.now) (g.S.Sink.taken c.args.sink.now)
    (g.S.Sink.taken c.put_three.new.sink) (g.S.Sink.failures c.args.sink.now) (g.S.Sink.failures c.put_three.new.sink)
    (codes "refused signer " ++ c.format.result.now ++ c.args.behind.now)
    (codes "refused signer " ++ decimal c.args.signer ++ c.args.behind.now)
    (ap (λ (t : List ℕ). codes "refused signer " ++ t ++ c.args.behind.now) c.format.ensures.text)
    c.put_three.ensures.wrote
