use Rattle.cli_files.proofs.Telling.{said_lost}
use Rattle.cli_files.proofs.lines.put_said.Goals as goal

pub returns-in-Err-clause-lost : goal.returns-in-Err-clause-lost
returns-in-Err-clause-lost g c = said_lost (λ (v : _). v.items) c.args.said.now c.in-Err.failure c.args.path.now
    (g.O.Write.contents c.args.out.now)
    (g.O.Write.contents c.put_failure.new.out) c.put_failure.result c.in-Err.is c.put_failure.ensures.lost
