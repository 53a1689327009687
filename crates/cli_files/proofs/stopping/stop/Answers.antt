use Rattle.cli_failures.proofs.Taking.{begins_either}
use Rattle.cli_failures.specs.Failures.{failure_text}
use Rattle.cli_files.proofs.stopping.stop.Goals as goal

pub returns-in-Malformed-clause-cut : goal.returns-in-Malformed-clause-cut
returns-in-Malformed-clause-cut g c =
    begins_either (g.O.Write.contents c.args.out.now) (g.O.Write.contents c.put_text.new.out)
    (failure_text c.args.failure.now) c.put_text.result c.put_text.ensures.put c.put_text.ensures.cut
