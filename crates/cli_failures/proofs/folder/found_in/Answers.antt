use Rattle.std.proofs.Common.{rules}
use Rattle.cli_failures.proofs.Whole.{taken_other, taken_same}
use Rattle.cli_failures.proofs.folder.found_in.Goals as goal

pub returns-then-eq : goal.returns-then-eq
returns-then-eq g c =
    taken_same c.take.result.limit (g.F.Read.remaining c.args.file) c.new-held.result.items
    c.read_to_end.new.buf.items c.args.octets.now (search rules) (search rules) (search rules) (search rules)

pub returns : goal.returns
returns g c =
    taken_other c.take.result.limit (g.F.Read.remaining c.args.file) c.new-held.result.items
    c.read_to_end.new.buf.items c.args.octets.now (search rules) (search rules) (search rules) (search rules)
