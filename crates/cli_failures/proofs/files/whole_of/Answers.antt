use Rattle.std.proofs.Common.{rules}
use Rattle.cli_failures.proofs.Whole.{taken_whole}
use Rattle.cli_failures.proofs.files.whole_of.Goals as goal

pub returns-clause-whole : goal.returns-clause-whole
returns-clause-whole g c =
    taken_whole c.take.result.limit (g.F.Read.remaining c.args.file) c.new-octets.result.items
    c.read_to_end.new.buf.items (search rules) (search rules) (search rules)
