use Rattle.std.proofs.Common.{ap}
use Rattle.std.specs.Option.{option_copied}
use Rattle.check_evidence.proofs.Tests.{lengths_of}
use Rattle.check_evidence.proofs.list_tests.have_lengths.Goals as goal

pub returns-in-Some : goal.returns-in-Some
returns-in-Some c = lengths_of (option_copied c.args.lists) c.in-Some.lists.now c.args.alg c.are_all_long.result
    (ap option_copied c.in-Some.is)
    (rw (← c.length.ensures) c.are_all_long.ensures)
