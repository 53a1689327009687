use Rattle.std.proofs.Common.{◌<◌, arith, rules}
use Rattle.std.proofs.lemmas.Grind.{common_steps}
use Rattle.library_records.proofs.renewal.lists_after.Goals as goal

pub returns-else-le-clause-stamped : goal.returns-else-le-clause-stamped
returns-else-le-clause-stamped c =
    let there = c.in-Some.ensures.some.0 (search rules) in
    let later : c.args.last < c.in-Ok.moment = grind (arith, common_steps) in
    record {
      by = there.0;
      there = there.1;
      moment = c.in-Ok.moment;
      stamped = c.in-Ok.ensures.found;
      later = later;
    }

pub returns-else-le-clause-up : goal.returns-else-le-clause-up
returns-else-le-clause-up c = record { way = c.in-Some.ensures.way; lists = c.in-Some.ensures.lists }
