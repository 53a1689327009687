use Rattle.std.proofs.Common.{Some, refl, lit<}
use Rattle.std.proofs.lemmas.Str.Pattern.{split_once_first}
use Rattle.cli_failures.proofs.StatedEnds.{another_time, stated}
use Rattle.cli_failures.proofs.ends.end_of.Goals as goal

pub returns-clause-found : goal.returns-clause-found
returns-clause-found c =
    let (there, name, time) = split_once_first 61 c.args.word.now (Some (c.in-Some.name, c.in-Some.time))
    c.in-Some.ensures.cases (lit< tt) in
    rw c.of.ensures
    (stated c.args.word.now there c.in-Some.name.now c.in-Some.time.now c.in-Some-named.alg c.in-Ok.last name time
    c.in-Some-named.ensures.found c.in-Ok.ensures.found)

pub returns-in_default-moment_of-clause-refused : goal.returns-in_default-moment_of-clause-refused
returns-in_default-moment_of-clause-refused c =
    let (there, name, time) = split_once_first 61 c.args.word.now (Some (c.in-Some.name, c.in-Some.time))
    c.in-Some.ensures.cases (lit< tt) in
    (refl, another_time c.args.word.now there c.in-Some.time.now time c.in_default-moment_of.ensures.refused.1)
