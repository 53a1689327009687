use Rattle.cli_making.proofs.ByImprint.{imprint_named, names_imprint, nothing_named}
use Rattle.cli_making.proofs.algorithm.imprint_alg.Goals as goal

pub returns-in_default-clause-only : goal.returns-in_default-clause-only
returns-in_default-clause-only c = λ alg h. absurd (nothing_named c.args.token.now c.in_default.ensures alg h)

pub returns-clause-found : goal.returns-clause-found
returns-clause-found c =
    names_imprint c.args.token.now c.in-Some.state c.in-Some.ensures c.imprint_alg.result c.imprint_alg.ensures.found

pub returns-clause-only : goal.returns-clause-only
returns-clause-only c = λ alg h. c.imprint_alg.ensures.only alg
    (imprint_named c.args.token.now c.in-Some.state c.in-Some.ensures alg h)
