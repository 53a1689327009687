use Rattle.std.proofs.Common.{◌≡◌, rules}
use Rattle.digests.specs.declared.algorithm.Alg.TheVariants.{Sha256}
use Rattle.cli_making.proofs.ByImprint.{either, fit, unfit, unnamed}
use Rattle.cli_making.proofs.algorithm.alg_by_imprint.Goals as goal

pub returns-in_default : goal.returns-in_default
returns-in_default c =
    unnamed c.args.text.now c.args.token.now
    (λ alg h. let is = c.in_default.ensures.only alg h in let no : ⊥ = cc in no)

pub returns-then-eq : goal.returns-then-eq
returns-then-eq c =
    let is : c.in-Some.alg ≡ Sha256 = search rules in
    either c.args.text.now c.args.token.now c.in-Some.alg is c.in-Some.ensures.found c.in-Some.ensures.only

pub returns-then-fails_at_once : goal.returns-then-fails_at_once
returns-then-fails_at_once c =
    unfit c.args.text.now c.args.token.now c.in-Some.alg c.in-Some.ensures.only
    (c.fails_at_once.ensures.0 c.if-fails_at_once.true)

pub returns : goal.returns
returns c =
    fit c.args.text.now c.args.token.now c.in-Some.alg c.in-Some.ensures.found
    (λ fails. let yes = c.fails_at_once.ensures.1 fails in let no : ⊥ = cc in no)
