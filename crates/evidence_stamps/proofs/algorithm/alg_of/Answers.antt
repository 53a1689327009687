use Rattle.std.proofs.Common.{◌≡◌, Some, None, rules}
use Rattle.std.specs.Option.{option_copied}
use Rattle.evidence_stamps.proofs.Named.{imprint_names, none_named}
use Rattle.evidence_stamps.proofs.algorithm.alg_of.Goals as goal

pub returns-in-Some-state-clause-only : goal.returns-in-Some-state-clause-only
returns-in-Some-state-clause-only c = λ alg h.
    let absent : c.args.stamp.now.algorithm ≡ None = search rules in
    let some : option_copied c.args.state ≡ Some c.in-Some-state.state.now = search rules in
    c.imprint_alg.ensures.only alg (imprint_names c.args.stamp.now (option_copied c.args.state) c.requires absent
    c.in-Some-state.state.now some alg h)

pub returns-in-None-state-clause-only : goal.returns-in-None-state-clause-only
returns-in-None-state-clause-only c = λ alg h.
    let absent : c.args.stamp.now.algorithm ≡ None = search rules in
    let none : option_copied c.args.state ≡ None = search rules in
    absurd (none_named c.args.stamp.now (option_copied c.args.state) c.requires absent none alg h)
