use Rattle.std.proofs.Common.{◌≡◌, Option, None, sym, ap, ◌∙◌, subst}
use Rattle.std.specs.Option.{option_copied}
use Rattle.evidence_types.specs.StampValue.{StampValue}
use Rattle.check_evidence.specs.Places.{last_of}
use Rattle.check_evidence.specs.Covering.{covered_after}
use Rattle.check_evidence.specs.CoveredValues.{AreValues}
use Rattle.check_evidence.specs.declared.covered.Covered.TheVariants as covered
use Rattle.judge_evidence.proofs.Values.{no_last, values_are}
use Rattle.judge_evidence.proofs.data.covered_by.Goals.{After-digest_before}
use Rattle.judge_evidence.proofs.data.covered_by.Goals as goal

none_before : (c : After-digest_before) → last_of c.args.place.now.before ≡ None
none_before c = sym c.previous.ensures ∙ ap option_copied c.in-None.is

pub returns-in-None-clause-given : goal.returns-in-None-clause-given
returns-in-None-clause-given c = c.requires.wanted (no_last c.args.place.now.before
    (none_before (goal.at.returns-in-None-clause-given c).After-digest_before))

pub returns-in-None-clause-covered : goal.returns-in-None-clause-covered
returns-in-None-clause-covered c = λ ds are.
    subst (λ (o : Option StampValue). AreValues c.args.alg (covered.Each c.digest_before.result c.args.digests)
    (covered_after c.args.alg o c.args.place.now.earlier ds))
    (sym (none_before (goal.at.returns-in-None-clause-covered c).After-digest_before))
    (values_are c.args.alg c.args.place.now.earlier c.digest_before.result c.digest_before.ensures c.args.digests.now ds
    are)
