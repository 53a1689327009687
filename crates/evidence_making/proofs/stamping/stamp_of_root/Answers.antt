use Rattle.std.proofs.Common.{refl}
use Rattle.evidence_making.proofs.RootStamps.{found_for, only_for, malformed_for, differs_for, no_order_for}
use Rattle.evidence_making.proofs.RootStamps.{sequence_for, never_stamped, never_another}
use Rattle.evidence_making.proofs.stamping.stamp_of_root.Goals as goal

pub returns-in-Some-clause-found : goal.returns-in-Some-clause-found
returns-in-Some-clause-found c = found_for c.args.token.now c.args.root.now c.in-Some.stated c.in-Some.ensures
    c.moment_for.result c.moment_for.ensures

pub returns-in-Some-clause-only : goal.returns-in-Some-clause-only
returns-in-Some-clause-only c = only_for c.args.token.now c.args.root.now c.in-Some.stated c.in-Some.ensures
    c.moment_for.result c.moment_for.ensures

pub returns-in-Some-clause-malformed : goal.returns-in-Some-clause-malformed
returns-in-Some-clause-malformed c = malformed_for c.args.token.now c.args.root.now c.in-Some.stated c.in-Some.ensures
    c.moment_for.result c.moment_for.ensures

pub returns-in-Some-clause-differs : goal.returns-in-Some-clause-differs
returns-in-Some-clause-differs c = differs_for c.args.token.now c.args.root.now c.in-Some.stated c.in-Some.ensures
    c.moment_for.result c.moment_for.ensures

pub returns-in-Some-clause-no_order : goal.returns-in-Some-clause-no_order
returns-in-Some-clause-no_order c = no_order_for c.args.token.now c.args.root.now c.in-Some.stated c.in-Some.ensures
    c.moment_for.result c.moment_for.ensures

pub returns-in-Some-clause-sequence : goal.returns-in-Some-clause-sequence
returns-in-Some-clause-sequence c = sequence_for c.args.token.now c.args.root.now c.in-Some.stated c.in-Some.ensures
    c.moment_for.result c.moment_for.ensures

pub returns-in-None-clause-only : goal.returns-in-None-clause-only
returns-in-None-clause-only c = λ m h. absurd (never_stamped c.args.token.now c.args.root.now m c.in-None.ensures h)

pub returns-in-None-clause-malformed : goal.returns-in-None-clause-malformed
returns-in-None-clause-malformed c = (λ e. c.in-None.ensures, λ none. refl)

pub returns-in-None-clause-differs : goal.returns-in-None-clause-differs
returns-in-None-clause-differs c = (
  λ e. absurd (let z = e in cc),
  λ h. absurd (never_another c.args.token.now c.args.root.now c.in-None.ensures h),
)
