use Rattle.evidence_making.proofs.Already.{next_two, no_two_none, no_two_one}
use Rattle.evidence_making.proofs.done.two_in.Goals as goal

pub returns-in_err-before : goal.returns-in_err-before
returns-in_err-before c = rw c.from_residual.ensures (no_two_none c.args.chain.now c.in_err-before.ensures)

pub returns-in_err-last : goal.returns-in_err-last
returns-in_err-last c = rw c.from_residual-in_err-last.ensures
    (no_two_one c.args.chain.now c.in_ok-before.before c.in_ok-before.left c.in_ok-before.ensures
    c.in_err-last.ensures)

pub loop-stamp-preserved : goal.loop-stamp-preserved
loop-stamp-preserved c =
    next_two c.args.chain.now c.loop-stamp.before c.loop-stamp.last c.in-Some.stamp c.loop-stamp.left c.in-Some.others
    c.loop-stamp.invariant c.in-Some.ensures
