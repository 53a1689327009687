use Rattle.evidence_making.proofs.StandsOn.{no_time, has_time_by}
use Rattle.evidence_making.proofs.leaves.moment_in.Goals as goal

pub returns-in_err-state : goal.returns-in_err-state
returns-in_err-state c = rw c.from_residual.ensures
    (no_time c.args.stamp.now c.stamp.result.now c.stamp.ensures c.in_err-state.ensures)

pub returns : goal.returns
returns c = has_time_by c.args.stamp.now c.stamp.result.now c.in_ok-state.state c.moment.result c.stamp.ensures
    c.in_ok-state.ensures c.moment.ensures
