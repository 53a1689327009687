use Rattle.std.proofs.Common.{inl, inr}
use Rattle.evidence_making.proofs.StandsOn.{end_without_time, end_without_alg, is_last_of}
use Rattle.evidence_making.proofs.leaves.last_stamp_of.Goals as goal

pub returns-in_err-moment : goal.returns-in_err-moment
returns-in_err-moment c = rw c.from_residual.ensures (inl (end_without_time c.args.chains.now
    c.ends_of-ends.result.first c.ends_of-ends.result.last c.ends_of-ends.ensures c.in_err-moment.ensures))

pub returns-in_err-alg : goal.returns-in_err-alg
returns-in_err-alg c = rw c.from_residual-in_err-alg.ensures (inr (end_without_alg c.args.chains.now
    c.ends_of-ends.result.first c.ends_of-ends.result.last c.ends_of-ends.ensures c.in_err-alg.ensures))

pub returns : goal.returns
returns c = is_last_of c.args.chains.now c.ends_of-ends.result.first c.ends_of-ends.result.last
    c.ends_of-ends.ensures c.in_ok-alg.alg c.covered_after-leaf.result c.in_ok-moment.moment c.in_ok-moment.ensures
    c.in_ok-alg.ensures c.covered_after-leaf.ensures.algorithm c.covered_after-leaf.ensures.octets
