use Rattle.evidence_making.proofs.Already.{next_two, no_two_none, no_two_one}
use Rattle.evidence_making.proofs.done.two_chains.Goals as goal

pub returns-in_err-before : goal.returns-in_err-before
returns-in_err-before c = rw c.from_residual.ensures (no_two_none c.args.chains.now c.in_err-before.ensures)

pub returns-in_err-last : goal.returns-in_err-last
returns-in_err-last c = rw c.from_residual-in_err-last.ensures
    (no_two_one c.args.chains.now c.in_ok-before.before c.in_ok-before.left c.in_ok-before.ensures
    c.in_err-last.ensures)

pub loop-chain-preserved : goal.loop-chain-preserved
loop-chain-preserved c =
    next_two c.args.chains.now c.loop-chain.before c.loop-chain.last c.in-Some.chain c.loop-chain.left c.in-Some.others
    c.loop-chain.invariant c.in-Some.ensures
