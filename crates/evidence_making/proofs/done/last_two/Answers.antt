use Rattle.evidence_making.proofs.Already.{are_last_two, ends_alone}
use Rattle.evidence_making.proofs.StandsOn.{last_filled}
use Rattle.evidence_making.proofs.done.last_two.Goals as goal

pub first_in-first-requires : goal.first_in-first-requires
first_in-first-requires c = last_filled c.args.chains.now c.last_chain-chain.result c.bytes-octets.ensures.each
    c.requires c.last_chain-chain.ensures

pub returns-in_err-before : goal.returns-in_err-before
returns-in_err-before c = rw c.from_residual.ensures (ends_alone c.args.chains.now c.last_chain-chain.result c.requires
    (last_filled c.args.chains.now c.last_chain-chain.result c.bytes-octets.ensures.each c.requires
    c.last_chain-chain.ensures) c.last_chain-chain.ensures c.in_err-before.ensures)

pub returns : goal.returns
returns c = are_last_two c.args.chains.now c.last_chain-chain.result c.first_in-first.result c.in_ok-before.before
    c.in_ok-before.last c.requires c.last_chain-chain.ensures c.first_in-first.ensures c.in_ok-before.ensures
