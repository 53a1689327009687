use Rattle.evidence_making.proofs.StandsOn.{last_filled, ends_are}
use Rattle.evidence_making.proofs.leaves.ends_of.Goals as goal

pub first_in-first-requires : goal.first_in-first-requires
first_in-first-requires c = last_filled c.args.chains.now c.last_chain-chain.result c.bytes-octets.ensures.each
    c.requires c.last_chain-chain.ensures

pub last_in-last-requires : goal.last_in-last-requires
last_in-last-requires c = last_filled c.args.chains.now c.last_chain-chain.result c.bytes-octets.ensures.each
    c.requires c.last_chain-chain.ensures

pub returns : goal.returns
returns c = ends_are c.args.chains.now c.last_chain-chain.result c.first_in-first.result c.last_in-last.result
    (last_filled c.args.chains.now c.last_chain-chain.result c.bytes-octets.ensures.each c.requires
    c.last_chain-chain.ensures) c.requires c.last_chain-chain.ensures c.first_in-first.ensures c.last_in-last.ensures
