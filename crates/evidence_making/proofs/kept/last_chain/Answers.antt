use Rattle.std.proofs.Common.{ℕ, List, [], take, sym, subst}
use Rattle.evidence_making.proofs.Parts.{IsPast, none_past, one_more_past, all_past}
use Rattle.evidence_making.proofs.kept.last_chain.Goals as goal

pub returns : goal.returns
returns c = all_past c.args.chains.now c.loop-chain.left c.loop-chain.last.before.now c.loop-chain.last.stamps.now
    c.loop-chain.invariant c.in_default.ensures

pub loop-chain-init : goal.loop-chain-init
loop-chain-init c = none_past c.args.chains.now c.again-left.result [] [] (sym c.again-left.ensures)

pub loop-chain-preserved : goal.loop-chain-preserved
loop-chain-preserved c =
    let octets : List ℕ = c.bytes-in-Some.result.now in
    subst (λ (n : ℕ). IsPast c.args.chains.now c.in-Some.others (take n c.bytes-all.result.now) octets)
    (sym c.saturating_sub.ensures)
    (one_more_past c.args.chains.now c.loop-chain.left c.in-Some.others c.in-Some.chain c.loop-chain.last.before.now
    c.loop-chain.last.stamps.now c.bytes-all.result.now c.bytes.result.now octets c.loop-chain.invariant
    c.in-Some.ensures c.bytes-all.ensures.joined c.bytes.ensures.joined c.bytes-in-Some.ensures.joined)
