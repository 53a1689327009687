use Rattle.std.proofs.Common.{◌+◌}
use Rattle.std.specs.String.{string_bytes}
use Rattle.evidence_types.specs.EvidenceValue.{GoodChain}
use Rattle.lines_shown.specs.EvidenceLines.{AreChainLines}
use Rattle.lines_shown.proofs.Added.{one_more, all_done, counted_on, others_are}
use Rattle.lines_shown.proofs.show_evidence.push_chains.Goals as goal

pub loop-stamps-preserved : goal.loop-stamps-preserved
loop-stamps-preserved c = record {
  counted = counted_on _ _ c.in-Some.stamps c.loop-stamps.left c.in-Some.others c.in-Some.ensures
      c.loop-stamps.invariant.counted;
  good = others_are GoodChain c.in-Some.stamps c.loop-stamps.left c.in-Some.others c.in-Some.ensures
      c.loop-stamps.invariant.good;
  lines = one_more AreChainLines c.args.chains.now _ _ _ _ c.in-Some.stamps c.loop-stamps.left
      c.in-Some.others c.in-Some.ensures c.loop-stamps.invariant.lines c.in_ok-push_chain.ensures;
}

pub returns : goal.returns
returns c = all_done AreChainLines c.args.chains.now (string_bytes c.args.text.now) (string_bytes c.loop-stamps.text)
    (c.loop-stamps.number + 1) c.loop-stamps.left c.in_default.ensures c.loop-stamps.invariant.lines
