use Rattle.std.proofs.Common.{◌+◌}
use Rattle.std.specs.String.{string_bytes}
use Rattle.evidence_types.specs.StampValue.{GoodStamp}
use Rattle.lines_shown.specs.EvidenceLines.{IsStampLine}
use Rattle.lines_shown.proofs.Added.{one_more, all_done, counted_on, others_are}
use Rattle.lines_shown.proofs.show_evidence.push_chain.Goals as goal

pub loop-stamp-preserved : goal.loop-stamp-preserved
loop-stamp-preserved c = record {
  counted = counted_on _ _ c.in-Some.stamp c.loop-stamp.left c.in-Some.others c.in-Some.ensures
      c.loop-stamp.invariant.counted;
  good = others_are GoodStamp c.in-Some.stamp c.loop-stamp.left c.in-Some.others c.in-Some.ensures
      c.loop-stamp.invariant.good;
  lines = one_more (IsStampLine c.args.chain) c.args.stamps.now _ _ _ _ c.in-Some.stamp c.loop-stamp.left
      c.in-Some.others c.in-Some.ensures c.loop-stamp.invariant.lines c.in_ok-push_stamp.ensures;
}

pub returns : goal.returns
returns c = all_done (IsStampLine c.args.chain) c.args.stamps.now (string_bytes c.args.text.now)
    (string_bytes c.loop-stamp.text)
    (c.loop-stamp.number + 1) c.loop-stamp.left c.in_default.ensures c.loop-stamp.invariant.lines
