use Rattle.std.proofs.Common.{◌≡◌, ◌<◌, ◌∙◌, ap, length, arith}
use Rattle.std.proofs.lemmas.Grind.{common_steps}
use Rattle.digests.specs.Algorithms.{length_of}
use Rattle.library_records.proofs.Trees.{next_digest, cut_digest, no_digest}
use Rattle.library_records.proofs.tree.digests_in.Goals.{else-is_empty-via-then-is_empty+else-not-is_empty}
use Rattle.library_records.proofs.tree.digests_in.Goals.{else-is_empty-via-else-is_empty}
use Rattle.library_records.proofs.tree.digests_in.Goals as goal

pub loop-left-preserved : goal.loop-left-preserved
loop-left-preserved c =
    next_digest c.args.alg c.args.octets.now c.loop-left.left.now c.split_at.result.0.now c.split_at.result.1.now
    c.loop-left.digests.items c.push.new.self.items c.in-Some.digest c.length-size.result c.split_at.ensures.front
    c.split_at.ensures.back
    (ap length c.in-Some.ensures.octets ∙ (c.split_at.ensures.front_len ∙ c.length-size.ensures))
    c.in-Some.ensures.octets c.in-Some.ensures.algorithm c.in_ok-push.ensures.items c.loop-left.invariant

pub returns-else-is_empty : goal.returns-else-is_empty
returns-else-is_empty c = λ others are. elim c.else-is_empty.branch [
  | else-is_empty-via-then-is_empty+else-not-is_empty w ↦
      let none : length c.args.octets.now ≡ 0 = grind (arith, common_steps) in
      no_digest c.args.alg c.args.octets.now none others are
  | else-is_empty-via-else-is_empty w ↦
      let some : 0 < length c.loop-left.left.now = grind (arith, common_steps) in
      let few : length c.loop-left.left.now < length_of c.args.alg = grind (arith, common_steps) in
      cut_digest c.args.alg c.args.octets.now c.loop-left.left.now c.loop-left.digests.items c.loop-left.invariant some
      few others are
]
