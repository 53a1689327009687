use Rattle.std.proofs.Common.{◌*◌, refl, ap, ◌∙◌, arith}
use Rattle.sha2_blocks.specs.LongHashers.{long_after}
use Rattle.sha2_blocks.proofs.SeveralBlocks.{after_next, none_after}
use Rattle.sha2_blocks.proofs.long_hashers.take_blocks_of_several.Goals as goal

pub each-init : goal.each-init
each-init c = none_after _ _

pub each-preserved : goal.each-preserved
each-preserved c =
    let sums = c.put_schedule.ensures in
    after_next c.args.hashes.now _ _ c.args.octets.now _ c.each.i (128 * c.each.i) refl refl c.each.invariant
    (c.take_if_any.ensures.first _ sums)
    (c.take_if_any.ensures.second _ sums) (c.take_if_any-in-each.ensures.first _ sums)
    (c.take_if_any-in-each.ensures.second _ sums)

pub returns : goal.returns
returns c = c.each.invariant ∙ ap (long_after c.args.hashes.now c.args.octets.now) (omega (arith, c.each.auto.i-end))
