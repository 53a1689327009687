use Rattle.std.proofs.Common.{◌*◌, refl, sym, ap, ◌∙◌, arith}
use Rattle.sha2.specs.Sha512.{hash_after}
use Rattle.sha2_blocks.proofs.Pieces.{block_taken}
use Rattle.sha2_blocks.proofs.Words.{long, nothing_after}
use Rattle.sha2_blocks.proofs.long_singles.take_blocks_of_one.Goals as goal

pub each-init : goal.each-init
each-init c = sym (nothing_after long c.args.hash.now c.args.octets.now)

pub each-preserved : goal.each-preserved
each-preserved c = block_taken long c.args.hash.now c.args.octets.now _ _ _ c.each.i (128 * c.each.i)
    c.each.invariant c.take_block.ensures refl refl

pub returns : goal.returns
returns c = c.each.invariant ∙ ap (hash_after c.args.hash.now c.args.octets.now) (omega (arith, c.each.auto.i-end))
