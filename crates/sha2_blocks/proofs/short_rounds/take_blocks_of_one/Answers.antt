use Rattle.std.proofs.Common.{◌*◌, refl, sym, ap, ◌∙◌, arith}
use Rattle.sha2.specs.Sha256.{hash_after}
use Rattle.sha2_blocks.proofs.Pieces.{block_taken}
use Rattle.sha2_blocks.proofs.Words.{short, nothing_after}
use Rattle.sha2_blocks.proofs.short_rounds.take_blocks_of_one.Goals as goal

pub each-init : goal.each-init
each-init c = sym (nothing_after short c.args.hash.now c.args.octets.now)

pub each-preserved : goal.each-preserved
each-preserved c = block_taken short c.args.hash.now c.args.octets.now _ _ _ c.each.i (64 * c.each.i)
    c.each.invariant c.take_block.ensures refl refl

pub returns : goal.returns
returns c = c.each.invariant ∙ ap (hash_after c.args.hash.now c.args.octets.now) (omega (arith, c.each.auto.i-end))
