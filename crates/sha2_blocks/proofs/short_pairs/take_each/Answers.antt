use Rattle.std.proofs.Common.{◌*◌, refl, ap, ◌∙◌, arith}
use Rattle.sha2.specs.Sha256.{hash_after}
use Rattle.sha2_blocks.proofs.Pieces.{block_taken}
use Rattle.sha2_blocks.proofs.Words.{short}
use Rattle.sha2_blocks.proofs.short_pairs.take_each.Goals as goal

pub each-init : goal.each-init
unfolding hash_after
each-init c = record { first = refl; second = refl }

pub each-preserved : goal.each-preserved
each-preserved c =
    let d = c.args.octets.now in
    let sums = c.put_schedule.ensures in
    let i = c.each.invariant in
    record {
      first = block_taken short c.args.first.now d _ _ _ c.each.i (64 * c.each.i) i.first
          (c.take_sums_of_two.ensures.first _ sums) refl refl;
      second = block_taken short c.args.second.now d _ _ _ c.each.i (64 * c.each.i) i.second
          (c.take_sums_of_two.ensures.second _ sums) refl refl;
    }

pub returns-clause-first : goal.returns-clause-first
returns-clause-first c =
    c.each.invariant.first ∙ ap (hash_after c.args.first.now c.args.octets.now) (omega (arith, c.each.auto.i-end))

pub returns-clause-second : goal.returns-clause-second
returns-clause-second c =
    c.each.invariant.second ∙ ap (hash_after c.args.second.now c.args.octets.now) (omega (arith, c.each.auto.i-end))
