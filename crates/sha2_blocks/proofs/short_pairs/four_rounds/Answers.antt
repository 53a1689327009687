use Rattle.std.proofs.Common.{slice_index}
use Rattle.sha2_blocks.proofs.Both.{both_next}
use Rattle.sha2_blocks.proofs.Steps.{in_four}
use Rattle.sha2_blocks.proofs.Words.{short}
use Rattle.sha2_blocks.proofs.short_pairs.four_rounds.Goals as goal

pub returns : goal.returns
returns c = λ g h ws held both. in_four _ (both_next short g h ws) (slice_index c.args.sums.now) c.args.t held c.args.v
    _ _ _ _ c.one_round-v.ensures c.one_round-v-2.ensures c.one_round-v-3.ensures c.one_round.ensures both
