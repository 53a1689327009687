use Rattle.std.proofs.Common.{slice_index}
use Rattle.sha2_blocks.proofs.ShortSchedules.{round_by}
use Rattle.sha2_blocks.proofs.Steps.{in_four}
use Rattle.sha2_blocks.proofs.short_rounds.four_rounds.Goals as goal

pub returns : goal.returns
returns c = λ h ws held before. in_four _ (round_by h ws) (slice_index c.args.sums.now) c.args.t held c.args.v _ _ _ _
    c.one_round-v.ensures c.one_round-v-2.ensures c.one_round-v-3.ensures c.one_round.ensures before
