use Rattle.std.proofs.Common.{ℕ, ◌+◌, slice_index, ap, ◌∙◌, arith}
use Rattle.sha2.specs.Sha512.{rounds, schedule}
use Rattle.sha2_blocks.proofs.LongSchedules.{round_by}
use Rattle.sha2_blocks.proofs.long_singles.two_further.Goals as goal

pub returns : goal.returns
returns c = λ h b came.
    let ws = schedule b 64 in
    let t : ℕ = c.args.t in
    let sums = c.sums_of.ensures ws came.words.first in
    let v1 = round_by h ws c.args.stage.variables _ t _
    (λ i. slice_index (sums i) 0) came.variables c.one_round-between.ensures in
    let v2 = round_by h ws _ _ (t + 1) _ (λ i. slice_index (sums i) 1) v1 c.one_round-variables.ensures in
    record {
      words = c.two_later-words.ensures b t c.requires came.words;
      variables = v2 ∙ ap (rounds h ws) (omega arith);
    }
