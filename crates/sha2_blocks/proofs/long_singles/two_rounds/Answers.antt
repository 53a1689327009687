use Rattle.std.proofs.Common.{ℕ, ◌+◌, slice_index, ap, ◌∙◌, arith}
use Rattle.sha2.specs.Sha512.{rounds}
use Rattle.sha2_blocks.proofs.LongSchedules.{round_by}
use Rattle.sha2_blocks.proofs.long_singles.two_rounds.Goals as goal

pub returns : goal.returns
returns c = λ h ws two before.
    let t : ℕ = c.args.t in
    let sums = c.sums_of.ensures ws two in
    let v1 = round_by h ws c.args.v _ t _ (λ i. slice_index (sums i) 0) before c.one_round.ensures in
    let v2 = round_by h ws _ _ (t + 1) _ (λ i. slice_index (sums i) 1) v1 c.one_round-2.ensures in
    v2 ∙ ap (rounds h ws) (omega arith)
