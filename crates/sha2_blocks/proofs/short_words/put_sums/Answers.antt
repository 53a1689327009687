use Rattle.std.proofs.Common.{ℕ, List, length, slice_index, refl, ap, ◌∙◌}
use Rattle.sha2.specs.Sha256.{add32, round_constants}
use Rattle.sha2_blocks.proofs.ShortSchedules.{four_at}
use Rattle.sha2_blocks.proofs.Sums.{sums_more}
use Rattle.sha2_blocks.proofs.short_words.put_sums.Goals as goal

pub returns : goal.returns
returns c = λ ws four.
    sums_more add32 round_constants c.args.sums.now _ c.load_four.result c.args.words ws c.args.t 4 64 c.requires refl
    c.told-sums
    c.load_four.ensures c.store_four.ensures (ap length four)
    (λ j small. ap (λ (x : List ℕ). slice_index x j) four ∙ four_at ws c.args.t j small)
