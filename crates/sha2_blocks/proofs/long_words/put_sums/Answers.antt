use Rattle.std.proofs.Common.{ℕ, List, length, slice_index, refl, ap, ◌∙◌}
use Rattle.sha2.specs.Sha512.{add64, round_constants}
use Rattle.sha2_blocks.proofs.LongSchedules.{two_at}
use Rattle.sha2_blocks.proofs.Sums.{sums_more}
use Rattle.sha2_blocks.proofs.long_words.put_sums.Goals as goal

pub returns : goal.returns
returns c = λ ws two.
    sums_more add64 round_constants c.args.sums.now _ c.load_two.result c.args.words ws c.args.t 2 80 c.requires refl
    c.told-sums
    c.load_two.ensures c.store_two.ensures (ap length two)
    (λ j small. ap (λ (x : List ℕ). slice_index x j) two ∙ two_at ws c.args.t j small)
