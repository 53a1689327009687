-- The sums of round constants and words, as vectors of them are put into a table.
use Rattle.std.proofs.Common.{◌≡◌, ℕ, ◌+◌, ◌-◌, ◌<◌, ◌≤◌, List, length, slice_index, inl, inr, ap, ◌∙◌, arith}
use Rattle.std.proofs.lemmas.Bool.{cases_lt}
use Rattle.std.proofs.lemmas.Simd.{get_or-chunk, get_or-put_chunk_at, get_or-put_chunk_below, get_or-zip2, length-chunk}
use Rattle.std.proofs.lemmas.Simd.{length-zip2}
use Rattle.std.specs.Simd.Lanes.{chunk, put_chunk, zip2}
use Rattle.sha2_blocks.specs.Sums.{AreLongSums, AreShortSums, AreSums}

-- n more sums, from word t on, of a table of k
pub sums_more : (add : ℕ → ℕ → ℕ) (constants sums new loaded words ws : List ℕ) (t n k : ℕ) → t + n ≤ k
    → length constants ≡ k → length sums ≡ k
    → loaded ≡ chunk t n constants → new ≡ put_chunk t sums (zip2 add loaded words) → length words ≡ n
    → ((j : ℕ) → j < n → slice_index words j ≡ slice_index ws (t + j)) → AreSums add constants sums ws t
    → AreSums add constants new ws (t + n)
sums_more add constants sums new loaded words ws t n k fits lc ls el e lw words_are held p below =
    let count : length loaded ≡ n = ap length el ∙ length-chunk t n constants (omega arith) in
    let added : length (zip2 add loaded words) ≡ n = length-zip2 add loaded words (omega arith) ∙ count in
    rw e (elim (cases_lt p t) [
      | inl lt ↦ get_or-put_chunk_below t sums (zip2 add loaded words) p 0 lt ∙ held p lt
      | inr ge ↦
          let j : ℕ = p - t in
          let at : p ≡ t + j = omega arith in
          let small : j < n = omega arith in
          rw at (get_or-put_chunk_at t sums (zip2 add loaded words) j 0 (omega arith) (omega arith)
          ∙ get_or-zip2 add loaded words j 0 0 0 (omega arith) (omega arith)
          ∙ (λ i. add ((ap (λ (x : List ℕ). slice_index x j) el ∙ get_or-chunk t n constants j 0 small) i)
          (words_are j small i)))
    ])

pub fewer_short : (sums ws : List ℕ) (n k : ℕ) → k ≤ n → AreShortSums sums ws n → AreShortSums sums ws k
fewer_short sums ws n k le held t below = held t (omega arith)

pub fewer_long : (sums ws : List ℕ) (n k : ℕ) → k ≤ n → AreLongSums sums ws n → AreLongSums sums ws k
fewer_long sums ws n k le held t below = held t (omega arith)
