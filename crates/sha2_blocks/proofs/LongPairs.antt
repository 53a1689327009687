-- The rounds of two hash values at once, lane by lane.
use Rattle.std.proofs.Common.{◌≡◌, ℕ, List, [], ◌∷◌, length, map, bit_xor, refl, arith}
use Rattle.std.specs.Simd.Lanes.{zip2}
use Rattle.sha2.specs.Sha512.{big_sigma0, big_sigma1}
use Rattle.sha2_blocks.proofs.LongSchedules.{turned_lanes}

-- ---- the functions of two lanes

pub sigma0_lanes : (x : List ℕ) → length x ≡ 2
    → zip2 bit_xor (zip2 bit_xor (turned_lanes x 28) (turned_lanes x 34)) (turned_lanes x 39) ≡ map big_sigma0 x
sigma0_lanes (a ∷ b ∷ []) h = refl
sigma0_lanes [] h = absurd (omega arith)
sigma0_lanes (a ∷ []) h = absurd (omega arith)
sigma0_lanes (a ∷ b ∷ c ∷ x) h = absurd (omega arith)

pub sigma1_lanes : (x : List ℕ) → length x ≡ 2
    → zip2 bit_xor (zip2 bit_xor (turned_lanes x 14) (turned_lanes x 18)) (turned_lanes x 41) ≡ map big_sigma1 x
sigma1_lanes (a ∷ b ∷ []) h = refl
sigma1_lanes [] h = absurd (omega arith)
sigma1_lanes (a ∷ []) h = absurd (omega arith)
sigma1_lanes (a ∷ b ∷ c ∷ x) h = absurd (omega arith)
