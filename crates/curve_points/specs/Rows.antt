-- Worked rows: on the curve y^2 = x^3 - 3 x + 15 modulo 103, which has 113 points, a prime. The outcomes are from a
-- program in Python that tries all pairs, and inverts by `pow`.
use Rattle.std.specs.Prelude.{◌≡◌, ℕ, zero, suc, ◌+◌, ◌-◌, ◌*◌, ◌%◌, ◌^◌, Bool, true, false, ◌&&◌, nat_eq, [], ◌∷◌}
use Rattle.curve_points.specs.Residues.{inverse, IsWitness}
use Rattle.curve_points.specs.Words.{number}
use Rattle.curve_points.specs.Points.{Point, infinity, affine, is_on_curve, double, sum, multiple}

-- whether each number from 1 to m has 1 as its power by p - 1
abbrev pub are_powers_one : (p m : ℕ) → Bool
are_powers_one p zero = true
are_powers_one p (suc m) = nat_eq ((suc m ^ (p - 1)) % p) 1 && are_powers_one p m

pub record NumberRows : Type 0 where
  -- 2 * 52 is 104; of 0 there is no inverse, nor of 3 modulo 15
  pub inverse_of_two : inverse 103 2 ≡ 52
  pub inverse_of_none : inverse 103 0 ≡ 0
  pub inverse_of_factor : inverse 15 3 ≡ 0
  -- 15 is no prime, as 2 shows, nor 561, as 3 shows, though 2 doesn't
  pub witness : IsWitness 15 2
  pub carmichael : IsWitness 561 3
  pub no_witness : IsWitness 561 2 → ⊥
  -- 103 is a prime, so there is no witness
  pub prime : are_powers_one 103 102 ≡ true
  -- the least word is first
  pub words : number (5 ∷ 3 ∷ 1 ∷ []) ≡ 5 + 3 * 2 ^ 64 + 2 ^ 128

abbrev pub base : Point
base = affine 0 18

pub record PointRows : Type 0 where
  pub on_curve : is_on_curve 103 15 0 18 ≡ true
  pub off_curve : is_on_curve 103 15 0 17 ≡ false
  -- coordinates that are not below 103, of the same remainders
  pub first_not_reduced : is_on_curve 103 15 103 18 ≡ false
  pub second_not_reduced : is_on_curve 103 15 0 121 ≡ false
  -- infinity is the sum's zero
  pub first_infinite : sum 103 infinity base ≡ base
  pub second_infinite : sum 103 base infinity ≡ base
  -- opposite points, the double of a point, and of one that is its own opposite, chords
  pub opposite : sum 103 base (affine 0 85) ≡ infinity
  pub twice : sum 103 base base ≡ affine 98 76
  pub own_opposite : double 103 3 0 ≡ infinity
  pub two_and_three : sum 103 (affine 98 76) (affine 86 32) ≡ affine 24 58
  pub five_and_seven : sum 103 (affine 24 58) (affine 97 69) ≡ affine 50 82
  -- multiples of the base point by 0, 1, 2, 5 and 12
  pub none : multiple 103 base 7 0 ≡ infinity
  pub once : multiple 103 base 7 1 ≡ base
  pub by_two : multiple 103 base 7 2 ≡ affine 98 76
  pub by_five : multiple 103 base 7 5 ≡ affine 24 58
  pub by_twelve : multiple 103 base 7 12 ≡ affine 50 82
  -- by the order less 1, the order, and one more
  pub last : multiple 103 base 7 112 ≡ affine 0 85
  pub order : multiple 103 base 7 113 ≡ infinity
  pub once_more : multiple 103 base 7 114 ≡ base
  -- bits of 0 above change nothing
  pub in_more_bits : multiple 103 base 64 57 ≡ affine 17 97
