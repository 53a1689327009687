-- Numbers of octets, an octet at a time.
use Rattle.std.proofs.Common.{◌≡◌, ℕ, ◌+◌, ◌*◌, ◌^◌, ◌<◌, ◌≤◌, ◌⊎◌, inl, inr, List, take, drop, length, get_or}
use Rattle.std.proofs.Common.{min, refl, sym, ap, ◌∙◌, arith}
use Rattle.std.proofs.Math.Nat.{pow-le-pow_right}
use Rattle.std.proofs.lemmas.Nat.{pow-add}
use Rattle.std.proofs.lemmas.Bool.{cases_lt}
use Rattle.std.proofs.lemmas.List.{take-append-drop, take_min}
use Rattle.std.specs.Int.Digits.{number_from_digits_after}
use Rattle.std.proofs.lemmas.Int.Digits.{number_more, number_after_append, number_after_ge}
use Rattle.ecdsa_octets.specs.Octets.{number_of}

-- one octet more
pub next_number : (v w i : ℕ) (xs : List ℕ) → i < length xs → v ≡ number_of (take i xs)
    → w ≡ v * 256 + get_or xs i 0 → w ≡ number_of (take (i + 1) xs)
next_number v w i xs h e k =
    k ∙ ap (λ n. n * 256 + get_or xs i 0) e ∙ sym (number_more 256 xs i h)

next_power : (i : ℕ) → 256 ^ (i + 1) ≡ 256 ^ i * 256
next_power i = pow-add 256 i 1

pub still_small : (v w i b : ℕ) → v < 256 ^ i → b < 256 → w ≡ v * 256 + b → w < 256 ^ (i + 1)
still_small v w i b h k e = rw (next_power i) (omega arith)

grown : (i k : ℕ) → i ≤ k → 256 ^ i ≤ 256 ^ k
grown i k h = let base : 0 < 256 = omega arith in pow-le-pow_right base h

-- so large a number has more octets than its words hold
pub too_long : (v b i k n : ℕ) → 256 ^ k ≤ v * 256 + b → v < 256 ^ i → b < 256 → i < n → k < n
too_long v b i k n h small few l = chosen (cases_lt k n) where
  chosen : (k < n) ⊎ (n ≤ k) → k < n
  chosen (inl m) = m
  chosen (inr m) =
      let most : 256 ^ (i + 1) ≤ 256 ^ k = grown (i + 1) k (omega arith) in
      let less : v * 256 + b < 256 ^ (i + 1) = still_small v (v * 256 + b) i b small few refl in
      absurd (omega (arith, most, less, h))

-- a number with more octets behind is no smaller
pub grows : (i m v : ℕ) (xs : List ℕ) → m ≤ v → v ≡ number_of (take i xs) → m ≤ number_of xs
grows i m v xs h e =
    let more : number_of (take i xs) ≤ number_from_digits_after 256 (number_of (take i xs)) (drop i xs) =
    number_after_ge 256 (number_of (take i xs)) (drop i xs) (omega arith) in
    let whole : number_of xs ≡ number_from_digits_after 256 (number_of (take i xs)) (drop i xs) =
    ap number_of (sym (take-append-drop i xs)) ∙ number_after_append 256 0 (take i xs) (drop i xs) in
    omega (arith, more, whole, h, e)

-- the octets in front that the words hold
pub leading_is : (n k : ℕ) (xs : List ℕ) → n ≡ min (length xs) k → take n xs ≡ take k xs
leading_is n k xs e = ap (λ i. take i xs) (e ∙ turned (length xs) k) ∙ take_min k xs where
  turned : (a b : ℕ) → min a b ≡ min b a
  turned a b = omega arith

-- so many words are not too many
pub array_fits : (k : ℕ) → k < 2 ^ 16 → k * 8 < 2 ^ 63
array_fits k h = omega arith

pub count_fits : (k : ℕ) → k < 2 ^ 16 → 8 * k < 2 ^ 64
count_fits k h = omega arith
