-- The value of words one after the other, and of the first words.
use Rattle.std.proofs.Common.{◌≡◌, ℕ, ◌+◌, ◌*◌, ◌^◌, ◌<◌, ◌≤◌, List, [], ◌∷◌, ◌++◌, length, get_or, set, take, refl, ap}
use Rattle.std.proofs.Common.{sym, ◌∙◌, add-one, subst, zero, suc, replicate, lit<, arith}
use Rattle.std.proofs.Math.Nat.{pow-suc, one-le-pow, le_of_eq, mul-le-mul_left}
use Rattle.std.proofs.lemmas.List.{take_more, take_more_set, take_all, length-take-le, length-set, take-replicate}
use Rattle.std.proofs.lemmas.List.{length-replicate}
use Rattle.big_numbers.specs.Numbers.{value}

append_step : (w p x v y : ℕ) → x + w * (v + p * y) ≡ (x + w * v) + (p * w) * y
append_step w p x v y = omega arith

-- words after others are of higher places
pub value-append : (xs ys : List ℕ) → value (xs ++ ys) ≡ value xs + (2 ^ 64) ^ length xs * value ys
value-append [] ys = omega arith
value-append (x ∷ xs) ys =
    ap (λ v. x + 2 ^ 64 * v) (value-append xs ys)
    ∙ append_step (2 ^ 64) ((2 ^ 64) ^ length xs) x (value xs) (value ys)
    ∙ ap (λ p. (x + 2 ^ 64 * value xs) + p * value ys) (sym (pow-suc (2 ^ 64) (length xs)))

pub value_push : (xs : List ℕ) (y i : ℕ) → length xs ≡ i → value (xs ++ y ∷ []) ≡ value xs + (2 ^ 64) ^ i * y
value_push xs y i e = value-append xs (y ∷ []) ∙ ap (λ k. value xs + (2 ^ 64) ^ k * (y + 2 ^ 64 * 0)) e
    ∙ ap (λ z. value xs + (2 ^ 64) ^ i * z) (omega arith)

-- one word more of the first ones
pub value_more : (xs : List ℕ) (i : ℕ) → i < length xs
    → value (take (i + 1) xs) ≡ value (take i xs) + (2 ^ 64) ^ i * get_or xs i 0
value_more xs i h =
    ap value (take_more xs i 0 h) ∙ value_push (take i xs) (get_or xs i 0) i (length-take-le i xs (omega arith))

-- and after it was written
pub value_more_set : (xs : List ℕ) (i y : ℕ) → i < length xs
    → value (take (i + 1) (set xs i y)) ≡ value (take i xs) + (2 ^ 64) ^ i * y
value_more_set xs i y h =
    ap value (take_more_set xs i y h) ∙ value_push (take i xs) y i (length-take-le i xs (omega arith))

pub power_more : (w j : ℕ) → w ^ (j + 1) ≡ w ^ j * w
power_more w j = rw add-one (pow-suc w j)

pub value_first : (xs : List ℕ) → 0 < length xs → value (take 1 xs) ≡ get_or xs 0 0
value_first (x ∷ xs) h = omega arith
value_first [] h = absurd (omega arith)

-- the last word was written
pub value_last_set : (xs : List ℕ) (i n y : ℕ) → length xs ≡ n → i + 1 ≡ n
    → value (set xs i y) ≡ value (take i xs) + (2 ^ 64) ^ i * y
value_last_set xs i n y e f =
    ap value (sym (take_all (i + 1) (set xs i y) (omega (arith, length-set xs i y))))
    ∙ value_more_set xs i y (omega arith)

pub value_whole : (xs : List ℕ) (n : ℕ) → length xs ≤ n → value (take n xs) ≡ value xs
value_whole xs n h = ap value (take_all n xs h)

below_step : (w p q x v : ℕ) → x < w → v < p → q ≡ p * w → x + w * v < q
below_step w p q x v f g e =
    let h : w * (v + 1) ≤ w * p = mul-le-mul_left w (let k : v + 1 ≤ p = omega arith in k) in omega arith

-- that of so many first words is below the power of the base
pub value_take_below : (i : ℕ) (xs : List ℕ) → ((k : ℕ) → get_or xs k 0 < 2 ^ 64) → value (take i xs) < (2 ^ 64) ^ i
value_take_below zero xs fits = lit< tt
value_take_below (suc i) [] fits = one-le-pow (suc i) (2 ^ 64) (lit< tt)
value_take_below (suc i) (x ∷ xs) fits =
    let x_fits : x < 2 ^ 64 = fits 0 in
    let more : value (take i xs) < (2 ^ 64) ^ i = value_take_below i xs (λ k. fits (suc k)) in
    below_step (2 ^ 64) ((2 ^ 64) ^ i) ((2 ^ 64) ^ suc i) x (value (take i xs)) x_fits more (pow-suc (2 ^ 64) i)

pub value_below : (xs : List ℕ) (n : ℕ) → length xs ≡ n → ((k : ℕ) → get_or xs k 0 < 2 ^ 64) → value xs < (2 ^ 64) ^ n
value_below xs n e fits = subst (λ v. v < (2 ^ 64) ^ n) (value_whole xs n (le_of_eq e)) (value_take_below n xs fits)

pub value_zeros : (n : ℕ) → value (replicate n 0) ≡ 0
value_zeros zero = refl
value_zeros (suc n) = ap (λ v. 0 + 2 ^ 64 * v) (value_zeros n)

-- a 1 among zeros
pub value_of_one_at : (xs : List ℕ) (n i : ℕ) → xs ≡ replicate n 0 → i + 1 ≡ n → value (set xs i 1) ≡ (2 ^ 64) ^ i
value_of_one_at xs n i e f =
    value_last_set xs i n 1 (ap length e ∙ length-replicate n 0) f
    ∙ ap (λ z. value (take i z) + (2 ^ 64) ^ i * 1) e
    ∙ ap (λ z. value z + (2 ^ 64) ^ i * 1) (take-replicate i n 0 (omega arith))
    ∙ ap (λ z. z + (2 ^ 64) ^ i * 1) (value_zeros i)
    ∙ (let q : 0 + (2 ^ 64) ^ i * 1 ≡ (2 ^ 64) ^ i = omega arith in q)

pub value_of_one : (xs : List ℕ) (n : ℕ) → xs ≡ replicate n 0 → 0 < n → value (set xs 0 1) ≡ 1
value_of_one xs zero e h = absurd (omega arith)
value_of_one xs (suc n) e h = ap (λ z. value (set z 0 1)) e ∙ ap (λ v. 1 + 2 ^ 64 * v) (value_zeros n)

pub some_words : (xs : List ℕ) → 0 < value xs → 0 < length xs
some_words [] h = h
some_words (x ∷ xs) h = omega arith
