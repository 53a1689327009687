-- Numbers by their digits in decimal places.
use Rattle.std.proofs.Common.{◌≡◌, ℕ, zero, suc, ◌+◌, ◌-◌, ◌*◌, ◌/◌, ◌%◌, ◌^◌, ◌<◌, ◌≤◌, eqb, leb, Bool, true, List, []}
use Rattle.std.proofs.Common.{◌∷◌, length, get_or, take, drop, refl}
use Rattle.std.proofs.Common.{sym, ap, ◌∙◌, arith}
use Rattle.std.proofs.Math.Nat.{pow-succ', one-le-pow, mul-le-mul_right}
use Rattle.std.proofs.lemmas.Bool.{and_parts, and_from, eqb-true, eq-eqb, le-leb}
use Rattle.std.proofs.lemmas.List.{drop_more}
use Rattle.std.proofs.lemmas.Nat.{div_below, mod_below, div-add-mod'}
use Rattle.der_core.specs.Lists.{every}
use Rattle.der_core.specs.Times.{is_digit}
use Rattle.der_time.specs.Moments.{in_places}
use Rattle.der_time.specs.Spelling.{places}
use Rattle.der_time.proofs.Texts.{digit_from}

pub power_pos : (k : ℕ) → 1 ≤ 10 ^ k
power_pos k = one-le-pow k 10 (omega arith)

pub in_no_places : (k : ℕ) → in_places k [] ≡ 0
unfolding in_places
in_no_places zero = refl
in_no_places (suc k) = refl

-- the value of k digits is less than one unit of the place before them
pub in_places_below : (k : ℕ) (ds : List ℕ) → every is_digit ds ≡ true → in_places k ds < 10 ^ k
unfolding in_places
in_places_below zero ds h = omega arith
in_places_below (suc k) [] h = omega (arith, power_pos (suc k))
in_places_below (suc k) (d ∷ ds) h =
    let p = and_parts (is_digit d) (every is_digit ds) h in
    let d' = digit_from d p.0 in
    let small : d - 48 ≤ 9 = omega (arith, d'.high) in
    omega (arith, in_places_below k ds p.1, pow-succ' 10 k, mul-le-mul_right (10 ^ k) small)

-- the digit at a place
pub place_more : (k p : ℕ) (ds : List ℕ)
    → in_places (suc k) (drop p ds) ≡ (get_or ds p 48 - 48) * 10 ^ k + in_places k (drop (suc p) ds)
unfolding in_places
place_more k zero [] = omega (arith, in_no_places k)
place_more k (suc p) [] = omega (arith, in_no_places k)
place_more k zero (d ∷ ds) = refl
place_more k (suc p) (d ∷ ds) = place_more k p ds

-- a step of reading from the first place on
pub place_step : (n p d : ℕ) (ds : List ℕ) → p < 9 → d ≡ get_or ds p 48 - 48
    → n * 10 ^ (9 - p) + in_places (9 - p) (drop p ds)
    ≡ (10 * n + d) * 10 ^ (9 - (p + 1)) + in_places (9 - (p + 1)) (drop (p + 1) ds)
place_step n p d ds l e =
    let k : ℕ = 9 - (p + 1) in
    let ke : 9 - p ≡ suc k = omega arith in
    let pe : suc p ≡ p + 1 = omega arith in
    let a : n * 10 ^ (9 - p) + in_places (9 - p) (drop p ds) ≡ n * 10 ^ suc k + in_places (suc k) (drop p ds) =
    ap (λ (j : ℕ). n * 10 ^ j + in_places j (drop p ds)) ke in
    let b : in_places (suc k) (drop p ds) ≡ d * 10 ^ k + in_places k (drop (suc p) ds) = place_more k p ds
    ∙ ap (λ (x : ℕ). x * 10 ^ k + in_places k (drop (suc p) ds)) (sym e) in
    let c : in_places k (drop (suc p) ds) ≡ in_places k (drop (p + 1) ds) =
    ap (λ (q : ℕ). in_places k (drop q ds)) pe in
    omega (arith, a, b, c, ap (λ (x : ℕ). n * x) (pow-succ' 10 k))

pub place_last : (n p : ℕ) (ds : List ℕ) → p ≡ 9 → n * 10 ^ (9 - p) + in_places (9 - p) (drop p ds) ≡ n
unfolding in_places
place_last n p ds e =
    let z : 9 - p ≡ 0 = omega arith in
    ap (λ (j : ℕ). n * 10 ^ j + in_places j (drop p ds)) z ∙ omega arith

-- nine places are small
pub place_small : (n p d : ℕ) → d ≤ 207 → n + 23 ≤ 23 * 10 ^ p → (10 * n + d) + 23 ≤ 23 * 10 ^ (p + 1)
place_small n p d l h =
    let pe : suc p ≡ p + 1 = omega arith in
    omega (arith, pow-succ' 10 p, ap (λ (j : ℕ). 10 ^ j) pe)

-- ---- all places of a number

pub digit_is : (n : ℕ) → n < 10 → is_digit (48 + n) ≡ true
digit_is n l =
    and_from (leb 48 (48 + n)) (leb (48 + n) 57) (le-leb 48 (48 + n) (omega arith)) (le-leb (48 + n) 57 (omega arith))

pub places_length : (k n : ℕ) → length (places k n) ≡ k
unfolding places
places_length zero n = refl
places_length (suc k) n = ap suc (places_length k (n % 10 ^ k))

-- the first of the places
pub first_place : (k n : ℕ) → n < 10 ^ suc k → n / 10 ^ k < 10
first_place k n l =
    let p = power_pos k in
    let b : n < 10 * 10 ^ k = omega (arith, l, pow-succ' 10 k) in
    div_below n (10 ^ k) 10 (omega arith) b

pub places_digits : (k n : ℕ) → n < 10 ^ k → every is_digit (places k n) ≡ true
unfolding places
places_digits zero n l = refl
places_digits (suc k) n l =
    let p = power_pos k in
    and_from (is_digit (48 + n / 10 ^ k)) (every is_digit (places k (n % 10 ^ k)))
    (digit_is (n / 10 ^ k) (first_place k n l))
    (places_digits k (n % 10 ^ k) (mod_below n (10 ^ k) (omega arith)))

pub in_places_of : (k n : ℕ) → n < 10 ^ k → in_places k (places k n) ≡ n
unfolding places in_places
in_places_of zero n l = omega arith
in_places_of (suc k) n l =
    let p = power_pos k in
    let q : ℕ = n / 10 ^ k in
    let e : (48 + q) - 48 ≡ q = omega arith in
    ap (λ (x : ℕ). x * 10 ^ k + in_places k (places k (n % 10 ^ k))) e
    ∙ ap (λ (x : ℕ). q * 10 ^ k + x) (in_places_of k (n % 10 ^ k) (mod_below n (10 ^ k) (omega arith)))
    ∙ div-add-mod' n (10 ^ k)

-- ---- zeros at the end

abbrev pub is_zero : ℕ → Bool
is_zero x = eqb x 48

pub in_places_zeros : (k : ℕ) (ds : List ℕ) → every is_zero ds ≡ true → in_places k ds ≡ 0
unfolding in_places
in_places_zeros zero ds h = refl
in_places_zeros (suc k) [] h = refl
in_places_zeros (suc k) (d ∷ ds) h =
    let p = and_parts (is_zero d) (every is_zero ds) h in
    let e : d - 48 ≡ 0 = omega (arith, eqb-true d 48 p.0) in
    ap (λ (x : ℕ). x * 10 ^ k + in_places k ds) e ∙ omega (arith, in_places_zeros k ds p.1)

pub in_places_kept : (k j : ℕ) (ds : List ℕ) → every is_zero (drop j ds) ≡ true
    → in_places k (take j ds) ≡ in_places k ds
unfolding in_places
in_places_kept zero j ds h = refl
in_places_kept (suc k) zero ds h = sym (in_places_zeros (suc k) ds h)
in_places_kept (suc k) (suc j) [] h = refl
in_places_kept (suc k) (suc j) (d ∷ ds) h = ap (λ (x : ℕ). (d - 48) * 10 ^ k + x) (in_places_kept k j ds h)

pub every_take : (test : ℕ → Bool) (j : ℕ) (ds : List ℕ) → every test ds ≡ true → every test (take j ds) ≡ true
every_take test zero ds h = refl
every_take test (suc j) [] h = refl
every_take test (suc j) (d ∷ ds) h =
    let p = and_parts (test d) (every test ds) h in
    and_from (test d) (every test (take j ds)) p.0 (every_take test j ds p.1)

-- one more zero at the end
pub zeros_more : (j : ℕ) (ds : List ℕ) → 0 < j → j ≤ length ds
    → get_or ds (j - 1) 0 ≡ 48 → every is_zero (drop j ds) ≡ true → every is_zero (drop (j - 1) ds) ≡ true
zeros_more j ds s l z h =
    let is : drop (j - 1) ds ≡ get_or ds (j - 1) 0 ∷ drop (j - 1 + 1) ds = drop_more ds (j - 1) 0 (omega arith) in
    let at : j - 1 + 1 ≡ j = omega arith in
    ap (every is_zero) is
    ∙ and_from (is_zero (get_or ds (j - 1) 0)) (every is_zero (drop (j - 1 + 1) ds)) (eq-eqb _ _ z)
    (ap (λ (n : ℕ). every is_zero (drop n ds)) at ∙ h)
