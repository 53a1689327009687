-- The arithmetic of the inverse.
use Rattle.std.proofs.Common.{◌≡◌, ℕ, ◌+◌, ◌-◌, ◌*◌, ◌/◌, ◌%◌, ◌^◌, ◌≤◌, ap, sym, ◌∙◌, subst, arith}
use Rattle.std.proofs.Math.Nat.{mod-mod_of_dvd, mod-mod, mod-add-mod, dvd-mul_left, mul-mod_left}
use Rattle.std.specs.Int.{◌∣◌}
use Rattle.std.proofs.lemmas.Nat.{pow-add, mul-mod_second, div-add-mod'}
use Rattle.big_numbers.proofs.Congruences.{same_add, same_times}

-- a square of a multiple is a multiple of the square
square_of : (y p : ℕ) → y % p ≡ 0 → (y * y) % (p * p) ≡ 0
square_of y p e =
    let q : y / p * p + y % p ≡ y = div-add-mod' y p in
    let f : y ≡ y / p * p = omega arith in
    ap (λ z. (z * z) % (p * p)) f
    ∙ ap (λ z. z % (p * p)) (let g : y / p * p * (y / p * p) ≡ (y / p * (y / p)) * (p * p) = omega arith in g)
    ∙ mul-mod_left (y / p * (y / p)) (p * p)

-- n (x (n x + 2)) + 1 = (n x + 1) ^ 2, of which the base may be left out at each step
pub twice_as_right : (w n x j k : ℕ) → w ≡ 2 ^ k → 2 * j ≤ k → (n * x + 1) % 2 ^ j ≡ 0
    → (n * ((x * ((n * x % w + 2) % w)) % w) + 1) % 2 ^ (2 * j) ≡ 0
twice_as_right w n x j k e h f =
    let y : ℕ = n * x + 1 in
    let p : ℕ = 2 ^ j in
    let pp : 2 ^ (2 * j) ≡ p * p = ap (λ i. 2 ^ i) (let q : 2 * j ≡ j + j = omega arith in q) ∙ pow-add 2 j j in
    let up : 2 ^ (k - 2 * j) * 2 ^ (2 * j) ≡ w = sym (pow-add 2 (k - 2 * j) (2 * j)) ∙ ap (λ i. 2 ^ i) (omega arith)
    ∙ sym e in
    let divides : 2 ^ (2 * j) ∣ w = subst (λ z. 2 ^ (2 * j) ∣ z) up (dvd-mul_left (2 ^ (2 * j)) (2 ^ (k - 2 * j))) in
    let r : ℕ = (x * ((n * x % w + 2) % w)) % w in
    let inner : ((n * x % w + 2) % w) % w ≡ (n * x + 2) % w = mod-mod _ w ∙ mod-add-mod (n * x) w 2 in
    let whole : (n * r) % w ≡ (n * (x * (n * x + 2))) % w =
    mul-mod_second n (x * ((n * x % w + 2) % w)) w
    ∙ ap (λ z. z % w) (let q : n * (x * ((n * x % w + 2) % w)) ≡ n * x * ((n * x % w + 2) % w) = omega arith in q)
    ∙ same_times w ((n * x % w + 2) % w) (n * x + 2) (n * x) inner
    ∙ ap (λ z. z % w) (let q : n * x * (n * x + 2) ≡ n * (x * (n * x + 2)) = omega arith in q) in
    let more : (n * r + 1) % w ≡ (y * y) % w = same_add w (n * r) (n * (x * (n * x + 2))) 1 whole
    ∙ ap (λ z. z % w) (let q : n * (x * (n * x + 2)) + 1 ≡ (n * x + 1) * (n * x + 1) = omega arith in q) in
    sym (mod-mod_of_dvd (2 ^ (2 * j)) (n * r + 1) divides)
    ∙ ap (λ z. z % 2 ^ (2 * j)) more
    ∙ mod-mod_of_dvd (2 ^ (2 * j)) (y * y) divides
    ∙ ap (λ z. (y * y) % z) pp
    ∙ square_of y p f
