-- Numbers and the octets that stand for them.
use Rattle.std.proofs.Common.{◌≡◌, ℕ, ◌+◌, ◌-◌, ◌*◌, ◌/◌, ◌%◌, ◌^◌, ◌<◌, ◌≤◌, List, [], ◌∷◌, length, get_or, take, refl}
use Rattle.std.proofs.Common.{ap, sym, subst, ◌∙◌, zero, suc, lit<, arith}
use Rattle.std.proofs.Math.Nat.{mod-lt, mod-eq_of_lt, one-le-pow, pow-le-pow_right, mul-le-mul_left, mul-le-mul_right}
use Rattle.std.proofs.lemmas.Nat.{div-mul-add, mod-mul-add, div-add-mod', pow-add, leading_top}
use Rattle.std.proofs.lemmas.List.{take_all}
use Rattle.std.specs.Int.Count.{count_leading_zeros}
use Rattle.big_numbers.specs.Numbers.{IsBits, bits_of, i2osp, os2ip}
use Rattle.big_numbers.proofs.OctetSteps.{os2ip_below, os2ip_more}
use Rattle.big_numbers.proofs.WriteSteps.{octet_in_bits}

pub length-i2osp : (x len : ℕ) → length (i2osp x len) ≡ len
length-i2osp x zero = refl
length-i2osp x (suc len) = ap suc (length-i2osp (x % 256 ^ len) len)

pub i2osp-os2ip : (xs : List ℕ) → ((k : ℕ) → get_or xs k 0 < 256) → i2osp (os2ip xs) (length xs) ≡ xs
i2osp-os2ip [] fits = refl
i2osp-os2ip (x ∷ xs) fits =
    let p : ℕ = 256 ^ length xs in
    let below : os2ip xs < p = os2ip_below xs (λ k. fits (suc k)) in
    ap (λ z. z ∷ i2osp ((x * p + os2ip xs) % p) (length xs)) (div-mul-add x p (os2ip xs) below)
    ∙ ap (λ z. x ∷ i2osp z (length xs)) (mod-mul-add x p (os2ip xs) below)
    ∙ ap (λ z. x ∷ z) (i2osp-os2ip xs (λ k. fits (suc k)))

pub os2ip-i2osp : (len x : ℕ) → x < 256 ^ len → os2ip (i2osp x len) ≡ x
os2ip-i2osp zero x h = omega arith
os2ip-i2osp (suc len) x h =
    let p : ℕ = 256 ^ len in
    let some : 0 < p = one-le-pow len 256 (lit< tt) in
    ap (λ n. x / p * 256 ^ n + os2ip (i2osp (x % p) len)) (length-i2osp (x % p) len)
    ∙ ap (λ z. x / p * p + z) (os2ip-i2osp len (x % p) (mod-lt x some))
    ∙ div-add-mod' x p

-- octets that stand for a number
pub octets_written : (octets : List ℕ) (x : ℕ) → ((k : ℕ) → get_or octets k 0 < 256)
    → os2ip octets ≡ x % 256 ^ length octets → x < 256 ^ length octets → octets ≡ i2osp x (length octets)
octets_written octets x fits e h =
    sym (i2osp-os2ip octets fits) ∙ ap (λ z. i2osp z (length octets)) (e ∙ mod-eq_of_lt h)

pub first_octet : (m : List ℕ) → 0 < get_or m 0 0 → 256 ^ (length m - 1) ≤ os2ip m
first_octet [] h = absurd (omega arith)
first_octet (x ∷ xs) h =
    let p : 1 * 256 ^ length xs ≤ x * 256 ^ length xs = mul-le-mul_right (256 ^ length xs) h in
    let e : length (x ∷ xs) - 1 ≡ length xs = omega arith in
    rw e (omega arith)

-- the last octet of an odd number is odd
pub last_octet : (m : List ℕ) (i : ℕ) → i + 1 ≡ length m → os2ip m % 2 ≡ get_or m i 0 % 2
last_octet m i e =
    let h : i < length m = omega arith in
    let whole = take_all (i + 1) m (omega arith) in
    ap (λ z. os2ip z % 2) (sym whole) ∙ ap (λ z. z % 2) (os2ip_more m i h)
    ∙ (let q : (os2ip (take i m) * 256 + get_or m i 0) % 2 ≡ get_or m i 0 % 2 = omega arith in q)

-- two octets or more, of which the first is not 0
pub large_by_length : (m : List ℕ) → 0 < get_or m 0 0 → 1 < length m → 1 < os2ip m
large_by_length m f l =
    let a = first_octet m f in
    let le : 1 ≤ length m - 1 = omega arith in
    let b : 256 ^ 1 ≤ 256 ^ (length m - 1) = pow-le-pow_right (lit< tt) le in omega arith

-- one octet
pub of_one_octet : (m : List ℕ) → length m ≡ 1 → os2ip m ≡ get_or m 0 0
of_one_octet [] l = absurd (omega arith)
of_one_octet (x ∷ []) l = let q : x * 1 + 0 ≡ x = omega arith in q
of_one_octet (x ∷ y ∷ ys) l = absurd (omega arith)

-- the bits of a number by those of its first octet
pub bits_are : (m : List ℕ) → ((k : ℕ) → get_or m k 0 < 256) → 0 < get_or m 0 0 → IsBits (os2ip m) (bits_of m)
bits_are [] fits h = absurd (omega arith)
bits_are (x ∷ xs) fits h =
    let t = leading_top 8 x h (fits 0) in
    let j : ℕ = t.0 in
    let k : ℕ = 8 * length xs in
    let p : ℕ = 256 ^ length xs in
    let is : 8 * length (x ∷ xs) - count_leading_zeros 8 x ≡ k + suc j = omega (arith, t.1) in
    let low : os2ip xs < p = os2ip_below xs (λ i. fits (suc i)) in
    let pk : p ≡ 2 ^ k = octet_in_bits (length xs) in
    let a : 2 ^ (k + j) ≡ 2 ^ k * 2 ^ j = pow-add 2 k j in
    let b : 2 ^ (k + suc j) ≡ 2 ^ k * 2 ^ suc j = pow-add 2 k (suc j) in
    let least : p * 2 ^ j ≤ p * x = mul-le-mul_left p t.2 in
    let most : p * (x + 1) ≤ p * 2 ^ suc j = mul-le-mul_left p (let q : x + 1 ≤ 2 ^ suc j = omega (arith, t.3) in q) in
    let c : 2 ^ k * 2 ^ j ≡ p * 2 ^ j = ap (λ z. z * 2 ^ j) (sym pk) in
    let d : 2 ^ k * 2 ^ suc j ≡ p * 2 ^ suc j = ap (λ z. z * 2 ^ suc j) (sym pk) in
    let e : k + suc j - 1 ≡ k + j = omega arith in
    subst (λ n. IsBits (os2ip (x ∷ xs)) n) (sym is) (
      subst (λ i. 2 ^ i ≤ os2ip (x ∷ xs)) (sym e) (let q : 2 ^ (k + j) ≤ x * p + os2ip xs = omega arith in q),
      let q : x * p + os2ip xs < 2 ^ (k + suc j) = omega arith in q,
    )

-- they fill as many octets
pub bits_fill : (m : List ℕ) → ((k : ℕ) → get_or m k 0 < 256) → 0 < get_or m 0 0 → (bits_of m + 7) / 8 ≡ length m
bits_fill [] fits h = absurd (omega arith)
bits_fill (x ∷ xs) fits h = let t = leading_top 8 x h (fits 0) in omega (arith, t.1)
