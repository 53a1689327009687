-- The octets of a number in words.
use Rattle.std.proofs.Common.{◌≡◌, ℕ, ◌+◌, ◌-◌, ◌*◌, ◌/◌, ◌%◌, ◌^◌, ◌<◌, ◌≤◌, List, length, get_or, set, take, drop}
use Rattle.std.proofs.Common.{bit_and, refl, ap, sym, ◌∙◌, zero, suc, lit<, arith}
use Rattle.std.proofs.Math.Nat.{pow-suc, mod-lt, one-le-pow, div-div-eq-div-mul, add-mul-div_right, add-mul-div_left}
use Rattle.std.proofs.Math.Nat.{div-eq_of_lt, mul-le-mul_right, mul-add-mod_self_left}
use Rattle.std.proofs.lemmas.Nat.{pow-add, mod-mul-add, div-add-mod', and_mask}
use Rattle.std.proofs.lemmas.List.{take-append-drop, drop-set, length-take-le, length-drop}
use Rattle.std.proofs.Math.Seq.{drop-cons}
use Rattle.big_numbers.specs.Numbers.{os2ip, value}
use Rattle.big_numbers.proofs.Values.{value-append, value_take_below, power_more}

-- one digit more
digit_more : (n p : ℕ) → 0 < p → n / p % 256 * p + n % p ≡ n % (p * 256)
digit_more n p h =
    let q : ℕ = n / p in
    let a : q / 256 * 256 + q % 256 ≡ q = div-add-mod' q 256 in
    let b : q * p + n % p ≡ n = div-add-mod' n p in
    let m : (q / 256 * 256 + q % 256) * p ≡ q * p = ap (λ z. z * p) a in
    let e : q / 256 * (p * 256) + (q % 256 * p + n % p) ≡ n = omega arith in
    let d : q % 256 < 256 = mod-lt q (lit< tt) in
    let r : n % p < p = mod-lt n h in
    let f : (q % 256 + 1) * p ≤ 256 * p = mul-le-mul_right p (let k : q % 256 + 1 ≤ 256 = omega arith in k) in
    let small : q % 256 * p + n % p < p * 256 = omega arith in
    sym (mod-mul-add (q / 256) (p * 256) (q % 256 * p + n % p) small) ∙ ap (λ z. z % (p * 256)) e

-- the words from a place on
words_from : (xs : List ℕ) (j : ℕ) → j ≤ length xs → ((k : ℕ) → get_or xs k 0 < 2 ^ 64)
    → value xs / (2 ^ 64) ^ j ≡ value (drop j xs)
words_from xs j h fits =
    let p : ℕ = (2 ^ 64) ^ j in
    let some : 0 < p = one-le-pow j (2 ^ 64) (lit< tt) in
    let t : value (take j xs) < p = value_take_below j xs fits in
    ap (λ z. value z / p) (sym (take-append-drop j xs)) ∙ ap (λ z. z / p) (value-append (take j xs) (drop j xs))
    ∙ ap (λ k. (value (take j xs) + (2 ^ 64) ^ k * value (drop j xs)) / p) (length-take-le j xs h)
    ∙ add-mul-div_left (value (take j xs)) (value (drop j xs)) some
    ∙ ap (λ z. z + value (drop j xs)) (div-eq_of_lt t)
    ∙ (let q : 0 + value (drop j xs) ≡ value (drop j xs) = omega arith in q)

pub base_in_octets : (j : ℕ) → (2 ^ 64) ^ j ≡ 256 ^ (8 * j)
base_in_octets zero = refl
base_in_octets (suc j) =
    pow-suc (2 ^ 64) j ∙ ap (λ z. z * 2 ^ 64) (base_in_octets j) ∙ sym (pow-add 256 (8 * j) 8)
    ∙ ap (λ z. 256 ^ z) (let q : 8 * j + 8 ≡ 8 * suc j = omega arith in q)

pub octet_in_bits : (r : ℕ) → 256 ^ r ≡ 2 ^ (8 * r)
octet_in_bits zero = refl
octet_in_bits (suc r) =
    pow-suc 256 r ∙ ap (λ z. z * 256) (octet_in_bits r) ∙ sym (pow-add 2 (8 * r) 8)
    ∙ ap (λ z. 2 ^ z) (let q : 8 * r + 8 ≡ 8 * suc r = omega arith in q)

-- an octet of a word with others above
octet_of_word : (w v r : ℕ) → r < 8 → (w + 2 ^ 64 * v) / 256 ^ r % 256 ≡ w / 256 ^ r % 256
octet_of_word w v r h =
    let some : 0 < 256 ^ r = one-le-pow r 256 (lit< tt) in
    let whole : 2 ^ 64 ≡ 256 ^ (7 - r) * 256 * 256 ^ r =
    (let q : 2 ^ 64 ≡ 256 ^ 8 = refl in q)
    ∙ ap (λ k. 256 ^ k) (let q : 8 ≡ 7 - r + 1 + r = omega arith in q)
    ∙ pow-add 256 (7 - r + 1) r ∙ ap (λ z. z * 256 ^ r) (power_more 256 (7 - r)) in
    ap (λ z. (w + z * v) / 256 ^ r % 256) whole
    ∙ ap (λ z. (w + z) / 256 ^ r % 256)
    (let q : 256 ^ (7 - r) * 256 * 256 ^ r * v ≡ 256 * (256 ^ (7 - r) * v) * 256 ^ r = omega arith in q)
    ∙ ap (λ z. z % 256) (add-mul-div_right w (256 * (256 ^ (7 - r) * v)) some)
    ∙ ap (λ z. z % 256)
    (let q : w / 256 ^ r + 256 * (256 ^ (7 - r) * v) ≡ 256 * (256 ^ (7 - r) * v) + w / 256 ^ r = omega arith in q)
    ∙ mul-add-mod_self_left 256 (256 ^ (7 - r) * v) (w / 256 ^ r)

-- an octet of a number
octet_at : (xs : List ℕ) (i : ℕ) → i / 8 < length xs → ((k : ℕ) → get_or xs k 0 < 2 ^ 64)
    → value xs / 256 ^ i % 256 ≡ bit_and (get_or xs (i / 8) 0 / 2 ^ (8 * (i % 8))) 0xff
octet_at xs i h fits =
    let j : ℕ = i / 8 in
    let r : ℕ = i % 8 in
    let split : i ≡ 8 * j + r = omega arith in
    let p : 256 ^ i ≡ (2 ^ 64) ^ j * 256 ^ r =
    ap (λ k. 256 ^ k) split ∙ pow-add 256 (8 * j) r ∙ ap (λ z. z * 256 ^ r) (sym (base_in_octets j)) in
    ap (λ z. value xs / z % 256) p
    ∙ ap (λ z. z % 256) (sym (div-div-eq-div-mul (value xs) ((2 ^ 64) ^ j) (256 ^ r)))
    ∙ ap (λ z. z / 256 ^ r % 256) (words_from xs j (omega arith) fits)
    ∙ ap (λ z. value z / 256 ^ r % 256) (drop-cons xs j 0 h)
    ∙ octet_of_word (get_or xs j 0) (value (drop (suc j) xs)) r (mod-lt i (lit< tt))
    ∙ ap (λ z. get_or xs j 0 / z % 256) (octet_in_bits r)
    ∙ sym (and_mask (get_or xs j 0 / 2 ^ (8 * r)) 8)

pub write_goes_on : (octets words : List ℕ) (count i x : ℕ) → length octets ≡ count → i < count
    → count ≤ 8 * length words
    → ((k : ℕ) → get_or words k 0 < 2 ^ 64)
    → x ≡ bit_and (get_or words (i / 8) 0 / 2 ^ (8 * (i % 8))) 0xff
    → os2ip (drop (count - i) octets) ≡ value words % 256 ^ i
    → os2ip (drop (count - (i + 1)) (set octets (count - 1 - i) x)) ≡ value words % 256 ^ (i + 1)
write_goes_on octets words count i x l h few fits e f =
    let at : ℕ = count - 1 - i in
    let n : ℕ = value words in
    let p : ℕ = 256 ^ i in
    let some : 0 < p = one-le-pow i 256 (lit< tt) in
    let a : count - (i + 1) ≡ at = omega arith in
    let b : at + 1 ≡ count - i = omega arith in
    ap (λ k. os2ip (drop k (set octets at x))) a
    ∙ ap os2ip (drop-set octets at x (omega arith))
    ∙ ap (λ k. x * 256 ^ length (drop k octets) + os2ip (drop k octets)) b
    ∙ ap (λ k. x * 256 ^ k + os2ip (drop (count - i) octets))
    (let q : length (drop (count - i) octets) ≡ i = omega (arith, length-drop (count - i) octets) in q)
    ∙ ap (λ z. x * p + z) f
    ∙ ap (λ z. z * p + n % p) (e ∙ sym (octet_at words i (omega arith) fits))
    ∙ digit_more n p some
    ∙ ap (λ z. n % z) (sym (power_more 256 i))
