-- Numbers in octets.
use Rattle.std.proofs.Common.{◌≡◌, ℕ, ◌+◌, ◌-◌, ◌*◌, ◌^◌, ◌<◌, ◌≤◌, List, [], ◌∷◌, ◌++◌, length, get_or, set, take}
use Rattle.std.proofs.Common.{drop, refl, ap, sym, subst, ◌∙◌, zero, suc, lit<, min, inl, inr, ◌⊎◌, length-append}
use Rattle.std.proofs.Common.{arith}
use Rattle.std.proofs.Math.Nat.{pow-suc, mul-le-mul_right, pow-le-pow_right}
use Rattle.std.proofs.lemmas.Nat.{pow-add}
use Rattle.std.proofs.lemmas.Bool.{cases_lt}
use Rattle.std.proofs.lemmas.List.{take_more, take-append-drop, length-take-le, length-drop}
use Rattle.big_numbers.specs.Numbers.{os2ip, value}
use Rattle.big_numbers.proofs.Values.{value_more_set, power_more, value_whole}

append_octets : (x p q v y : ℕ) → x * (p * q) + (v * q + y) ≡ (x * p + v) * q + y
append_octets x p q v y = omega arith

pub os2ip-append : (xs ys : List ℕ) → os2ip (xs ++ ys) ≡ os2ip xs * 256 ^ length ys + os2ip ys
os2ip-append [] ys = omega arith
os2ip-append (x ∷ xs) ys =
    ap (λ k. x * 256 ^ k + os2ip (xs ++ ys)) (length-append xs ys)
    ∙ ap (λ z. x * z + os2ip (xs ++ ys)) (pow-add 256 (length xs) (length ys))
    ∙ ap (λ z. x * (256 ^ length xs * 256 ^ length ys) + z) (os2ip-append xs ys)
    ∙ append_octets x (256 ^ length xs) (256 ^ length ys) (os2ip xs) (os2ip ys)

pub os2ip_more : (xs : List ℕ) (i : ℕ) → i < length xs
    → os2ip (take (i + 1) xs) ≡ os2ip (take i xs) * 256 + get_or xs i 0
os2ip_more xs i h =
    ap os2ip (take_more xs i 0 h) ∙ os2ip-append (take i xs) (get_or xs i 0 ∷ [])
    ∙ (let q : os2ip (take i xs) * 256 + (get_or xs i 0 * 1 + 0) ≡ os2ip (take i xs) * 256 + get_or xs i 0 =
    omega arith in q)

octet_step : (p x v : ℕ) → x < 256 → v < p → x * p + v < p * 256
octet_step p x v f g =
    let h : (x + 1) * p ≤ 256 * p = mul-le-mul_right p (let k : x + 1 ≤ 256 = omega arith in k) in omega arith

-- a number of so many octets is below the power of 256
pub os2ip_below : (xs : List ℕ) → ((k : ℕ) → get_or xs k 0 < 256) → os2ip xs < 256 ^ length xs
os2ip_below [] fits = lit< tt
os2ip_below (x ∷ xs) fits =
    subst (λ z. os2ip (x ∷ xs) < z) (sym (pow-suc 256 (length xs)))
    (octet_step (256 ^ length xs) x (os2ip xs) (fits 0) (os2ip_below xs (λ k. fits (suc k))))

fits_take : (i : ℕ) (xs : List ℕ) (k : ℕ) → ((k : ℕ) → get_or xs k 0 < 256) → get_or (take i xs) k 0 < 256
fits_take zero xs k fits = lit< tt
fits_take (suc i) [] k fits = lit< tt
fits_take (suc i) (x ∷ xs) zero fits = fits 0
fits_take (suc i) (x ∷ xs) (suc k) fits = fits_take i xs k (λ j. fits (suc j))

-- one octet more of eight fits a word
pub octet_fits : (xs : List ℕ) (i : ℕ) → ((k : ℕ) → get_or xs k 0 < 256) → i < length xs → length xs ≤ 8
    → os2ip (take i xs) * 256 + get_or xs i 0 < 2 ^ 64
octet_fits xs i fits h few =
    let more : os2ip (take i xs) < 256 ^ length (take i xs) = os2ip_below (take i xs) (λ k. fits_take i xs k fits) in
    let p : 256 ^ length (take i xs) ≤ 256 ^ 7 =
    pow-le-pow_right (lit< tt)
    (let q : length (take i xs) ≤ 7 = omega (arith, length-take-le i xs (omega arith)) in q) in
    let x : get_or xs i 0 < 256 = fits i in
    omega arith

cut_off : (xs : List ℕ) (cut : ℕ) → cut ≤ length xs → (cut + 8 ≡ length xs) ⊎ (cut ≡ 0)
    → os2ip xs ≡ os2ip (drop cut xs) + 2 ^ 64 * os2ip (take cut xs)
cut_off xs cut h (inl e) =
    ap os2ip (sym (take-append-drop cut xs)) ∙ os2ip-append (take cut xs) (drop cut xs)
    ∙ ap (λ k. os2ip (take cut xs) * 256 ^ k + os2ip (drop cut xs))
    (let q : length (drop cut xs) ≡ 8 = omega (arith, length-drop cut xs) in q)
    ∙ (let q : os2ip (take cut xs) * 2 ^ 64 + os2ip (drop cut xs) ≡ os2ip (drop cut xs) + 2 ^ 64 * os2ip (take cut xs) =
    omega arith in q)
cut_off xs cut h (inr e) =
    subst (λ k. os2ip xs ≡ os2ip (drop k xs) + 2 ^ 64 * os2ip (take k xs)) (sym e) (omega arith)

cut_cases : (n cut : ℕ) → cut ≡ n - min n 8 → (cut + 8 ≡ n) ⊎ (cut ≡ 0)
cut_cases n cut e = elim (cases_lt n 8) [ inl l ↦ inr (omega arith) | inr l ↦ inl (omega arith) ]

word_read : (w p v x r s y : ℕ) → s ≡ x + w * r → v + p * s ≡ y → v + p * x + p * w * r ≡ y
word_read w p v x r s y e f = let m : p * s ≡ p * (x + w * r) = ap (λ z. p * z) e in omega arith

pub read_goes_on : (words rest : List ℕ) (i cut word y : ℕ) → i < length words → cut ≡ length rest - min (length rest) 8
    → word ≡ os2ip (drop cut rest)
    → value (take i words) + (2 ^ 64) ^ i * os2ip rest ≡ y
    → value (take (i + 1) (set words i word)) + (2 ^ 64) ^ (i + 1) * os2ip (take cut rest) ≡ y
read_goes_on words rest i cut word y h e f g =
    let vt = value_more_set words i word h in
    let p = power_more (2 ^ 64) i in
    let s : os2ip rest ≡ word + 2 ^ 64 * os2ip (take cut rest) =
    cut_off rest cut (omega arith) (cut_cases (length rest) cut e)
    ∙ ap (λ z. z + 2 ^ 64 * os2ip (take cut rest)) (sym f) in
    rw (vt, p)
    (word_read (2 ^ 64) ((2 ^ 64) ^ i) (value (take i words)) word (os2ip (take cut rest)) (os2ip rest) y s g)

os2ip_none : (xs : List ℕ) → length xs ≡ 0 → os2ip xs ≡ 0
os2ip_none [] e = refl
os2ip_none (x ∷ xs) e = absurd (omega arith)

pub read_ends : (words rest : List ℕ) (i y : ℕ) → length words ≤ i → length rest ≡ 0
    → value (take i words) + (2 ^ 64) ^ i * os2ip rest ≡ y → value words ≡ y
read_ends words rest i y h e f =
    let none = os2ip_none rest e in
    let whole = value_whole words i h in
    sym whole ∙ (let q : value (take i words) ≡ value (take i words) + (2 ^ 64) ^ i * 0 = omega arith in q)
    ∙ ap (λ z. value (take i words) + (2 ^ 64) ^ i * z) (sym none) ∙ f
