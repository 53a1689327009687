-- The octets of a power, where an encoded message is shorter.
use Rattle.std.proofs.Common.{◌≡◌, ℕ, ◌+◌, ◌*◌, ◌/◌, ◌%◌, ◌^◌, ◌<◌, List, ◌∷◌, length, get_or, drop, ap, sym, ◌∙◌, suc}
use Rattle.std.proofs.Common.{lit<, arith}
use Rattle.std.proofs.Math.Nat.{mod-lt, mod-eq_of_lt, one-le-pow, div-eq_of_lt}
use Rattle.std.proofs.lemmas.Nat.{div-add-mod'}
use Rattle.big_numbers.specs.Numbers.{i2osp}

-- without a first octet 0 the number is the same
pub rest_of_octets : (octets : List ℕ) (x n : ℕ) → length octets ≡ suc n → octets ≡ i2osp x (length octets)
    → get_or octets 0 0 ≡ 0 → x < 256 ^ length octets → (x < 256 ^ n) × (drop 1 octets ≡ i2osp x n)
rest_of_octets octets x n l e z h =
    let is : octets ≡ x / 256 ^ n ∷ i2osp (x % 256 ^ n) n = e ∙ ap (λ k. i2osp x k) l in
    let some : 0 < 256 ^ n = one-le-pow n 256 (lit< tt) in
    let q : x / 256 ^ n ≡ 0 = sym (ap (λ (o : List ℕ). get_or o 0 0) is) ∙ z in
    let d : x / 256 ^ n * 256 ^ n + x % 256 ^ n ≡ x = div-add-mod' x (256 ^ n) in
    let m : x / 256 ^ n * 256 ^ n ≡ 0 * 256 ^ n = ap (λ v. v * 256 ^ n) q in
    let r : x % 256 ^ n < 256 ^ n = mod-lt x some in
    let small : x < 256 ^ n = omega arith in
    (small, ap (λ o. drop 1 o) is ∙ ap (λ v. i2osp v n) (mod-eq_of_lt small))

-- with another first octet, it is too large
pub too_large : (octets : List ℕ) (x n : ℕ) → length octets ≡ suc n → octets ≡ i2osp x (length octets) → x < 256 ^ n
    → get_or octets 0 0 ≡ 0
too_large octets x n l e h =
    ap (λ (o : List ℕ). get_or o 0 0) (e ∙ ap (λ k. i2osp x k) l) ∙ div-eq_of_lt h
