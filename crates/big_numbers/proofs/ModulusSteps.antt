-- What a modulus is prepared from.
use Rattle.std.proofs.Common.{◌≡◌, ℕ, ◌+◌, ◌-◌, ◌*◌, ◌/◌, ◌%◌, ◌^◌, ◌<◌, ◌≤◌, List, [], ◌∷◌, ◌++◌, length}
use Rattle.std.proofs.Common.{length-append, get_or, take, drop, ap, sym, subst, ◌∙◌, inl, inr, zero, suc, lit<, arith}
use Rattle.std.proofs.Math.Nat.{pow-suc, pow-le-pow_right, one-le-pow, mod-lt, mul-le-mul_left, mul-le-mul_right}
use Rattle.std.proofs.lemmas.List.{take-append-drop, take_at, length-take-le}
use Rattle.std.proofs.lemmas.Nat.{div-add-mod'}
use Rattle.std.proofs.lemmas.Bool.{cases_lt}
use Rattle.big_numbers.specs.Numbers.{IsBits, IsModulus, bits_of, i2osp, os2ip, value}
use Rattle.big_numbers.specs.Montgomery.{IsPrepared, form}
use Rattle.big_numbers.proofs.Values.{value-append}
use Rattle.big_numbers.proofs.OctetSteps.{os2ip_below}
use Rattle.big_numbers.proofs.WriteSteps.{base_in_octets}
use Rattle.big_numbers.proofs.OctetLaws.{bits_are, bits_fill, first_octet, i2osp-os2ip, length-i2osp, os2ip-i2osp}

none_above : (p v x y : ℕ) → x ≡ v + p * y → x < p → v ≡ x
none_above p v x zero e h = omega arith
none_above p v x (suc y) e h =
    absurd (let m : p * 1 ≤ p * suc y = mul-le-mul_left p (let q : 1 ≤ suc y = omega arith in q) in omega arith)

-- a number is that of the words that it fills
pub value_take_small : (xs : List ℕ) (k : ℕ) → k ≤ length xs → value xs < (2 ^ 64) ^ k → value (take k xs) ≡ value xs
value_take_small xs k l h =
    none_above ((2 ^ 64) ^ k) (value (take k xs)) (value xs) (value (drop k xs))
    (ap value (sym (take-append-drop k xs)) ∙ value-append (take k xs) (drop k xs)
    ∙ ap (λ i. value (take k xs) + (2 ^ 64) ^ i * value (drop k xs)) (length-take-le k xs l)) h

-- the number of octets, in words
pub value_of_octets : (words octets : List ℕ) (count : ℕ) → ((k : ℕ) → get_or octets k 0 < 256) → count ≤ length words
    → length octets ≤ 8 * count → value words ≡ os2ip octets → value (take count words) ≡ os2ip octets
value_of_octets words octets count fits l enough e =
    let below : os2ip octets < 256 ^ length octets = os2ip_below octets fits in
    let more : 256 ^ length octets ≤ 256 ^ (8 * count) = pow-le-pow_right (lit< tt) enough in
    let base = base_in_octets count in
    value_take_small words count l (omega arith) ∙ e

pub first_of_take : (xs : List ℕ) (k : ℕ) → 0 < k → get_or (take k xs) 0 0 ≡ get_or xs 0 0
first_of_take xs zero h = absurd (omega arith)
first_of_take [] (suc k) h = omega arith
first_of_take (x ∷ xs) (suc k) h = omega arith

pub some_octets : (m : List ℕ) → IsModulus m → 0 < length m
some_octets [] is = is.first
some_octets (x ∷ xs) is = omega arith

-- the lowest word of an odd number is odd
pub first_is_odd : (xs : List ℕ) → value xs % 2 ≡ 1 → get_or xs 0 0 % 2 ≡ 1
first_is_odd [] h = h
first_is_odd (x ∷ xs) h = omega arith

-- a number of so many octets, of which the first is not 0, is above the highest power of the base in it
pub long_enough : (m : List ℕ) (c : ℕ) → IsModulus m → 8 * c < length m + 8 → (2 ^ 64) ^ (c - 1) < os2ip m
long_enough m zero is h = is.large
long_enough m (suc zero) is h = is.large
long_enough m (suc (suc j)) is h =
    let a = first_octet m is.first in
    let le : 8 * suc j ≤ length m - 1 = omega arith in
    let b : 256 ^ (8 * suc j) ≤ 256 ^ (length m - 1) = pow-le-pow_right (lit< tt) le in
    let e = base_in_octets (suc j) in
    let d = pow-suc (2 ^ 64) j in
    let g : suc (suc j) - 1 ≡ suc j = omega arith in
    let odd : os2ip m % 2 ≡ 1 = is.odd in
    rw g (omega arith)

-- the octets of a number are octets
i2osp_fits : (len x k : ℕ) → x < 256 ^ len → get_or (i2osp x len) k 0 < 256
i2osp_fits zero x k h = lit< tt
i2osp_fits (suc len) x zero h =
    let p : ℕ = 256 ^ len in
    let d : x / p * p + x % p ≡ x = div-add-mod' x p in
    let s : 256 ^ suc len ≡ p * 256 = pow-suc 256 len in
    elim (cases_lt (x / p) 256) [
      | inl l ↦ l
      | inr g ↦ absurd (let m : 256 * p ≤ x / p * p = mul-le-mul_right p g in omega arith)
    ]
i2osp_fits (suc len) x (suc k) h = i2osp_fits len (x % 256 ^ len) k (mod-lt x (one-le-pow len 256 (lit< tt)))

-- what octets say of the number whose they are
pub size_kept : (octets : List ℕ) (v size : ℕ) → i2osp v size ≡ octets → length octets ≡ size
size_kept octets v size is = ap length (sym is) ∙ length-i2osp v size

pub number_kept : (octets : List ℕ) (v size : ℕ) → v < 256 ^ size → i2osp v size ≡ octets → os2ip octets ≡ v
number_kept octets v size fits is = ap os2ip (sym is) ∙ os2ip-i2osp size v fits

pub bits_kept : (octets : List ℕ) (v size bits : ℕ) → v < 256 ^ size → i2osp v size ≡ octets → IsModulus (i2osp v size)
    → bits ≡ bits_of (i2osp v size) → IsBits (os2ip octets) bits
bits_kept octets v size bits fits is modulus e =
    subst (λ o. IsBits (os2ip o) bits) is
    (subst (λ b. IsBits (os2ip (i2osp v size)) b) (sym e)
    (bits_are (i2osp v size) (λ k. i2osp_fits size v k fits) modulus.first))

pub octets_filled : (octets : List ℕ) (v size bits : ℕ) → v < 256 ^ size → i2osp v size ≡ octets
    → IsModulus (i2osp v size) → bits ≡ bits_of (i2osp v size) → (bits + 7) / 8 ≡ length octets
octets_filled octets v size bits fits is modulus e =
    ap (λ b. (b + 7) / 8) e ∙ bits_fill (i2osp v size) (λ k. i2osp_fits size v k fits) modulus.first ∙ ap length is

pub octets_kept : (words octets : List ℕ) (count : ℕ) → ((k : ℕ) → get_or octets k 0 < 256) → count ≤ length words
    → length octets ≤ 8 * count → value words ≡ os2ip octets → i2osp (value (take count words)) (length octets) ≡ octets
octets_kept words octets count fits l enough e =
    ap (λ z. i2osp z (length octets)) (value_of_octets words octets count fits l enough e) ∙ i2osp-os2ip octets fits

-- what is kept
pub prepared : (octets words part rest : List ℕ) (count inverse bits : ℕ) → ((k : ℕ) → get_or octets k 0 < 256)
    → IsModulus octets
    → length words ≡ 128 → length rest + count ≡ 128
    → length octets ≤ 8 * count → 0 < count
    → value words ≡ os2ip octets → (get_or words 0 0 * inverse + 1) % 2 ^ 64 ≡ 0
    → length part ≡ length (take count words)
    → value part ≡ form (take count words) ((2 ^ 64) ^ length (take count words))
    → bits ≡ bits_of octets
    → IsPrepared words (part ++ rest) count inverse (length octets) bits
prepared octets words part rest count inverse bits fits is lw lr enough some e inv lp square b =
    let lc : length (take count words) ≡ count = length-take-le count words (omega arith) in
    let n : value (take count words) ≡ os2ip octets = value_of_octets words octets count fits (omega arith) enough e in
    let same : i2osp (value (take count words)) (length octets) ≡ octets =
    octets_kept words octets count fits (omega arith) enough e in
    let taken : take count (part ++ rest) ≡ part = take_at part rest count (lp ∙ lc) in
    record {
      room = lw;
      square_room = length-append part rest ∙ omega arith;
      most = omega arith;
      enough = enough;
      fits = subst (λ z. z < 256 ^ length octets) (sym n) (os2ip_below octets fits);
      ready = record {
        few = omega arith;
        as_long = ap length taken ∙ lp;
        odd = ap (λ z. z % 2) n ∙ is.odd;
        large = subst (λ z. 1 < z) (sym n) is.large;
        is_inverse = ap (λ z. (z * inverse + 1) % 2 ^ 64) (first_of_take words count some) ∙ inv;
        is_square = ap value taken ∙ square;
      };
      modulus = subst (λ m. IsModulus m) (sym same) is;
      are_bits = b ∙ ap bits_of (sym same);
    }
