-- How many octets the elements of a key have.
use Rattle.std.proofs.Common.{ℕ, ◌+◌, ◌≤◌, ◌^◌, cond, List, [], ◌∷◌, ◌++◌, length, lit≤, length-append, arith}
use Rattle.std.specs.Prelude.{nat_lt}
use Rattle.std.proofs.lemmas.Bool.{cond_both}
use Rattle.der_core.specs.Element.{el, len, octets}
use Rattle.rsa_keys.specs.KeyValue.{positive, public_key}
use Rattle.rsa_keys.proofs.Signs.{positive_size}

abbrev Few : List ℕ → Type 0
Few xs = length xs ≤ 5

-- length octets are five at most
len_most : (n : ℕ) → length (len n) ≤ 5
unfolding len
len_most n =
    let d : List ℕ = cond (nat_lt n (2 ^ 24)) (131 ∷ octets 3 n) (132 ∷ octets 4 n) in
    let c : List ℕ = cond (nat_lt n (2 ^ 16)) (130 ∷ octets 2 n) d in
    let b : List ℕ = cond (nat_lt n (2 ^ 8)) (129 ∷ octets 1 n) c in
    cond_both (nat_lt n 128) (n ∷ []) b Few (λ e. lit≤ tt) (λ e.
    cond_both (nat_lt n (2 ^ 8)) (129 ∷ octets 1 n) c Few (λ e. lit≤ tt) (λ e.
    cond_both (nat_lt n (2 ^ 16)) (130 ∷ octets 2 n) d Few (λ e. lit≤ tt) (λ e.
    cond_both (nat_lt n (2 ^ 24)) (131 ∷ octets 3 n) (132 ∷ octets 4 n) Few (λ e. lit≤ tt) (λ e. lit≤ tt))))

-- an element has six octets more than its contents at most
el_most : (t : ℕ) (b : List ℕ) → length (el t b) ≤ length b + 6
el_most t b = omega (arith, length-append (len (length b)) b, len_most (length b))

pub numbers_size : (n e : List ℕ) → length n ≤ 1024 → length e ≤ 8
    → length (el 0x02 (positive n) ++ el 0x02 (positive e)) ≤ 1046
numbers_size n e h f =
    omega (
      arith,
      h,
      f,
      length-append (el 0x02 (positive n)) (el 0x02 (positive e)),
      el_most 0x02 (positive n),
      el_most 0x02 (positive e),
      positive_size n,
      positive_size e,
    )

pub key_size : (n e : List ℕ) → length n ≤ 1024 → length e ≤ 8
    → length (0x00 ∷ public_key (positive n) (positive e)) ≤ 1053
key_size n e h f =
    omega (arith, numbers_size n e h f, el_most 0x30 (el 0x02 (positive n) ++ el 0x02 (positive e)))
