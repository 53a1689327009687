-- The numbers of P-256 (SP 800-186 3.2.1.3) in words.
use Rattle.std.specs.Prelude.{ℕ, ◌+◌, ◌*◌, ◌^◌}
use Rattle.ecdsa_signatures.specs.Curves.{p256}

-- the number of four words, the least first
abbrev pub four_words : (a b c d : ℕ) → ℕ
four_words a b c d =
    a + 2 ^ 64 * b + 2 ^ 128 * c + 2 ^ 192 * d

-- the number of five words, the least first
abbrev pub five_words : (a b c d e : ℕ) → ℕ
five_words a b c d e =
    a + 2 ^ 64 * b + 2 ^ 128 * c + 2 ^ 192 * d + 2 ^ 256 * e

-- the prime of the field
abbrev pub prime : ℕ
prime = p256.p

-- the number that 2 ^ 256 times is 1 modulo the prime
abbrev pub unscale : ℕ
unscale = 0xfffffffe00000003fffffffd0000000200000001fffffffe0000000300000000

-- the order of the base point
abbrev pub order : ℕ
order = p256.n

-- the number that 2 ^ 256 times is 1 modulo the order
abbrev pub order_unscale : ℕ
order_unscale = 0x60d066334905c1e907f8b6041e607725badef3e243566fafce1bc8f79c197c79
