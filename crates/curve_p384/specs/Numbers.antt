-- The numbers of P-384 (SP 800-186 3.2.1.4) in words.
use Rattle.std.specs.Prelude.{ℕ, ◌+◌, ◌*◌, ◌^◌}
use Rattle.ecdsa_signatures.specs.Curves.{p384}

-- the number of six words, the least first
abbrev pub six_words : (a b c d e f : ℕ) → ℕ
six_words a b c d e f =
    a + 2 ^ 64 * b + 2 ^ 128 * c + 2 ^ 192 * d + 2 ^ 256 * e + 2 ^ 320 * f

-- the number of seven words, the least first
abbrev pub seven_words : (a b c d e f g : ℕ) → ℕ
seven_words a b c d e f g =
    a + 2 ^ 64 * b + 2 ^ 128 * c + 2 ^ 192 * d + 2 ^ 256 * e + 2 ^ 320 * f + 2 ^ 384 * g

-- the prime of the field
abbrev pub prime : ℕ
prime = p384.p

-- the number that 2 ^ 384 times is 1 modulo the prime
abbrev pub unscale : ℕ
unscale = 0x14000000140000000c00000002fffffffcfffffffafffffffbfffffffdffffffebffffffd8ffffffe100000006

-- the order of the base point
abbrev pub order : ℕ
order = p384.n

-- the number that 2 ^ 384 times is 1 modulo the order
abbrev pub order_unscale : ℕ
order_unscale = 0x355ca87de39dbb1fa150206ce4f194ac78d4ba5866d61787e29f9fb70a9da219d26d4aeba664edb0610ae855f2c0d911
