-- Signatures of ECDSA in octets (FIPS 186-5 6.4.2; RFC 3279 2.2.3).
use Rattle.std.specs.Prelude.{ℕ, ◌/◌, Bool, false, ◌&&◌, nat_lt, List, [], ◌∷◌, take, Result, Ok, Err}
use Rattle.std.specs.Int.Digits.{number_from_digits}
use Rattle.der_core.specs.declared.fault.Fault.{Fault}
use Rattle.ecdsa_signatures.specs.Signatures.{Parameters, is_signed}
use Rattle.ecdsa_octets.specs.SignatureValue.{SignatureValue}
use Rattle.ecdsa_octets.specs.SignatureReading.{signature_at}

-- the number of octets, the first one the highest (SEC 1 2.3.8)
abbrev pub number_of : List ℕ → ℕ
number_of octets = number_from_digits 256 octets

-- Whether the contents of an INTEGER are those of a number that is not negative (X.690 8.3.3).
abbrev pub is_natural : List ℕ → Bool
is_natural [] = false
is_natural (b ∷ bs) = nat_lt b 128

-- the leftmost bits of a digest, as many as n has, which fill octets; all of them, if it has no more
abbrev pub leftmost : Parameters → List ℕ → List ℕ
leftmost c digest = take (c.bits / 8) digest

-- Whether a value is a signature of a digest under the key (x, y), whose coordinates are octets.
unfoldable pub is_signed_value : Parameters → (x y digest : List ℕ) → SignatureValue → Bool
is_signed_value c x y digest v =
    is_natural v.r && (is_natural v.s
    && is_signed c (number_of x) (number_of y) (number_of (leftmost c digest)) (number_of v.r) (number_of v.s))

-- Whether octets are the encoding of such a value.
abbrev pub is_signed_result : Parameters → (x y digest : List ℕ) → Result SignatureValue Fault → Bool
is_signed_result c x y digest (Ok v) = is_signed_value c x y digest v
is_signed_result c x y digest (Err f) = false

unfoldable pub is_signed_in_octets : Parameters → (x y digest signature : List ℕ) → Bool
is_signed_in_octets c x y digest signature = is_signed_result c x y digest (signature_at signature)
