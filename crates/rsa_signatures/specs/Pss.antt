-- RSASSA-PSS (RFC 8017 8.1), with MGF1, of the digest of a message.
use Rattle.std.specs.Prelude.{◌≡◌, ℕ, ◌+◌, ◌-◌, ◌*◌, ◌/◌, ◌%◌, ◌^◌, ◌<◌, ◌≤◌, zero, suc, Bool, ◌&&◌, ◌==◌, nat_lt}
use Rattle.std.specs.Prelude.{nat_le}
use Rattle.std.specs.Prelude.{List, [], ◌∷◌, ◌++◌, length, replicate, take, drop, slice_index, bit_xor}
use Rattle.der_core.specs.Lists.{is_same}
use Rattle.digests.specs.declared.algorithm.Alg.{Alg}
use Rattle.digests.specs.Algorithms.{length_of}
use Rattle.digests.specs.Messages.{digest_of}
use Rattle.big_numbers.specs.Numbers.{bits_of, i2osp, os2ip}
use Rattle.rsa_signatures.specs.Pkcs1.{rsavp1}

-- MGF1 (B.2.1), step 3: the hash values for the counters 0, 1, .. below a number, one after the other
abbrev pub mgf1_blocks : Alg → List ℕ → ℕ → List ℕ
mgf1_blocks alg seed zero = []
mgf1_blocks alg seed (suc counter) = mgf1_blocks alg seed counter ++ digest_of alg (seed ++ i2osp counter 4)

-- and the leading octets of them: the counters go up to ceil (mask_len / hLen) - 1
abbrev pub mgf1 : Alg → List ℕ → ℕ → List ℕ
mgf1 alg seed mask_len = take mask_len (mgf1_blocks alg seed ((mask_len + length_of alg - 1) / length_of alg))

-- exclusive or of octet strings
abbrev pub xor_octets : List ℕ → List ℕ → List ℕ
xor_octets [] ys = []
xor_octets (x ∷ xs) [] = []
xor_octets (x ∷ xs) (y ∷ ys) = bit_xor x y ∷ xor_octets xs ys

-- so many leftmost bits of the leftmost octet are set to 0
abbrev pub clear_bits : ℕ → List ℕ → List ℕ
clear_bits bits [] = []
clear_bits bits (x ∷ xs) = x % 2 ^ (8 - bits) ∷ xs

-- how many octets DB has
abbrev pub db_len : Alg → List ℕ → ℕ
db_len alg em = length em - length_of alg - 1

-- EMSA-PSS-VERIFY (9.1.2), step 5: H
abbrev pub h_of : Alg → List ℕ → List ℕ
h_of alg em = take (length_of alg) (drop (db_len alg em) em)

-- steps 5 and 7 to 9: DB
abbrev pub db_of : Alg → Alg → List ℕ → ℕ → List ℕ
db_of alg mask em em_bits =
    clear_bits (8 * length em - em_bits)
    (xor_octets (take (db_len alg em) em) (mgf1 mask (h_of alg em) (db_len alg em)))

-- EMSA-PSS-VERIFY says "consistent" (9.1.2) of the digest of a message, with the hash functions of EM and of MGF1, and
-- the length of the salt
pub record IsConsistent (alg mask : Alg) (s_len : ℕ) (m_hash em : List ℕ) (em_bits : ℕ) : Type 0 where
  -- step 3
  pub room : length_of alg + s_len + 2 ≤ length em
  -- step 4
  pub trailer : slice_index em (length em - 1) ≡ 0xbc
  -- step 6
  pub top : slice_index em 0 < 2 ^ (8 - (8 * length em - em_bits))
  -- step 10
  pub zeros : take (db_len alg em - s_len - 1) (db_of alg mask em em_bits) ≡ replicate (db_len alg em - s_len - 1) 0
  pub one : slice_index (db_of alg mask em em_bits) (db_len alg em - s_len - 1) ≡ 0x01
  -- steps 11 to 14
  pub hash : digest_of alg (replicate 8 0 ++ (m_hash ++ drop (db_len alg em - s_len) (db_of alg mask em em_bits)))
      ≡ h_of alg em

-- the same, as a test
unfoldable pub is_consistent : Alg → Alg → ℕ → List ℕ → List ℕ → ℕ → Bool
is_consistent alg mask s_len m_hash em em_bits =
    nat_le (length_of alg + s_len + 2) (length em)
    && slice_index em (length em - 1) == 0xbc
    && nat_lt (slice_index em 0) (2 ^ (8 - (8 * length em - em_bits)))
    && is_same (take (db_len alg em - s_len - 1) (db_of alg mask em em_bits)) (replicate (db_len alg em - s_len - 1) 0)
    && slice_index (db_of alg mask em em_bits) (db_len alg em - s_len - 1) == 0x01
    && is_same (digest_of alg (replicate 8 0 ++ (m_hash ++ drop (db_len alg em - s_len) (db_of alg mask em em_bits))))
    (h_of alg em)

-- emBits of the octets of a modulus, of which the first is not 0: modBits - 1 (8.1.2, step 2c)
abbrev pub em_bits_of : List ℕ → ℕ
em_bits_of modulus = bits_of modulus - 1

-- emLen: emBits / 8, rounded up
abbrev pub em_len_of : List ℕ → ℕ
em_len_of modulus = (em_bits_of modulus + 7) / 8

-- RSASSA-PSS-VERIFY says "valid signature" (8.1.2) of a message with this digest: `modulus` are the octets of n, of
-- which the first is not 0, and s is the signature
pub record IsPss (alg mask : Alg) (s_len : ℕ) (m_hash modulus : List ℕ) (e : ℕ) (s : List ℕ) : Type 0 where
  -- step 1
  pub octets : length s ≡ length modulus
  -- step 2b (5.2.2, step 1)
  pub representative : os2ip s < os2ip modulus
  -- step 2c (4.1, step 1)
  pub small : rsavp1 (os2ip modulus) e (os2ip s) < 256 ^ em_len_of modulus
  -- steps 2c and 3
  pub consistent : IsConsistent alg mask s_len m_hash (i2osp (rsavp1 (os2ip modulus) e (os2ip s)) (em_len_of modulus))
      (em_bits_of modulus)

-- the same, as a test
unfoldable pub is_pss : Alg → Alg → ℕ → List ℕ → List ℕ → ℕ → List ℕ → Bool
is_pss alg mask s_len m_hash modulus e s =
    length s == length modulus
    && nat_lt (os2ip s) (os2ip modulus)
    && nat_lt (rsavp1 (os2ip modulus) e (os2ip s)) (256 ^ em_len_of modulus)
    && is_consistent alg mask s_len m_hash (i2osp (rsavp1 (os2ip modulus) e (os2ip s)) (em_len_of modulus))
    (em_bits_of modulus)
