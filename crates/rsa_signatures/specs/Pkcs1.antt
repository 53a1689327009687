-- RSASSA-PKCS1-v1_5 (RFC 8017 8.2), of the digest of a message. An octet is a number below 256, and an octet string the
-- list of its octets, the first one first.
use Rattle.std.specs.Prelude.{◌≡◌, ℕ, ◌+◌, ◌-◌, ◌%◌, ◌^◌, ◌<◌, ◌≤◌, Bool, ◌&&◌, ◌==◌, nat_lt, nat_le, List, ◌∷◌, ◌++◌}
use Rattle.std.specs.Prelude.{length, replicate}
use Rattle.der_core.specs.Hex.{hex}
use Rattle.der_core.specs.Lists.{is_same}
use Rattle.digests.specs.declared.algorithm.Alg.{Alg}
use Rattle.digests.specs.declared.algorithm.Alg.TheVariants.{Sha1, Sha224, Sha256, Sha384, Sha512, Sha512_224}
use Rattle.digests.specs.declared.algorithm.Alg.TheVariants.{Sha512_256}
use Rattle.big_numbers.specs.Numbers.{i2osp, os2ip}

-- RSAVP1 (5.2.2), step 2: the message representative of a signature representative s
abbrev pub rsavp1 : ℕ → ℕ → ℕ → ℕ
rsavp1 n e s = s ^ e % n

-- what is before H in the DER encoding T of a DigestInfo (9.2, note 1)
abbrev pub info_prefix : Alg → List ℕ
info_prefix Sha1 = hex "3021300906052b0e03021a05000414"
info_prefix Sha224 = hex "302d300d06096086480165030402040500041c"
info_prefix Sha256 = hex "3031300d060960864801650304020105000420"
info_prefix Sha384 = hex "3041300d060960864801650304020205000430"
info_prefix Sha512 = hex "3051300d060960864801650304020305000440"
info_prefix Sha512_224 = hex "302d300d06096086480165030402050500041c"
info_prefix Sha512_256 = hex "3031300d060960864801650304020605000420"

-- EMSA-PKCS1-v1_5-ENCODE (9.2), steps 1 and 2: T of the digest H
abbrev pub digest_info : Alg → List ℕ → List ℕ
digest_info alg h = info_prefix alg ++ h

-- steps 4 and 5: EM = 0x00 || 0x01 || PS || 0x00 || T
abbrev pub emsa_pkcs1_v1_5 : List ℕ → ℕ → List ℕ
emsa_pkcs1_v1_5 t em_len = 0x00 ∷ 0x01 ∷ replicate (em_len - length t - 3) 0xff ++ 0x00 ∷ t

-- RSASSA-PKCS1-V1_5-VERIFY says "valid signature" (8.2.2) of a message with the digest H: `modulus` are the octets of
-- n, of which the first is not 0, so that k is how many these are, and s is the signature
pub record IsPkcs1 (alg : Alg) (h modulus : List ℕ) (e : ℕ) (s : List ℕ) : Type 0 where
  -- step 1
  pub octets : length s ≡ length modulus
  -- step 2b (5.2.2, step 1)
  pub representative : os2ip s < os2ip modulus
  -- step 3 (9.2, step 3)
  pub room : length (digest_info alg h) + 11 ≤ length modulus
  -- steps 2c and 4
  pub encoded : i2osp (rsavp1 (os2ip modulus) e (os2ip s)) (length modulus)
      ≡ emsa_pkcs1_v1_5 (digest_info alg h) (length modulus)

-- the same, as a test
unfoldable pub is_pkcs1 : Alg → List ℕ → List ℕ → ℕ → List ℕ → Bool
is_pkcs1 alg h modulus e s =
    length s == length modulus
    && nat_lt (os2ip s) (os2ip modulus)
    && nat_le (length (digest_info alg h) + 11) (length modulus)
    && is_same (i2osp (rsavp1 (os2ip modulus) e (os2ip s)) (length modulus))
    (emsa_pkcs1_v1_5 (digest_info alg h) (length modulus))
