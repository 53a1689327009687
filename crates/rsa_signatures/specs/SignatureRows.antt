-- Worked rows of signatures. The keys and signatures were made for them, by arithmetic on integers of Python and the
-- hash functions of its hashlib; OpenSSL 3.0 verifies those that are good, and none of the others.
use Rattle.std.specs.Prelude.{◌≡◌, ℕ, true, false, List, [], ◌∷◌, ◌++◌}
use Rattle.der_core.specs.Hex.{hex}
use Rattle.digests.specs.declared.algorithm.Alg.TheVariants.{Sha1, Sha256}
use Rattle.rsa_signatures.specs.Pkcs1.{digest_info, emsa_pkcs1_v1_5, is_pkcs1}
use Rattle.rsa_signatures.specs.Pss.{is_pss}

-- a modulus of 512 bits; its exponent is 3
abbrev pub modulus_512 : List ℕ
modulus_512 =
    hex "82a57365c33a8badca708043132c1e514c30a18fe360977f00c7085b598928c128c16b6d3d341b2b2fa768099e4791ed"
    ++ hex "6e3f2187a5ba49ca9485c32cbab2ea61"

-- the digests of abc (FIPS 180-4, examples)
abbrev pub abc_sha1 : List ℕ
abc_sha1 =
    hex "a9993e364706816aba3e25717850c26c9cd0d89d"

abbrev pub abc_sha256 : List ℕ
abc_sha256 =
    hex "ba7816bf8f01cfea414140de5dae2223b00361a396177a9cb410ff61f20015ad"

-- signatures by RSASSA-PKCS1-v1_5 of abc
abbrev pub by_sha256 : List ℕ
by_sha256 =
    hex "3903331e5365395af2ee13a0750246673b23cd09e21a2314a01fa11acc0e497989c94c496e21176355afc2058d7e626e"
    ++ hex "4f71f9bec71bd4668f8e886257d401a7"

abbrev pub by_sha1 : List ℕ
by_sha1 =
    hex "6d426fd5809bbc99205960c8a82dd6b7cf4f66bc527091ca27e7fb40d0da2e89e1249a2031aec21ad1aa97afc80ad86c"
    ++ hex "bd9fcca82a5bbcf280a4b3571736ad39"

-- the first one, with the modulus added to its number
abbrev pub above_modulus : List ℕ
above_modulus =
    hex "bba8a684169fc508bd5e93e3882e64b887546e99c57aba93a0e6a9762597723ab28ab7b6ab55328e85572a0f2bc5f45b"
    ++ hex "bdb11b466cd61e3124144b8f1286ec08"

-- one of a DigestInfo without NULL
abbrev pub without_null : List ℕ
without_null =
    hex "80045a51ffa4509a6500283ac98c61cad93f8fd10bdf868e1c789b26eb0910faac3e331262ed451161a59e8f5f84e67a"
    ++ hex "9d8f412b842176ed91fc9fc6ea200401"

-- one of eight octets FF, with octets 0 behind T
abbrev pub eight_and_more : List ℕ
eight_and_more =
    hex "0c19fa0a0f5c2bd792707f896823d413d29d3ac24bf2c8692c467b2ab2571dbd51860b13ddf5cd2e0688ee774ec0bf5e"
    ++ hex "9cc01306177fb0478160fd4a1981ee4b"

-- signatures by RSASSA-PSS of abc, with SHA-1 and a salt of 20 octets, and MGF1 by SHA-1
abbrev pub salted : List ℕ
salted =
    hex "16b924d05626d5fb4549601c310df74a3f0bacb8c7d674362e9f7fad9b09e32154ce71ff5b6dc0fdc57f9178dda1bc71"
    ++ hex "c58b6b6b9f47b37574ee42e6d62337fc"

-- one with MGF1 by SHA-256
abbrev pub masked_by_sha256 : List ℕ
masked_by_sha256 =
    hex "425ed8eaeb4c42c5e3c268ff1d3b512caa046623d2c1915353c6f086de9897a480578d8e03fe5139d70f95441972686b"
    ++ hex "05fa3d2b02be958e3c5959511bc04bb8"

-- one with 02 in the place of 01 before the salt
abbrev pub two_before_salt : List ℕ
two_before_salt =
    hex "5b5f7c07543a61e7e1d9dbef0ab773c9086f6ca7edb2f835c1c4e43db0e3844afab0342a86889074f00cb17e5b7182ad"
    ++ hex "6ee986b81e704b1719f542b62db52b7b"

-- a modulus of 513 bits, so that an encoded message has an octet less
abbrev pub modulus_513 : List ℕ
modulus_513 =
    hex "0156b267e4d44f37ecd8842ee608033460655710aefa1cee5460cc270bad35aeb6c4ddfff52e7bb3c7f489b510199f3c"
    ++ hex "8ced036f12d114a72df3d3cb67cc8b5c75"

abbrev pub salted_513 : List ℕ
salted_513 =
    hex "0090ae33e7d91a1328426351d6cff638ec12d5e694e2cf3dc8233c5d1185d2fabdf8d94b2eb95befe58313e571c4899d"
    ++ hex "244e88d210c97707f12b1ddfa90c64ab02"

-- one of an encoded message with an octet 01 before it
abbrev pub larger_513 : List ℕ
larger_513 =
    hex "0047ae926f063341d7bdf5b5336ead6cf51bcd43e771736b52df0a4f0722067be536eec77f5a09a4e6ee67744baf102c"
    ++ hex "41a3c005287c51b13659cbb3fe51b029c8"

-- one of an encoded message whose leftmost bit is 1
abbrev pub leftmost_bit : List ℕ
leftmost_bit =
    hex "5cf69c2918c89ce21152f96f0d47e9aeb3f5b59fb9ddc54cc0f61f03a5a59c7ca2d3c0d361c95e605afa2036969f8c4a"
    ++ hex "c616d1a55684c70af9e5aac6c2d571e4"

-- one without a salt
abbrev pub unsalted : List ℕ
unsalted =
    hex "2eac5d8ed3e6525981e1103aa6662b4c9bca401b87e467ff961d62209eb97671655ca0383b6a9271e28c1e87b7e948c5"
    ++ hex "ba3c914db357bce3195600235e368ff0"

pub record InfoRows : Type 0 where
  -- at least eight octets FF
  pub encoded : emsa_pkcs1_v1_5 (0xaa ∷ 0xbb ∷ []) 13 ≡ hex "0001ffffffffffffffff00aabb"
  pub longer : emsa_pkcs1_v1_5 (0xaa ∷ 0xbb ∷ []) 15 ≡ hex "0001ffffffffffffffffffff00aabb"
  pub sha1 : digest_info Sha1 abc_sha1 ≡ hex "3021300906052b0e03021a05000414a9993e364706816aba3e25717850c26c9cd0d89d"

pub record Pkcs1Rows : Type 0 where
  pub good : is_pkcs1 Sha256 abc_sha256 modulus_512 3 by_sha256 ≡ true
  pub good_by_sha1 : is_pkcs1 Sha1 abc_sha1 modulus_512 3 by_sha1 ≡ true
  -- another digest, and another exponent
  pub another_digest : is_pkcs1 Sha1 (0xa9 ∷ []) modulus_512 3 by_sha1 ≡ false
  pub exponent_1 : is_pkcs1 Sha256 abc_sha256 modulus_512 1 by_sha256 ≡ false
  pub exponent_5 : is_pkcs1 Sha256 abc_sha256 modulus_512 5 by_sha256 ≡ false
  -- an octet 0 before the signature
  pub longer : is_pkcs1 Sha256 abc_sha256 modulus_512 3 (0x00 ∷ by_sha256) ≡ false
  -- the same number modulo n, but not below it
  pub above : is_pkcs1 Sha256 abc_sha256 modulus_512 3 above_modulus ≡ false
  pub no_null : is_pkcs1 Sha256 abc_sha256 modulus_512 3 without_null ≡ false
  pub behind : is_pkcs1 Sha1 abc_sha1 modulus_512 3 eight_and_more ≡ false

pub record PssRows : Type 0 where
  pub good : is_pss Sha1 Sha1 20 abc_sha1 modulus_512 3 salted ≡ true
  pub good_by_two : is_pss Sha1 Sha256 20 abc_sha1 modulus_512 3 masked_by_sha256 ≡ true
  -- an encoded message of an octet less than the modulus
  pub good_513 : is_pss Sha1 Sha1 20 abc_sha1 modulus_513 3 salted_513 ≡ true
  pub good_unsalted : is_pss Sha1 Sha1 0 abc_sha1 modulus_512 3 unsalted ≡ true
  -- MGF1 by another hash function
  pub another_mask : is_pss Sha1 Sha256 20 abc_sha1 modulus_512 3 salted ≡ false
  -- another length of the salt
  pub another_salt : is_pss Sha1 Sha1 20 abc_sha1 modulus_512 3 unsalted ≡ false
  pub shorter_salt : is_pss Sha1 Sha1 19 abc_sha1 modulus_512 3 salted ≡ false
  pub no_one : is_pss Sha1 Sha1 20 abc_sha1 modulus_512 3 two_before_salt ≡ false
  pub leftmost : is_pss Sha1 Sha1 20 abc_sha1 modulus_512 3 leftmost_bit ≡ false
  pub larger : is_pss Sha1 Sha1 20 abc_sha1 modulus_513 3 larger_513 ≡ false
