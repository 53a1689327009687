-- Worked rows of keys and parameters: the SubjectPublicKeyInfo of a key of 512 bits, and of others that differ in one
-- place. The first was made with this modulus by Python, and `openssl pkey` reads it.
use Rattle.std.specs.Prelude.{◌≡◌, ℕ, true, false, List, ◌++◌, Option, Some, None}
use Rattle.der_core.specs.Hex.{hex}
use Rattle.rsa_keys.specs.declared.key.Scheme.TheVariants.{Any, Pss, PssWith}
use Rattle.rsa_keys.specs.declared.parameters.PssParameters.{PssParameters}
use Rattle.digests.specs.declared.algorithm.Alg.TheVariants.{Sha1, Sha256}
use Rattle.rsa_keys.specs.KeyValue.{KeyValue, is_pss_allowed}
use Rattle.rsa_keys.specs.ParameterReading.{pss_in}
use Rattle.rsa_keys.specs.KeyReading.{key_in, unsigned}

abbrev pub modulus : List ℕ
modulus =
    hex "82a57365c33a8badca708043132c1e514c30a18fe360977f00c7085b598928c128c16b6d3d341b2b2fa768099e4791ed"
    ++ hex "6e3f2187a5ba49ca9485c32cbab2ea61"

-- half of it, of 511 bits, and the even number that follows it
abbrev pub half : List ℕ
half =
    hex "4152b9b2e19d45d6e538402189960f28a61850c7f1b04bbf8063842dacc494609460b5b69e9a0d9597d3b404cf23c8f6"
    ++ hex "b71f90c3d2dd24e54a42e1965d597531"

abbrev pub even : List ℕ
even =
    hex "82a57365c33a8badca708043132c1e514c30a18fe360977f00c7085b598928c128c16b6d3d341b2b2fa768099e4791ed"
    ++ hex "6e3f2187a5ba49ca9485c32cbab2ea62"

-- a key of which these octets are before the modulus and behind it
abbrev pub key_around : List ℕ → List ℕ → Option KeyValue
key_around before behind = key_in (before ++ (modulus ++ behind))

-- what is before the modulus, where the exponent is of one octet
abbrev pub front : List ℕ
front = hex "305a300d06092a864886f70d01010105000349003046024100"

-- parameters: SHA-256, MGF1 with it, a salt of 32 octets
abbrev pub sha256_32 : List ℕ
sha256_32 =
    hex "3034a00f300d06096086480165030402010500a11c301a06092a864886f70d010108300d06096086480165030402010500a203020120"

abbrev pub by_sha256 : PssParameters
by_sha256 = record { hash = Sha256; mask = Sha256; salt = 32 }

abbrev pub by_sha1 : PssParameters
by_sha1 = record { hash = Sha1; mask = Sha1; salt = 20 }

pub record ParameterRows : Type 0 where
  pub defaults : pss_in (hex "3000") ≡ Some by_sha1
  -- defaults that are there
  pub spelled : pss_in (hex "300aa203020114a303020101") ≡ Some by_sha1
  pub three : pss_in sha256_32 ≡ Some by_sha256
  -- another trailer
  pub trailer : pss_in (hex "3005a303020102") ≡ None
  -- a salt of -1 octets
  pub negative : pss_in (hex "3005a2030201ff") ≡ None
  -- the salt before the hash function
  pub order : pss_in (hex "3016a203020114a00f300d06096086480165030402010500") ≡ None
  -- MGF1 without a hash function, and another mask generation function
  pub no_hash : pss_in (hex "300fa10d300b06092a864886f70d010108") ≡ None
  pub another : pss_in (hex "301ea11c301a06092a864886f70d010109300d06096086480165030402010500") ≡ None
  -- an octet behind
  pub behind : pss_in (hex "300000") ≡ None

pub record SchemeRows : Type 0 where
  pub any : is_pss_allowed Any by_sha1 ≡ true
  pub same : is_pss_allowed (PssWith by_sha256) by_sha256 ≡ true
  -- a longer salt, and a shorter one
  pub longer : is_pss_allowed (PssWith by_sha256) (record by_sha256 { salt = 33 }) ≡ true
  pub shorter : is_pss_allowed (PssWith by_sha256) (record by_sha256 { salt = 31 }) ≡ false
  pub another_mask : is_pss_allowed (PssWith by_sha256) (record by_sha256 { mask = Sha1 }) ≡ false

pub record KeyRows : Type 0 where
  pub exponent_3 : key_around front (hex "020103") ≡ Some (record { scheme = Any; modulus = modulus; exponent = 3 })
  -- an exponent of 64 bits
  pub longest : key_around (hex "3062300d06092a864886f70d0101010500035100304e024100") (hex "020900ffffffffffffffff")
      ≡ Some (record { scheme = Any; modulus = modulus; exponent = 18446744073709551615 })
  pub for_pss : key_around (hex "3058300b06092a864886f70d01010a0349003046024100") (hex "020103")
      ≡ Some (record { scheme = Pss; modulus = modulus; exponent = 3 })
  -- with parameters, which `openssl pkey` reads too
  pub with_parameters :
      key_around (hex "30818e304106092a864886f70d01010a" ++ (sha256_32 ++ hex "0349003046024100")) (hex "020103")
      ≡ Some (record { scheme = PssWith by_sha256; modulus = modulus; exponent = 3 })
  -- rsaEncryption without NULL
  pub no_null : key_around (hex "3058300b06092a864886f70d0101010349003046024100") (hex "020103") ≡ None
  -- another algorithm: id-RSAES-OAEP
  pub another : key_around (hex "3058300b06092a864886f70d0101070349003046024100") (hex "020103") ≡ None
  -- an exponent of 1, of 4, of 2 ^ 64 + 1
  pub exponent_1 : key_around front (hex "020101") ≡ None
  pub exponent_4 : key_around front (hex "020104") ≡ None
  pub longer : key_around (hex "3062300d06092a864886f70d0101010500035100304e024100") (hex "0209010000000000000001")
      ≡ None
  -- an exponent after an octet 0 that it need not have
  pub padded : key_around (hex "305b300d06092a864886f70d0101010500034a003047024100") (hex "02020003") ≡ None
  -- a modulus without the octet 0 that shows its sign, and so below 0
  pub negative : key_around (hex "3059300d06092a864886f70d010101050003480030450240") (hex "020103") ≡ None
  -- an octet behind the two numbers
  pub behind : key_around (hex "305b300d06092a864886f70d0101010500034a003046024100") (hex "02010300") ≡ None
  -- a modulus that is even, or of 511 bits
  pub even_modulus : key_in (front ++ (even ++ hex "020103")) ≡ None
  pub short_modulus : key_in (hex "3059300d06092a864886f70d010101050003480030450240" ++ (half ++ hex "020103")) ≡ None
  -- numbers
  pub above_127 : unsigned (hex "0080") ≡ Some (hex "80")
  pub zero : unsigned (hex "00") ≡ None
