-- Public keys of RSA in a SubjectPublicKeyInfo (RFC 5280 4.1.2.7; RFC 3279 2.3.1; RFC 4055 1.2), their encoding, and
-- the limits of those that are judged.
use Rattle.std.specs.Prelude.{◌≡◌, ℕ, ◌%◌, ◌<◌, ◌≤◌, Bool, true, ◌&&◌, nat_le, List, [], ◌∷◌, ◌++◌, Some, None, length}
use Rattle.std.specs.Prelude.{nat_lt, slice_index}
use Rattle.std.specs.Prelude.{if◌then◌else◌}
use Rattle.der_core.specs.Hex.{hex}
use Rattle.der_core.specs.Element.{el}
use Rattle.der_core.specs.Values.{AlgorithmValue, GoodAlgorithm, HasLength, algorithm_element}
use Rattle.big_numbers.specs.Numbers.{bits_of, os2ip}
use Rattle.rsa_keys.specs.declared.key.Scheme.{Scheme}
use Rattle.rsa_keys.specs.declared.key.Scheme.TheVariants.{Any, Pss, PssWith}
use Rattle.rsa_keys.specs.declared.parameters.PssParameters.{PssParameters}
use Rattle.rsa_keys.specs.ParameterValue.{IsPss}
use Rattle.digests.specs.Named.{is_alg}

-- the contents of the INTEGER with these octets, of which the first is not 0 (X.690 8.3): behind an octet 0, if their
-- first bit is 1
abbrev pub positive : List ℕ → List ℕ
positive [] = []
positive (x ∷ xs) = if nat_lt x 128 then x ∷ xs else 0x00 ∷ x ∷ xs

-- RSAPublicKey ::= SEQUENCE { modulus INTEGER, publicExponent INTEGER } (RFC 8017 A.1.1), of the contents of the two
abbrev pub public_key : List ℕ → List ℕ → List ℕ
public_key n e = el 0x30 (el 0x02 n ++ el 0x02 e)

-- the algorithm of a key: rsaEncryption, 1.2.840.113549.1.1.1, with parameters NULL; id-RSASSA-PSS,
-- 1.2.840.113549.1.1.10, without parameters, or with those of RSASSA-PSS
abbrev pub IsAlgorithm : Scheme → AlgorithmValue → Type 0
IsAlgorithm Any a = (a.oid ≡ hex "2a864886f70d010101") × (a.parameters ≡ Some (0x05 ∷ 0x00 ∷ []))
IsAlgorithm Pss a = (a.oid ≡ hex "2a864886f70d01010a") × (a.parameters ≡ None)
IsAlgorithm (PssWith v) a = (p : List ℕ) × (a.oid ≡ hex "2a864886f70d01010a") × (a.parameters ≡ Some p) × IsPss p v

-- the signatures by RSASSA-PSS that a key is for: with parameters of its own those by the same hash functions and with
-- a salt that is at least as long (RFC 4055 3.3)
abbrev pub is_pss_allowed : Scheme → PssParameters → Bool
is_pss_allowed Any v = true
is_pss_allowed Pss v = true
is_pss_allowed (PssWith k) v = is_alg k.hash v.hash && is_alg k.mask v.mask && nat_le k.salt v.salt

-- SubjectPublicKeyInfo ::= SEQUENCE { algorithm AlgorithmIdentifier, subjectPublicKey BIT STRING }, whose contents
-- begin with the number of unused bits
abbrev pub key_info : AlgorithmValue → List ℕ → List ℕ
key_info algorithm key = el 0x30 (algorithm_element algorithm ++ el 0x03 (0x00 ∷ key))

-- the keys that are judged, given the octets of n and e: n is odd, of 512 to 8,192 bits; e is odd, at least 3 and of 64
-- bits at most
pub record IsJudged (n e : List ℕ) : Type 0 where
  pub first : 0 < slice_index n 0
  pub least : 512 ≤ bits_of n
  pub most : length n ≤ 1024
  pub odd : os2ip n % 2 ≡ 1
  pub exponent_first : 0 < slice_index e 0
  pub exponent_most : length e ≤ 8
  pub exponent_odd : os2ip e % 2 ≡ 1
  pub exponent_least : 3 ≤ os2ip e

-- a key: the schemes that it is for, the octets of n, and e
pub record KeyValue : Type 0 where
  pub scheme : Scheme
  pub modulus : List ℕ
  pub exponent : ℕ

-- octets are the SubjectPublicKeyInfo of the key, which is judged
pub record IsRsaKey (octets : List ℕ) (key : KeyValue) : Type 0 where
  pub algorithm : AlgorithmValue
  pub exponent : List ℕ
  pub is : IsAlgorithm key.scheme algorithm
  pub number : key.exponent ≡ os2ip exponent
  pub judged : IsJudged key.modulus exponent
  -- (four length octets state how many octets an element has)
  pub good : GoodAlgorithm algorithm
  pub size :
      HasLength (algorithm_element algorithm ++ el 0x03 (0x00 ∷ public_key (positive key.modulus) (positive exponent)))
  pub whole : octets ≡ key_info algorithm (public_key (positive key.modulus) (positive exponent))
