-- The digest algorithms: identifier, length, name, and when an AlgorithmIdentifier names one.
use Rattle.std.specs.Prelude.{◌≡◌, ℕ, List, [], ◌∷◌, Option, None, Some, codes}
use Rattle.digests.specs.declared.algorithm.Alg.{Alg}
use Rattle.digests.specs.declared.algorithm.Alg.TheVariants.{Sha1, Sha224, Sha256, Sha384, Sha512, Sha512_224}
use Rattle.digests.specs.declared.algorithm.Alg.TheVariants.{Sha512_256}

-- the contents octets of the object identifier: 1.3.14.3.2.26 (RFC 3370, 2.1) for SHA-1, and for the others
-- 2.16.840.1.101.3.4.2 followed by 4, 1, 2, 3 (RFC 5754, 2) and 5, 6 (RFC 8017, B.1)
abbrev pub contents_of : Alg → List ℕ
contents_of Sha1 = 0x2b ∷ 0x0e ∷ 0x03 ∷ 0x02 ∷ 0x1a ∷ []
contents_of Sha224 = 0x60 ∷ 0x86 ∷ 0x48 ∷ 0x01 ∷ 0x65 ∷ 0x03 ∷ 0x04 ∷ 0x02 ∷ 0x04 ∷ []
contents_of Sha256 = 0x60 ∷ 0x86 ∷ 0x48 ∷ 0x01 ∷ 0x65 ∷ 0x03 ∷ 0x04 ∷ 0x02 ∷ 0x01 ∷ []
contents_of Sha384 = 0x60 ∷ 0x86 ∷ 0x48 ∷ 0x01 ∷ 0x65 ∷ 0x03 ∷ 0x04 ∷ 0x02 ∷ 0x02 ∷ []
contents_of Sha512 = 0x60 ∷ 0x86 ∷ 0x48 ∷ 0x01 ∷ 0x65 ∷ 0x03 ∷ 0x04 ∷ 0x02 ∷ 0x03 ∷ []
contents_of Sha512_224 = 0x60 ∷ 0x86 ∷ 0x48 ∷ 0x01 ∷ 0x65 ∷ 0x03 ∷ 0x04 ∷ 0x02 ∷ 0x05 ∷ []
contents_of Sha512_256 = 0x60 ∷ 0x86 ∷ 0x48 ∷ 0x01 ∷ 0x65 ∷ 0x03 ∷ 0x04 ∷ 0x02 ∷ 0x06 ∷ []

-- how many octets a digest has (FIPS 180-4, figure 1)
abbrev pub length_of : Alg → ℕ
length_of Sha1 = 20
length_of Sha224 = 28
length_of Sha256 = 32
length_of Sha384 = 48
length_of Sha512 = 64
length_of Sha512_224 = 28
length_of Sha512_256 = 32

-- the name on the command line and in what is printed
abbrev pub name_of : Alg → List ℕ
name_of Sha1 = codes "sha1"
name_of Sha224 = codes "sha224"
name_of Sha256 = codes "sha256"
name_of Sha384 = codes "sha384"
name_of Sha512 = codes "sha512"
name_of Sha512_224 = codes "sha512-224"
name_of Sha512_256 = codes "sha512-256"

-- parameters, as a whole element, that have no meaning: absent or NULL, which readers must treat alike (RFC 5754, 2)
abbrev pub IsPlain : Option (List ℕ) → Type 0
IsPlain None = Unit {0}
IsPlain (Some p) = p ≡ 5 ∷ 0 ∷ []

-- an AlgorithmIdentifier with this object identifier and these parameters names this algorithm
pub record Names (identifier : List ℕ) (parameters : Option (List ℕ)) (alg : Alg) : Type 0 where
  pub contents : identifier ≡ contents_of alg
  pub plain : IsPlain parameters
