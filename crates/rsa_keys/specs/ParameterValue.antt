-- The parameters of RSASSA-PSS (RFC 4055 3.1; RFC 8017 A.2.3), and their encoding.
use Rattle.std.specs.Prelude.{◌≡◌, ℕ, ◌<◌, ◌≤◌, List, [], ◌∷◌, ◌++◌, Option, Some, None, IfSome, length, slice_index}
use Rattle.der_core.specs.Hex.{hex}
use Rattle.der_core.specs.Element.{el}
use Rattle.der_core.specs.Values.{AlgorithmValue, GoodAlgorithm, HasLength, IsInteger, algorithm_element}
use Rattle.digests.specs.declared.algorithm.Alg.{Alg}
use Rattle.digests.specs.declared.algorithm.Alg.TheVariants.{Sha1}
use Rattle.digests.specs.Algorithms.{Names}
use Rattle.big_numbers.specs.Numbers.{os2ip}
use Rattle.rsa_keys.specs.declared.parameters.PssParameters.{PssParameters}

-- RSASSA-PSS-params ::= SEQUENCE { hashAlgorithm [0] HashAlgorithm DEFAULT sha1Identifier,
--   maskGenAlgorithm [1] MaskGenAlgorithm DEFAULT mgf1SHA1Identifier, saltLength [2] INTEGER DEFAULT 20,
--   trailerField [3] INTEGER DEFAULT 1 }, with explicit tags
-- Each may be absent; one that is there may be the default.
pub record PssParts : Type 0 where
  pub hash : Option AlgorithmValue
  pub mask : Option AlgorithmValue
  pub salt : Option (List ℕ)
  pub trailer : Option (List ℕ)

abbrev pub explicit_algorithm : ℕ → Option AlgorithmValue → List ℕ
explicit_algorithm tag None = []
explicit_algorithm tag (Some a) = el tag (algorithm_element a)

abbrev pub explicit_integer : ℕ → Option (List ℕ) → List ℕ
explicit_integer tag None = []
explicit_integer tag (Some c) = el tag (el 0x02 c)

abbrev pub pss_parts : PssParts → List ℕ
pss_parts p = explicit_algorithm 0xa0 p.hash ++ (explicit_algorithm 0xa1 p.mask
    ++ (explicit_integer 0xa2 p.salt ++ explicit_integer 0xa3 p.trailer))

abbrev pub GoodExplicitAlgorithm : AlgorithmValue → Type 0
GoodExplicitAlgorithm a = GoodAlgorithm a × HasLength (algorithm_element a)

abbrev pub GoodExplicitInteger : List ℕ → Type 0
GoodExplicitInteger c = IsInteger c × HasLength (el 0x02 c)

pub record GoodPss (p : PssParts) : Type 0 where
  pub hash : IfSome p.hash GoodExplicitAlgorithm
  pub mask : IfSome p.mask GoodExplicitAlgorithm
  pub salt : IfSome p.salt GoodExplicitInteger
  pub trailer : IfSome p.trailer GoodExplicitInteger
  pub size : HasLength (pss_parts p)

-- the hash function that a part names: SHA-1, if it is absent
abbrev pub IsHash : Option AlgorithmValue → Alg → Type 0
IsHash None alg = alg ≡ Sha1
IsHash (Some a) alg = Names a.oid a.parameters alg

-- the hash function of MGF1, id-mgf1, 1.2.840.113549.1.1.8, whose parameters are an AlgorithmIdentifier
abbrev pub IsMask : Option AlgorithmValue → Alg → Type 0
IsMask None alg = alg ≡ Sha1
IsMask (Some a) alg = (b : AlgorithmValue) × (a.oid ≡ hex "2a864886f70d010108")
    × (a.parameters ≡ Some (algorithm_element b)) × GoodAlgorithm b × Names b.oid b.parameters alg

-- how many octets of salt: not below 0, and stated by eight octets at most
abbrev pub IsSalt : Option (List ℕ) → ℕ → Type 0
IsSalt None salt = salt ≡ 20
IsSalt (Some c) salt = (slice_index c 0 < 128) × (length c ≤ 8) × (salt ≡ os2ip c)

-- trailerFieldBC
abbrev pub IsTrailer : Option (List ℕ) → Type 0
IsTrailer None = Unit {0}
IsTrailer (Some c) = c ≡ 0x01 ∷ []

-- octets encode these parameters
pub record IsPss (octets : List ℕ) (v : PssParameters) : Type 0 where
  pub parts : PssParts
  pub good : GoodPss parts
  pub whole : octets ≡ el 0x30 (pss_parts parts)
  pub hash : IsHash parts.hash v.hash
  pub mask : IsMask parts.mask v.mask
  pub salt : IsSalt parts.salt v.salt
  pub trailer : IsTrailer parts.trailer
