-- The hash algorithm of an ESSCertIDv2 in its three states (RFC 5035, 4): its default is SHA-256 with absent
-- parameters.
use Rattle.std.specs.Prelude.{◌≡◌, Bool, true, false, ◌&&◌, Option, Some, None, is_none, IsSomeAnd}
use Rattle.der_core.specs.Lists.{is_same}
use Rattle.der_core.specs.Values.{AlgorithmValue}
use Rattle.digests.specs.declared.algorithm.Alg.TheVariants.{Sha256}
use Rattle.digests.specs.Algorithms.{contents_of}
use Rattle.ess_types.specs.declared.cert_id.HashAlgorithm.{HashAlgorithm}
use Rattle.ess_types.specs.declared.cert_id.HashAlgorithm.TheVariants.{Absent, SpelledDefault, Other}

-- the default, spelled out
abbrev pub is_default : AlgorithmValue → Bool
is_default a = is_none a.parameters && is_same a.oid (contents_of Sha256)

-- the state of an algorithm that may be absent; SHA-256 with NULL parameters is not the default
abbrev pub IsHashAlgorithm : Option AlgorithmValue → HashAlgorithm → Type 0
IsHashAlgorithm o Absent = o ≡ None
IsHashAlgorithm o SpelledDefault = IsSomeAnd o (λ a. is_default a ≡ true)
IsHashAlgorithm o (Other a) = (o ≡ Some a.now) × (is_default a.now ≡ false)
