-- The digest algorithm that an AlgorithmIdentifier names, as a function, and whether two algorithms are the same, as a
-- test.
use Rattle.std.specs.Prelude.{ℕ, Bool, true, List, [], ◌∷◌, Option, Some, None, if◌then◌else◌}
use Rattle.der_core.specs.Lists.{is_same}
use Rattle.der_core.specs.Values.{AlgorithmValue}
use Rattle.digests.specs.Algorithms.{contents_of}
use Rattle.digests.specs.declared.algorithm.Alg.{Alg}
use Rattle.digests.specs.declared.algorithm.Alg.TheVariants.{Sha1, Sha224, Sha256, Sha384, Sha512, Sha512_224}
use Rattle.digests.specs.declared.algorithm.Alg.TheVariants.{Sha512_256}

-- parameters, as a whole element, that are absent or NULL
abbrev pub is_plain : Option (List ℕ) → Bool
is_plain None = true
is_plain (Some p) = is_same p (5 ∷ 0 ∷ [])

-- the algorithm whose object identifier has these contents octets
abbrev pub alg_identified : List ℕ → Option Alg
alg_identified id = if is_same id (contents_of Sha1) then Some Sha1
    else if is_same id (contents_of Sha224) then Some Sha224
    else if is_same id (contents_of Sha256) then Some Sha256
    else if is_same id (contents_of Sha384) then Some Sha384
    else if is_same id (contents_of Sha512) then Some Sha512
    else if is_same id (contents_of Sha512_224) then Some Sha512_224
    else if is_same id (contents_of Sha512_256) then Some Sha512_256
    else None

-- the algorithm that an AlgorithmIdentifier names, if it names one
abbrev pub alg_named : AlgorithmValue → Option Alg
alg_named a = if is_plain a.parameters then alg_identified a.oid else None

-- the two algorithms are the same: they have the same object identifier
abbrev pub is_alg : Alg → Alg → Bool
is_alg a b = is_same (contents_of a) (contents_of b)
