-- Which words of a request state nothing, by the word that is named.
use Rattle.std.specs.Prelude.{◌≡◌, ◌⊎◌, ℕ, List, Option, true, IfSome, codes}
use Rattle.der_core.specs.Contents.{is_integer}
use Rattle.digests.specs.declared.algorithm.Alg.{Alg}
use Rattle.digests.specs.declared.value.Digest.{Digest}
use Rattle.digests.specs.Algorithms.{name_of}
use Rattle.cli_failures.specs.declared.failure.Failure.{Failure}
use Rattle.cli_failures.specs.Causes.{Names}
use Rattle.cli_values.specs.Values.{IsDigest, IsPolicy, IsInHex}

-- no algorithm has this name
abbrev pub RefusesAlg : (name : List ℕ) → Failure → Type 0
RefusesAlg name f = Names (codes "alg") f × ((alg : Alg) → name ≡ name_of alg → ⊥)

-- there is no such digest, or no algorithm has this name
abbrev pub RefusesDigest : (name digits : List ℕ) → Failure → Type 0
RefusesDigest name digits f = (Names (codes "digest") f × ((d : Digest) → IsDigest name digits d → ⊥))
    ⊎ RefusesAlg name f

-- the text isn't an object identifier
abbrev pub RefusesPolicy : (text : Option (List ℕ)) → Failure → Type 0
RefusesPolicy text f = Names (codes "policy") f × ((b : Option (List ℕ)) → IsPolicy text b → ⊥)

-- the digits aren't the contents of an INTEGER
abbrev pub RefusesNonce : (digits : Option (List ℕ)) → Failure → Type 0
RefusesNonce digits f = Names (codes "nonce") f
    × ((b : Option (List ℕ)) → IsInHex digits b → IfSome b (λ o. is_integer o ≡ true) → ⊥)
