-- AlgorithmIdentifiers and object identifiers as worked rows spell them (RFC 5280, 4.1.1.2; RFC 5754, 2).
use Rattle.std.specs.Prelude.{ℕ, List, Some, None}
use Rattle.der_core.specs.Hex.{hex}
use Rattle.der_core.specs.Values.{AlgorithmValue}

-- an algorithm with NULL for its parameters, and without parameters
abbrev pub with_null : List ℕ → AlgorithmValue
with_null oid = record { oid = oid; parameters = Some (hex "0500") }

abbrev pub alone : List ℕ → AlgorithmValue
alone oid = record { oid = oid; parameters = None }

abbrev pub sha1 : List ℕ
sha1 = hex "2b0e03021a"

abbrev pub sha256 : List ℕ
sha256 = hex "608648016503040201"

abbrev pub sha384 : List ℕ
sha384 = hex "608648016503040202"

abbrev pub sha512 : List ℕ
sha512 = hex "608648016503040203"

-- SHA-512/256
abbrev pub sha512_256 : List ℕ
sha512_256 = hex "608648016503040206"
