-- What the words of a request state (RFC 3161 2.4.1).
use Rattle.std.specs.Prelude.{◌≡◌, ℕ, length, List, Option, Some, None, Ok}
use Rattle.hex.specs.Hex.{decode_of}
use Rattle.der_oid_text.specs.OidText.{Spells}
use Rattle.digests.specs.declared.value.Digest.{Digest}
use Rattle.digests.specs.Algorithms.{name_of, length_of}
use Rattle.digests.specs.Digests.{alg_of, octets_of}

-- the digest by the algorithm of this name that these hexadecimal digits state, with as many octets as the algorithm
-- gives
pub record IsDigest (name digits : List ℕ) (digest : Digest) : Type 0 where
  pub named : name ≡ name_of (alg_of digest)
  pub spelled : decode_of digits ≡ Ok (octets_of digest)
  pub sized : length (octets_of digest) ≡ length_of (alg_of digest)

-- the object identifier that a text states, if there is one
abbrev pub IsPolicy : (text : Option (List ℕ)) → Option (List ℕ) → Type 0
IsPolicy None None = Unit {0}
IsPolicy (Some t) (Some b) = Spells t b
IsPolicy None (Some b) = ⊥
IsPolicy (Some t) None = ⊥

-- the octets that hexadecimal digits state, if there are any
abbrev pub IsInHex : (digits : Option (List ℕ)) → Option (List ℕ) → Type 0
IsInHex None None = Unit {0}
IsInHex (Some d) (Some b) = decode_of d ≡ Ok b
IsInHex None (Some b) = ⊥
IsInHex (Some d) None = ⊥
