-- The line that is written for a digest and a name, and that the definitions of its reading fit it.
use Rattle.std.specs.Prelude.{◌≡◌, ℕ, Bool, true, ◌||◌, ◌==◌, List, [], ◌∷◌, ◌++◌, length, codes, Ok}
use Rattle.std.specs.Prelude.{if◌then◌else◌}
use Rattle.std.specs.List.{list_any}
use Rattle.hex.specs.Hex.{decode_of}
use Rattle.digests.specs.declared.algorithm.Alg.{Alg}
use Rattle.digests.specs.Algorithms.{length_of}
use Rattle.evidence_sums.specs.SumLines.{SumValue, digest_with, is_mode, is_sum_line, sum_in}

-- what is written for an octet of a name: \\ for a backslash, \n for LF, \r for CR, and all others as they are
abbrev pub octet_escaped : ℕ → List ℕ
octet_escaped octet = if octet == 92 then codes "\\\\" else if octet == 10 then codes "\\n" else if octet == 13
    then codes "\\r" else octet ∷ []

abbrev pub escaped : (name : List ℕ) → List ℕ
escaped [] = []
escaped (octet ∷ octets) = octet_escaped octet ++ escaped octets

-- a name that can't be written as it is
abbrev pub needs_escape : (name : List ℕ) → Bool
needs_escape name = list_any (λ b. b == 92 || (b == 10 || b == 13)) name

abbrev pub mark_of : (name : List ℕ) → List ℕ
mark_of name = if needs_escape name then codes "\\" else []

-- the line is written for the digest and the name: a backslash if the name needs one, digits in either case, the mode,
-- and the name
pub record IsWrittenFor (alg : Alg) (line : List ℕ) (v : SumValue) : Type 0 where
  pub digits : List ℕ
  pub octets : List ℕ
  pub mode : List ℕ
  pub decodes : decode_of digits ≡ Ok octets
  pub whole : length octets ≡ length_of alg
  pub digest : v.digest ≡ digest_with alg octets
  pub moded : is_mode mode ≡ true
  pub is : line ≡ mark_of v.name ++ (digits ++ (mode ++ escaped v.name))

-- a line of sums is written for what it states, and for nothing else; and what is written is a line of sums
pub record ReadingFitsWriting : Type 0 where
  pub written : (alg : Alg) (line : List ℕ) → is_sum_line alg line ≡ true → IsWrittenFor alg line (sum_in alg line)
  pub read : (alg : Alg) (line : List ℕ) (v : SumValue) → IsWrittenFor alg line v
      → (is_sum_line alg line ≡ true) × (v ≡ sum_in alg line)
