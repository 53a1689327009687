-- A line of a text of sums, as sha256sum and its kin write it: a digest in hexadecimal, two characters and a name (GNU
-- coreutils, md5sum invocation). It begins with a backslash exactly if there is one in the name as it stands there.
use Rattle.std.specs.Prelude.{ℕ, ◌+◌, ◌*◌, Bool, true, false, not, ◌&&◌, ◌||◌, List, [], ◌∷◌, codes, take, drop}
use Rattle.std.specs.Prelude.{is_ok, if◌then◌else◌}
use Rattle.std.specs.List.{list_any}
use Rattle.std.specs.Result.{result_unwrap_or}
use Rattle.hex.specs.Hex.{decode_of}
use Rattle.der_core.specs.Lists.{is_same}
use Rattle.digests.specs.declared.algorithm.Alg.{Alg}
use Rattle.digests.specs.declared.algorithm.Alg.TheVariants as algs
use Rattle.digests.specs.declared.value.Digest.{Digest}
use Rattle.digests.specs.declared.value.Digest.TheVariants as digests
use Rattle.digests.specs.Algorithms.{length_of}
use Rattle.evidence_sums.specs.Names.{is_backslash, is_escaped, unescaped}

-- what a line states: the digest of a file, and the file's name
pub record SumValue : Type 0 where
  pub digest : Digest
  pub name : List ℕ

-- how many digits a digest has
abbrev pub digits_of : Alg → ℕ
digits_of alg = 2 * length_of alg

abbrev pub is_marked : List ℕ → Bool
is_marked [] = false
is_marked (octet ∷ octets) = is_backslash octet

-- the line without the backslash at its beginning, if there is one
abbrev pub body_of : List ℕ → List ℕ
body_of line = if is_marked line then drop 1 line else line

abbrev pub digits_in : Alg → (line : List ℕ) → List ℕ
digits_in alg line = take (digits_of alg) (body_of line)

abbrev pub mode_in : Alg → (line : List ℕ) → List ℕ
mode_in alg line = take 2 (drop (digits_of alg) (body_of line))

-- the name as it stands in the line
abbrev pub escaped_in : Alg → (line : List ℕ) → List ℕ
escaped_in alg line = drop (digits_of alg + 2) (body_of line)

-- behind the digits a space stands, and a space for text or an asterisk for binary
abbrev pub is_mode : List ℕ → Bool
is_mode octets = is_same octets (codes "  ") || is_same octets (codes " *")

-- there is a backslash
abbrev pub has_pair : List ℕ → Bool
has_pair octets = list_any is_backslash octets

abbrev pub is_just : Bool → Bool → Bool
is_just true holds = holds
is_just false holds = not holds

-- digits in either case, as many as a digest has
abbrev pub is_sum_line : Alg → (line : List ℕ) → Bool
is_sum_line alg line = is_ok (decode_of (digits_in alg line)) && (is_mode (mode_in alg line)
    && (is_escaped (escaped_in alg line) && is_just (is_marked line) (has_pair (escaped_in alg line))))

-- the digest of these octets, if they are as many as the algorithm's have
abbrev pub digest_with : Alg → (octets : List ℕ) → Digest
digest_with algs.Sha1 octets = digests.Sha1 octets
digest_with algs.Sha224 octets = digests.Sha224 octets
digest_with algs.Sha256 octets = digests.Sha256 octets
digest_with algs.Sha384 octets = digests.Sha384 octets
digest_with algs.Sha512 octets = digests.Sha512 octets
digest_with algs.Sha512_224 octets = digests.Sha512_224 octets
digest_with algs.Sha512_256 octets = digests.Sha512_256 octets

abbrev pub name_in : Alg → (line : List ℕ) → List ℕ
name_in alg line = unescaped (escaped_in alg line)

-- what a line of sums states
abbrev pub sum_in : Alg → (line : List ℕ) → SumValue
sum_in alg line = record {
  digest = digest_with alg (result_unwrap_or (decode_of (digits_in alg line)) []);
  name = name_in alg line;
}
