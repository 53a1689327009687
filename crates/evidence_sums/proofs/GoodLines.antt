-- What is known of a line of sums.
use Rattle.std.proofs.Common.{◌≡◌, ℕ, ◌+◌, ◌≤◌, Bool, true, false, List, length, drop}
use Rattle.std.proofs.Common.{Result, Ok, Err, refl, sym, ap, ◌∙◌, arith, length-drop}
use Rattle.std.specs.Prelude.{◌&&◌, ◌||◌, is_ok, codes}
use Rattle.std.proofs.lemmas.List.{length-take}
use Rattle.hex.specs.Hex.{decode_of}
use Rattle.hex.specs.declared.error.FromHexError.{FromHexError}
use Rattle.hex.proofs.HexLemmas.{decode_of-ok}
use Rattle.der_core.specs.Lists.{is_same}
use Rattle.der_core.proofs.Encoded.{same}
use Rattle.digests.specs.declared.algorithm.Alg.{Alg}
use Rattle.digests.specs.declared.value.Digest.{Digest}
use Rattle.digests.specs.declared.value.Digest.TheVariants as digests
use Rattle.digests.specs.Algorithms.{length_of}
use Rattle.digests.specs.Digests.{alg_of, octets_of}
use Rattle.evidence_sums.specs.Names.{is_name, is_escaped}
use Rattle.evidence_sums.specs.SumLines.{digits_of, is_marked, body_of, digits_in, mode_in, escaped_in, is_mode}
use Rattle.evidence_sums.specs.SumLines.{has_pair}
use Rattle.evidence_sums.specs.SumLines.{is_just, is_sum_line, digest_with, name_in, sum_in}
use Rattle.evidence_sums.specs.Written.{needs_escape}
use Rattle.evidence_sums.proofs.Escapes.{escaped_back, pair_needed, unescaped_plain}
use Rattle.evidence_sums.proofs.Named.{name_stands}

-- the four tests of a line
pub record IsGood (alg : Alg) (line : List ℕ) : Type 0 where
  pub decodes : is_ok (decode_of (digits_in alg line)) ≡ true
  pub moded : is_mode (mode_in alg line) ≡ true
  pub stands : is_escaped (escaped_in alg line) ≡ true
  pub just : is_just (is_marked line) (has_pair (escaped_in alg line)) ≡ true

four : (a b c d : Bool) → (a && (b && (c && d))) ≡ true → (a ≡ true) × (b ≡ true) × (c ≡ true) × (d ≡ true)
four true true true true e = (refl, refl, refl, refl)
four true true true false e = absurd (let no : false ≡ true = e in cc)
four true true false d e = absurd (let no : false ≡ true = e in cc)
four true false c d e = absurd (let no : false ≡ true = e in cc)
four false b c d e = absurd (let no : false ≡ true = e in cc)

pub good : (alg : Alg) (line : List ℕ) → is_sum_line alg line ≡ true → IsGood alg line
good alg line e =
    let all = four (is_ok (decode_of (digits_in alg line))) (is_mode (mode_in alg line))
    (is_escaped (escaped_in alg line)) (is_just (is_marked line) (has_pair (escaped_in alg line))) e in
    record { decodes = all.0; moded = all.1; stands = all.2; just = all.3 }

pub joined : (alg : Alg) (line : List ℕ) → IsGood alg line → is_sum_line alg line ≡ true
joined alg line g = rw (g.decodes, g.moded, g.stands, g.just) refl

just_then : (a b : Bool) → is_just a b ≡ true → a ≡ b
just_then true true e = refl
just_then true false e = absurd (let no : false ≡ true = e in cc)
just_then false true e = absurd (let no : false ≡ true = e in cc)
just_then false false e = refl

-- ---- the name

-- a name is one of a file exactly if it is one as it stands
pub name_there : (alg : Alg) (line : List ℕ) → is_sum_line alg line ≡ true
    → is_name (name_in alg line) ≡ is_name (escaped_in alg line)
name_there alg line e = name_stands (escaped_in alg line) (good alg line e).stands

-- a backslash begins the line exactly if the name needs one
pub marked_needs : (alg : Alg) (line : List ℕ) → is_sum_line alg line ≡ true
    → is_marked line ≡ needs_escape (name_in alg line)
marked_needs alg line e =
    let g = good alg line e in
    just_then (is_marked line) (has_pair (escaped_in alg line)) g.just
    ∙ ap has_pair (sym (escaped_back (escaped_in alg line) g.stands)) ∙ pair_needed (name_in alg line)

-- and otherwise the name stands as it is
pub plain_there : (alg : Alg) (line : List ℕ) → is_sum_line alg line ≡ true → is_marked line ≡ false
    → escaped_in alg line ≡ name_in alg line
plain_there alg line e plain =
    let g = good alg line e in
    sym (unescaped_plain (escaped_in alg line)
    (sym (just_then (is_marked line) (has_pair (escaped_in alg line)) g.just) ∙ plain))

-- ---- the digest

pub mode_length : (mode : List ℕ) → is_mode mode ≡ true → length mode ≡ 2
mode_length mode e = by_case (is_same mode (codes "  ")) (is_same mode (codes " *")) refl refl e
  where
    by_case : (a b : Bool) → is_same mode (codes "  ") ≡ a → is_same mode (codes " *") ≡ b → (a || b) ≡ true
        → length mode ≡ 2
    by_case true b p q e = ap length (same mode (codes "  ") p)
    by_case false true p q e = ap length (same mode (codes " *") q)
    by_case false false p q e = absurd (let no : false ≡ true = e in cc)

-- behind the digits there are two octets
pub room : (alg : Alg) (line : List ℕ) → is_mode (mode_in alg line) ≡ true
    → digits_of alg + 2 ≤ length (body_of line)
room alg line e =
    let two = mode_length (mode_in alg line) e in
    let taken = length-take 2 (drop (digits_of alg) (body_of line)) in
    let dropped = length-drop (digits_of alg) (body_of line) in
    omega (arith, two, taken, dropped)

pub digits_length : (alg : Alg) (line : List ℕ) → is_mode (mode_in alg line) ≡ true
    → length (digits_in alg line) ≡ digits_of alg
digits_length alg line e =
    let taken = length-take (digits_of alg) (body_of line) in
    let there = room alg line e in
    omega (arith, taken, there)

-- the digits state as many octets as a digest has
pub digest_length : (alg : Alg) (line octets : List ℕ) → is_sum_line alg line ≡ true
    → decode_of (digits_in alg line) ≡ Ok octets → length octets ≡ length_of alg
digest_length alg line octets e decodes =
    let long = digits_length alg line (good alg line e).moded in
    let twice = (decode_of-ok (digits_in alg line) octets decodes).2 in
    omega (arith, long, twice)

decoded : (r : Result (List ℕ) FromHexError) → is_ok r ≡ true → (octets : List ℕ) × (r ≡ Ok octets)
decoded (Ok octets) e = (octets, refl)
decoded (Err f) e = absurd (let no : false ≡ true = e in cc)

pub digest_there : (alg : Alg) (line : List ℕ) → is_sum_line alg line ≡ true
    → (octets : List ℕ) × (decode_of (digits_in alg line) ≡ Ok octets)
digest_there alg line e = decoded (decode_of (digits_in alg line)) (good alg line e).decodes

-- a digest is known by its algorithm and its octets
digest_itself : (d : Digest) → d ≡ digest_with (alg_of d) (octets_of d)
digest_itself (digests.Sha1 o) = refl
digest_itself (digests.Sha224 o) = refl
digest_itself (digests.Sha256 o) = refl
digest_itself (digests.Sha384 o) = refl
digest_itself (digests.Sha512 o) = refl
digest_itself (digests.Sha512_224 o) = refl
digest_itself (digests.Sha512_256 o) = refl

pub digest_is : (alg : Alg) (line octets : List ℕ) (d : Digest) → decode_of (digits_in alg line) ≡ Ok octets
    → alg_of d ≡ alg → octets_of d ≡ octets → d ≡ (sum_in alg line).digest
digest_is alg line octets d decodes by of =
    digest_itself d ∙ rw (by, of, decodes) refl
