-- A line of sums is the one that is written for what it states.
use Rattle.std.proofs.Common.{◌≡◌, ℕ, ◌+◌, ◌*◌, ◌<◌, Bool, true, false, List, [], ◌∷◌, ◌++◌, length, take, drop}
use Rattle.std.proofs.Common.{Result, Ok, refl, sym, ap, ◌∙◌, arith}
use Rattle.std.specs.Prelude.{◌==◌, is_ok, codes, if◌then◌else◌}
use Rattle.std.specs.List.{list_all}
use Rattle.std.specs.Result.{result_unwrap_or}
use Rattle.std.proofs.lemmas.List.{take-append-drop, drop-drop}
use Rattle.std.proofs.lemmas.List.Sums.{list_all-from_AllPass}
use Rattle.std.proofs.Math.Seq.{take-append_seam, drop-append_seam}
use Rattle.hex.specs.Hex.{decode_of, is_hex_digit}
use Rattle.hex.specs.declared.error.FromHexError.{FromHexError}
use Rattle.hex.proofs.HexLemmas.{decode_of-ok}
use Rattle.digests.specs.declared.algorithm.Alg.{Alg}
use Rattle.digests.specs.declared.algorithm.Alg.TheVariants as algs
use Rattle.digests.specs.declared.value.Digest.{Digest}
use Rattle.digests.specs.Algorithms.{length_of}
use Rattle.evidence_sums.specs.Names.{is_escaped, unescaped}
use Rattle.evidence_sums.specs.SumLines.{SumValue, digits_of, is_marked, body_of, digits_in, mode_in, escaped_in}
use Rattle.evidence_sums.specs.SumLines.{is_mode, has_pair, is_just, is_sum_line, digest_with, name_in, sum_in}
use Rattle.evidence_sums.specs.Written.{escaped, needs_escape, mark_of, IsWrittenFor, ReadingFitsWriting}
use Rattle.evidence_sums.proofs.Escapes.{and_first, is_then, escaped_back, unescaped_again, escaped_is, pair_needed}
use Rattle.evidence_sums.proofs.GoodLines.{good, joined, marked_needs, mode_length, digest_length, digest_there}

-- ---- what is read is written

abbrev marks : Bool → List ℕ
marks b = if b then codes "\\" else []

-- the line is its backslash and its body
marked_body : (line : List ℕ) → line ≡ marks (is_marked line) ++ body_of line
marked_body [] = refl
marked_body (octet ∷ line) = by_case (octet == 92) refl
  where
    by_case : (b : Bool) → octet == 92 ≡ b
        → octet ∷ line ≡ marks (is_marked (octet ∷ line)) ++ body_of (octet ∷ line)
    by_case true e = rw (is_then octet 92 e) refl
    by_case false e = rw e refl

-- the body is digits, mode and name
body_parts : (alg : Alg) (line : List ℕ)
    → body_of line ≡ digits_in alg line ++ (mode_in alg line ++ escaped_in alg line)
body_parts alg line =
    let body = body_of line in
    let n = digits_of alg in
    let behind : drop n body ≡ take 2 (drop n body) ++ drop (n + 2) body =
    sym (take-append-drop 2 (drop n body)) ∙ ap (λ (w : List ℕ). take 2 (drop n body) ++ w) (drop-drop 2 n body) in
    sym (take-append-drop n body) ∙ ap (λ (w : List ℕ). take n body ++ w) behind

written : (alg : Alg) (line : List ℕ) → is_sum_line alg line ≡ true → IsWrittenFor alg line (sum_in alg line)
written alg line e =
    let g = good alg line e in
    let d = digest_there alg line e in
    let whole : line ≡ marks (is_marked line) ++ (digits_in alg line ++ (mode_in alg line ++ escaped_in alg line)) =
    marked_body line ∙ ap (λ (w : List ℕ). marks (is_marked line) ++ w) (body_parts alg line) in
    let marked = ap (λ (b : Bool). marks b ++ (digits_in alg line ++ (mode_in alg line ++ escaped_in alg line)))
    (marked_needs alg line e) in
    let named = ap (λ (w : List ℕ). mark_of (name_in alg line) ++ (digits_in alg line ++ (mode_in alg line ++ w)))
    (sym (escaped_back (escaped_in alg line) g.stands)) in
    record {
      digits = digits_in alg line;
      octets = d.0;
      mode = mode_in alg line;
      decodes = d.1;
      whole = digest_length alg line d.0 e d.1;
      digest = ap (λ (r : Result (List ℕ) FromHexError). digest_with alg (result_unwrap_or r [])) d.1;
      moded = g.moded;
      is = whole ∙ marked ∙ named;
    }

-- ---- what is written is read

long : (alg : Alg) → 0 < length_of alg
long algs.Sha1 = omega arith
long algs.Sha224 = omega arith
long algs.Sha256 = omega arith
long algs.Sha384 = omega arith
long algs.Sha512 = omega arith
long algs.Sha512_224 = omega arith
long algs.Sha512_256 = omega arith

-- digits begin with no backslash
no_mark : (digits octets tail : List ℕ) → decode_of digits ≡ Ok octets → 0 < length digits
    → is_marked (digits ++ tail) ≡ false
no_mark [] octets tail e some = absurd (let no : ⊥ = omega (arith, some) in no)
no_mark (digit ∷ digits) octets tail e some =
    let all : list_all is_hex_digit (digit ∷ digits) ≡ true =
    list_all-from_AllPass is_hex_digit (digit ∷ digits) (decode_of-ok (digit ∷ digits) octets e).1 in
    let first : is_hex_digit digit ≡ true = and_first (is_hex_digit digit) (list_all is_hex_digit digits) all in
    by_case (digit == 92) refl first
  where
    by_case : (b : Bool) → digit == 92 ≡ b → is_hex_digit digit ≡ true → digit == 92 ≡ false
    by_case true is first = absurd (let no : false ≡ true = rw (is_then digit 92 is) at first in cc)
    by_case false is first = is

-- a backslash is found where it was written, and behind it the body
found : (b : Bool) (line body : List ℕ) → is_marked body ≡ false → line ≡ marks b ++ body
    → (is_marked line ≡ b) × (body_of line ≡ body)
found true line body none is = (ap is_marked is, ap body_of is)
found false line body none is =
    let plain : is_marked line ≡ false = ap is_marked is ∙ none in (plain, rw plain is)

abbrev value_of : Digest → List ℕ → SumValue
value_of d n = record { digest = d; name = n }

same_value : (v : SumValue) (d : Digest) (n : List ℕ) → v.digest ≡ d → v.name ≡ n → v ≡ value_of d n
same_value v d n p q = ap (λ (x : Digest). value_of x v.name) p ∙ ap (value_of d) q

just_both : (a b : Bool) → a ≡ b → is_just a b ≡ true
just_both true true e = refl
just_both true false e = absurd (let no : true ≡ false = e in cc)
just_both false true e = absurd (let no : false ≡ true = e in cc)
just_both false false e = refl

read : (alg : Alg) (line : List ℕ) (v : SumValue) → IsWrittenFor alg line v
    → (is_sum_line alg line ≡ true) × (v ≡ sum_in alg line)
read alg line v w =
    let n = digits_of alg in
    let tail = w.mode ++ escaped v.name in
    let size : length w.digits ≡ n =
    (decode_of-ok w.digits w.octets w.decodes).2 ∙ ap (λ (k : ℕ). 2 * k) w.whole in
    let some : 0 < length w.digits = omega (arith, size, long alg) in
    let there = found (needs_escape v.name) line (w.digits ++ tail)
    (no_mark w.digits w.octets tail w.decodes some) w.is in
    let two = mode_length w.mode w.moded in
    let digits : digits_in alg line ≡ w.digits = ap (take n) there.1
    ∙ ap (λ (k : ℕ). take k (w.digits ++ tail)) (sym size) ∙ take-append_seam w.digits tail in
    let behind : drop n (body_of line) ≡ tail = ap (drop n) there.1
    ∙ ap (λ (k : ℕ). drop k (w.digits ++ tail)) (sym size) ∙ drop-append_seam w.digits tail in
    let mode : mode_in alg line ≡ w.mode = ap (take 2) behind
    ∙ ap (λ (k : ℕ). take k tail) (sym two) ∙ take-append_seam w.mode (escaped v.name) in
    let stands : escaped_in alg line ≡ escaped v.name = sym (drop-drop 2 n (body_of line)) ∙ ap (drop 2) behind
    ∙ ap (λ (k : ℕ). drop k tail) (sym two) ∙ drop-append_seam w.mode (escaped v.name) in
    let decodes : decode_of (digits_in alg line) ≡ Ok w.octets = ap decode_of digits ∙ w.decodes in (
      joined alg line (record {
        decodes = ap is_ok decodes;
        moded = ap is_mode mode ∙ w.moded;
        stands = ap is_escaped stands ∙ escaped_is v.name;
        just = just_both (is_marked line) (has_pair (escaped_in alg line))
            (there.0 ∙ sym (pair_needed v.name) ∙ ap has_pair (sym stands));
      }),
      same_value v (sum_in alg line).digest (name_in alg line)
          (w.digest ∙ ap (λ (r : Result (List ℕ) FromHexError). digest_with alg (result_unwrap_or r [])) (sym decodes))
          (sym (unescaped_again v.name) ∙ ap unescaped (sym stands)),
    )

pub fits : ReadingFitsWriting
fits = record { written = written; read = read }
