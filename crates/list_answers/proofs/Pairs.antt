-- Which texts are pairs of hexadecimal digits.
use Rattle.std.proofs.Common.{◌≡◌, ℕ, ◌%◌, Bool, true, false, List, [], ◌∷◌, length, Result, Ok, Err, refl, sym, ap}
use Rattle.std.proofs.Common.{◌∙◌, arith}
use Rattle.std.specs.Prelude.{is_ok}
use Rattle.std.specs.Char.{is_ascii_hexdigit}
use Rattle.std.specs.List.{list_all}
use Rattle.std.proofs.lemmas.List.Sums.{AllPass-from_list_all, list_all-from_AllPass}
use Rattle.hex.specs.Hex.{decode_of, decode_pairs, is_hex_digit}
use Rattle.hex.specs.declared.error.FromHexError.{FromHexError}
use Rattle.hex.proofs.HexLemmas.{decode_of-digits, decode_of-ok}

pub none_decode : decode_of [] ≡ Ok []
unfolding decode_pairs
none_decode = refl

same_digit : (c : ℕ) → is_ascii_hexdigit c ≡ is_hex_digit c
same_digit c = grind (arith)

same_digits : (s : List ℕ) → list_all is_ascii_hexdigit s ≡ list_all is_hex_digit s
same_digits [] = refl
same_digits (c ∷ s) = rw (same_digit c, same_digits s) refl

digits_decode : (s : List ℕ) → length s % 2 ≡ 0 → list_all is_ascii_hexdigit s ≡ true → is_ok (decode_of s) ≡ true
digits_decode s even e =
    ap is_ok (decode_of-digits s even (AllPass-from_list_all is_hex_digit s (sym (same_digits s) ∙ e))).1

others_fail : (s : List ℕ) → list_all is_ascii_hexdigit s ≡ false → (r : Result (List ℕ) FromHexError) → decode_of s ≡ r
    → is_ok r ≡ false
others_fail s e (Err f) is = refl
others_fail s e (Ok bytes) is =
    let digits : list_all is_ascii_hexdigit s ≡ true = same_digits s
    ∙ list_all-from_AllPass is_hex_digit s (decode_of-ok s bytes is).1 in
    absurd (let k : false ≡ true = sym e ∙ digits in cc)

-- an even number of digits is decoded, and an even number of other octets isn't
pub pairs_decode : (s : List ℕ) → length s % 2 ≡ 0 → list_all is_ascii_hexdigit s ≡ is_ok (decode_of s)
pairs_decode s even = by_case (list_all is_ascii_hexdigit s) refl
  where
    by_case : (b : Bool) → list_all is_ascii_hexdigit s ≡ b → b ≡ is_ok (decode_of s)
    by_case true e = sym (digits_decode s even e)
    by_case false e = sym (others_fail s e (decode_of s) refl)
