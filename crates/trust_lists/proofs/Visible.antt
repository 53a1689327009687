-- Words of which each octet is above the space, and the parts of lines that are made of them.
use Rattle.std.proofs.Common.{◌≡◌, ℕ, suc, ◌+◌, ◌-◌, ◌/◌, ◌%◌, ◌<◌, true, cond, ◌||◌, List, [], ◌∷◌, ◌++◌, length}
use Rattle.std.proofs.Common.{get_or, take, drop, Option, Some, None, refl}
use Rattle.std.proofs.Common.{sym, ap, subst, ◌∙◌, arith, inl, inr, codes}
use Rattle.std.specs.Prelude.{◌==◌, slice_index}
use Rattle.std.specs.List.{All}
use Rattle.std.proofs.lemmas.Bool.{cases_lt, or_cases, ne_eqb}
use Rattle.std.proofs.lemmas.List.{get_or-drop, get_or_past, length-drop}
use Rattle.std.proofs.lemmas.List.Elements.{All-nil, All-cons, All-append, All-from_get_or, All-from_recursion}
use Rattle.std.proofs.lemmas.List.Splits.{slice_split_none, slice_split_at}
use Rattle.hex.specs.Hex.{IsBytes, hex_digit_value, lower_digits, encode_with, encode_lower}
use Rattle.hex.proofs.HexLemmas.{IsDigits, IsDigits-lower_digits}
use Rattle.der_core.specs.Lists.{is_same}
use Rattle.der_core.specs.Times.{is_fraction, is_generalized}
use Rattle.der_time.proofs.Texts.{fraction_parts, generalized_parts, digit_at}
use Rattle.der_time.proofs.Texts.{same_from, fraction_within}
use Rattle.trust_lists.specs.declared.role.Role.{Role}
use Rattle.trust_lists.specs.declared.role.Role.TheVariants.{Signer, Tsa}
use Rattle.list_answers.specs.Texts.{parts, trimmed}
use Rattle.trust_lists.specs.Written.{role_word, IsMomentWord}

-- each octet is above the space
abbrev pub Visible : List ℕ → Type 0
Visible word = All (λ b. 32 < b) word

-- each octet is the space or above it
abbrev pub Printed : List ℕ → Type 0
Printed line = All (λ b. 31 < b) line

pub printed : (w : List ℕ) → Visible w → Printed w
printed w h = λ k d l. omega (arith, h k d l)

-- ---- the words

pub role_visible : (r : Role) → Visible (role_word r)
role_visible Signer = All-from_recursion (λ b. 32 < b) (codes "signer")
    (omega arith, (omega arith, (omega arith, (omega arith, (omega arith, (omega arith, tt))))))
role_visible Tsa = All-from_recursion (λ b. 32 < b) (codes "tsa") (omega arith, (omega arith, (omega arith, tt)))

tail_visible : (r : List ℕ) (i : ℕ) → (is_same r (90 ∷ []) || is_fraction r) ≡ true → i < length r → 32 < get_or r i 0
tail_visible r i h l =
    elim (or_cases (is_same r (90 ∷ [])) (is_fraction r) h) [
      | inr e ↦ (fraction_within r i (fraction_parts r e) l).0
      | inl e ↦
          let is : r ≡ 90 ∷ [] = same_from r (90 ∷ []) e in
          let first : i ≡ 0 = omega (arith, ap length is) in
          omega (arith, ap (λ (n : ℕ). get_or r n 0) first, ap (λ (v : List ℕ). get_or v 0 0) is)
    ]

pub time_visible : (w : List ℕ) → is_generalized w ≡ true → Visible w
time_visible w h = All-from_get_or (λ b. 32 < b) w 0 (λ i l.
    let p = generalized_parts w h in
    elim (cases_lt i 14) [
      | inl before ↦ let d = digit_at w i p before in omega (arith, d.low)
      | inr behind ↦
          let at : 14 + (i - 14) ≡ i = omega arith in
          let inside : i - 14 < length (drop 14 w) = omega (arith, length-drop 14 w) in
          omega (
            arith,
            tail_visible (drop 14 w) (i - 14) p.tail inside,
            get_or-drop 14 w (i - 14) 0,
            ap (λ (n : ℕ). get_or w n 0) at,
          )
    ])

pub moment_visible : (m : Option ℕ) (w : List ℕ) → IsMomentWord m w → Visible w
unfolding IsMomentWord
moment_visible None w h = subst Visible (sym h) (All-from_recursion (λ b. 32 < b) (codes "-") (omega arith, tt))
moment_visible (Some m) w h = time_visible w h.0

digit_visible : (c v : ℕ) → hex_digit_value c ≡ Some v → 32 < c
digit_visible c v h = grind (arith)

digits_visible : (t : List ℕ) → IsDigits t → (xs : List ℕ) → IsBytes xs → Visible (encode_with t xs)
unfolding encode_with
digits_visible t ds [] h = All-nil (λ b. 32 < b)
digits_visible t ds (b ∷ rest) h =
    let fits : b < 256 = h 0 in
    let high : b / 16 < 16 = omega arith in
    let low : b % 16 < 16 = omega arith in
    All-cons (λ b. 32 < b) (slice_index t (b / 16)) (slice_index t (b % 16) ∷ encode_with t rest)
    (digit_visible _ _ (ds (b / 16) high))
    (All-cons (λ b. 32 < b) (slice_index t (b % 16)) (encode_with t rest) (digit_visible _ _ (ds (b % 16) low))
    (digits_visible t ds rest (λ k. h (suc k))))

pub hex_visible : (xs : List ℕ) → IsBytes xs → Visible (encode_lower xs)
hex_visible xs h = digits_visible lower_digits IsDigits-lower_digits xs h

-- ---- words are cut at spaces, and lines at line feeds

pub word_first : (w rest : List ℕ) → Visible w → parts 32 (w ++ 32 ∷ rest) ≡ w ∷ parts 32 rest
word_first w rest h = slice_split_at (λ b. b == 32) w 32 rest (λ k d l. ne_eqb _ 32 (λ e. omega (arith, h k d l))) refl

pub word_last : (w : List ℕ) → Visible w → parts 32 w ≡ w ∷ []
word_last w h = slice_split_none (λ b. b == 32) w (λ k d l. ne_eqb _ 32 (λ e. omega (arith, h k d l)))

pub line_first : (l rest : List ℕ) → Printed l → parts 10 (l ++ 10 ∷ rest) ≡ l ∷ parts 10 rest
line_first w rest h = slice_split_at (λ b. b == 10) w 10 rest (λ k d l. ne_eqb _ 10 (λ e. omega (arith, h k d l))) refl

pub untrimmed : (line : List ℕ) → Printed line → trimmed line ≡ line
untrimmed line h =
    ap (λ b. cond b (take (length line - 1) line) line) (ne_eqb (get_or line (length line - 1) 0) 13 (λ e.
    elim (cases_lt (length line - 1) (length line)) [
      | inl l ↦ omega (arith, e, h (length line - 1) 0 l)
      | inr g ↦ omega (arith, e, get_or_past line (length line - 1) 0 g)
    ]))

-- words with a space between
abbrev pub words : (role from until digits : List ℕ) → List ℕ
words role from until digits = role ++ 32 ∷ (from ++ 32 ∷ (until ++ 32 ∷ digits))

pub words_printed : (role from until digits : List ℕ) → Visible role → Visible from → Visible until → Visible digits
    → Printed (words role from until digits)
words_printed role from until digits r f u d =
    let p : ℕ → Type 0 = λ b. 31 < b in
    let us : Printed (until ++ 32 ∷ digits) =
    All-append p until (32 ∷ digits) (printed until u) (All-cons p 32 digits (omega arith) (printed digits d)) in
    let fs : Printed (from ++ 32 ∷ (until ++ 32 ∷ digits)) =
    All-append p from (32 ∷ (until ++ 32 ∷ digits)) (printed from f)
    (All-cons p 32 (until ++ 32 ∷ digits) (omega arith) us) in
    All-append p role (32 ∷ (from ++ 32 ∷ (until ++ 32 ∷ digits))) (printed role r)
    (All-cons p 32 (from ++ 32 ∷ (until ++ 32 ∷ digits)) (omega arith) fs)

pub words_split : (role from until digits : List ℕ) → Visible role → Visible from → Visible until → Visible digits
    → parts 32 (words role from until digits) ≡ role ∷ from ∷ until ∷ digits ∷ []
words_split role from until digits r f u d =
    word_first role (from ++ 32 ∷ (until ++ 32 ∷ digits)) r
    ∙ ap (λ (ws : List (List ℕ)). role ∷ ws) (word_first from (until ++ 32 ∷ digits) f
    ∙ ap (λ (ws : List (List ℕ)). from ∷ ws) (word_first until digits u
    ∙ ap (λ (ws : List (List ℕ)). until ∷ ws) (word_last digits d)))
