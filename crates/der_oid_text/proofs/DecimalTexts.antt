-- Numbers in decimal: which texts they are, and that a list of them, joined by points, can be read back.
use Rattle.std.proofs.Common.{◌≡◌, ℕ, zero, suc, ◌+◌, ◌*◌, ◌/◌, ◌%◌, ◌^◌, ◌<◌, ◌≤◌, true, false, ltb, leb, List, []}
use Rattle.std.proofs.Common.{◌∷◌, ◌++◌, length, get_or, map, None}
use Rattle.std.proofs.Common.{Result, Ok, Err, IfSome, refl, sym, ap, subst, ◌∙◌, append_assoc, append-nil, arith, inl}
use Rattle.std.proofs.Common.{inr, ◌≢◌, All}
use Rattle.std.specs.List.{slice_split, join_with_byte}
use Rattle.std.specs.Char.{digit_value}
use Rattle.std.specs.Fmt.{decimal}
use Rattle.std.specs.Str.Parse.{AllDigits, digits_value, digits_value_after, ParsesUnsigned}
use Rattle.std.specs.Result.{result_ok}
use Rattle.std.proofs.lemmas.Bool.{and_parts, and_from, le-leb, ne_eqb, leb-true, cases_lt, ltb-true}
use Rattle.std.proofs.lemmas.Str.{digit_value_digit}
use Rattle.std.proofs.lemmas.Str.Parse.{digit_from_value, digit_at, IsNumeralModel, numerals_by_value, tells_digits}
use Rattle.std.proofs.lemmas.Str.Parse.{parse_plain}
use Rattle.std.proofs.lemmas.Fmt.{decimal_is_IsNumeral_wide, decimal_digit, decimal_step_wide, decimal_by_steps_wide}
use Rattle.std.proofs.lemmas.Fmt.{parse-decimal_wide}
use Rattle.std.proofs.lemmas.List.Splits.{slice_split_none, slice_split_at, length-slice_split}
use Rattle.std.proofs.lemmas.List.Splits.{join_with_byte-slice_split}
use Rattle.std.proofs.lemmas.List.Elements.{All-from_get_or}
use Rattle.der_oid_text.specs.OidText.{dotted, are_small}
use Rattle.der_oid_text.specs.OidSteps.{is_point, is_decimal}

value_after_ge : (m : ℕ) (cs : List ℕ) → m ≤ digits_value_after 10 m cs
value_after_ge m [] = omega arith
value_after_ge m (d ∷ ds) = omega (arith, value_after_ge (m * 10 + digit_value d) ds)

-- the text of a number followed by digits is the decimal text of the value of all the digits
goes_on : (n : ℕ) (cs : List ℕ) → 0 < n → AllDigits 10 cs → digits_value_after 10 n cs < 10 ^ 64
    → decimal (digits_value_after 10 n cs) ≡ decimal n ++ cs
goes_on n [] h ds small = sym (append-nil (decimal n))
goes_on n (c ∷ cs) h ds small =
    let m : ℕ = n * 10 + digit_value c in
    let e : digit_value c + 48 ≡ c = digit_value_digit c (digit_from_value c ds.0) in
    let low : digit_value c < 10 = ds.0 in
    let positive : 0 < m = omega arith in
    let whole : m < 10 ^ 64 = omega (arith, value_after_ge m cs) in
    let front : m / 10 ≡ n = omega arith in
    let last : 48 + m % 10 ≡ c = omega arith in
    goes_on m cs positive ds.1 small
    ∙ ap (λ t. t ++ cs) (decimal_step_wide m (omega arith) whole ∙ ap (λ q. decimal q ++ (48 + m % 10) ∷ []) front
    ∙ ap (λ d. decimal n ++ d ∷ []) last)
    ∙ append_assoc (decimal n) (c ∷ []) cs

-- digits with no leading zero are the decimal text of their value
pub decimal-digits_value_wide : (ds : List ℕ) → AllDigits 10 ds → is_decimal ds ≡ true → digits_value 10 ds < 2 ^ 128
    → decimal (digits_value 10 ds) ≡ ds
decimal-digits_value_wide [] all plain small = absurd cc
decimal-digits_value_wide (b ∷ []) all plain small =
    let p = and_parts (leb 48 b) (leb b 57) plain in
    let lo : 48 ≤ b = leb-true 48 b p.0 in
    let hi : b ≤ 57 = leb-true b 57 p.1 in
    let e : digit_value b + 48 ≡ b = digit_value_digit b (lo, hi) in
    let n : ℕ = 0 * 10 + digit_value b in
    let same : 48 + n ≡ b = omega arith in
    decimal_digit n (omega arith) ∙ ap (λ c. c ∷ []) same
decimal-digits_value_wide (b ∷ c ∷ bs) all plain small =
    let p = and_parts (leb 49 b) (leb b 57) plain in
    let lo : 49 ≤ b = leb-true 49 b p.0 in
    let hi : b ≤ 57 = leb-true b 57 p.1 in
    let n : ℕ = 0 * 10 + digit_value b in
    let e : digit_value b + 48 ≡ b = digit_value_digit b (omega arith, hi) in
    let same : 48 + n ≡ b = omega arith in
    let positive : 0 < n = omega arith in
    let fits : digits_value_after 10 n (c ∷ bs) < 10 ^ 64 = omega arith in
    goes_on n (c ∷ bs) positive all.1 fits
    ∙ ap (λ t. t ++ (c ∷ bs)) (decimal_digit n (omega arith) ∙ ap (λ x. x ∷ []) same)

-- how a number begins in decimal
record Begins (n : ℕ) (ds : List ℕ) : Type 0 where
  first : ℕ
  behind : List ℕ
  parts : ds ≡ first ∷ behind
  low : 48 ≤ first
  high : first ≤ 57
  positive : 0 < n → 49 ≤ first
  alone : n ≡ 0 → behind ≡ []

begins_one : (n : ℕ) → n < 10 → Begins n ((48 + n) ∷ [])
begins_one n h = record {
  first = 48 + n;
  behind = [];
  parts = refl;
  low = omega arith;
  high = omega arith;
  positive = λ p. omega arith;
  alone = λ e. refl;
}

begins_more : (n : ℕ) (ds : List ℕ) → 10 ≤ n → Begins (n / 10) ds → Begins n (ds ++ ((48 + n % 10) ∷ []))
begins_more n ds h b = record {
  first = b.first;
  behind = b.behind ++ ((48 + n % 10) ∷ []);
  parts = ap (λ t. t ++ ((48 + n % 10) ∷ [])) b.parts;
  low = b.low;
  high = b.high;
  positive = λ p. b.positive (omega arith);
  alone = λ e. absurd (omega arith);
}

begins : (n : ℕ) → n < 10 ^ 64 → Begins n (decimal n)
begins n h = decimal_by_steps_wide Begins begins_one begins_more n h

plain_from : (n b : ℕ) (bs : List ℕ) → 48 ≤ b → b ≤ 57 → (0 < n → 49 ≤ b) → (n ≡ 0 → bs ≡ [])
    → is_decimal (b ∷ bs) ≡ true
plain_from n b [] lo hi pos alone = and_from (leb 48 b) (leb b 57) (le-leb 48 b lo) (le-leb b 57 hi)
plain_from n b (c ∷ bs) lo hi pos alone =
    let p : 0 < n = elim (cases_lt 0 n) [ inl l ↦ l | inr g ↦ absurd (let z = alone (omega arith) in cc) ] in
    and_from (leb 49 b) (leb b 57) (le-leb 49 b (pos p)) (le-leb b 57 hi)

-- a decimal text has no leading zero
pub is_decimal-decimal : (n : ℕ) → n < 2 ^ 128 → is_decimal (decimal n) ≡ true
is_decimal-decimal n h =
    let b = begins n (omega arith) in
    ap is_decimal b.parts ∙ plain_from n b.first b.behind b.low b.high b.positive b.alone

-- a decimal text has no point
no_point : (n : ℕ) → n < 2 ^ 128 → All (λ x. is_point x ≡ false) (decimal n)
no_point n h =
    let d = decimal_is_IsNumeral_wide n (omega arith) in
    All-from_get_or (λ x. is_point x ≡ false) (decimal n) 0 (λ i l. let r = digit_at (decimal n) i d.0.1 l in
    ne_eqb (get_or (decimal n) i 0) 46 (λ e. omega arith))

-- two numbers have the same decimal text only if they are equal
pub decimal_injective_wide : (m n : ℕ) → m < 2 ^ 128 → n < 2 ^ 128 → decimal m ≡ decimal n → m ≡ n
decimal_injective_wide m n h k e =
    sym (decimal_is_IsNumeral_wide m (omega arith)).1 ∙ ap (digits_value 10) e
    ∙ (decimal_is_IsNumeral_wide n (omega arith)).1

-- the parts between the points are the texts of the numbers
pub parts_of_dotted : (ns : List ℕ) → ns ≢ [] → are_small ns ≡ true → slice_split is_point (dotted ns) ≡ map decimal ns
parts_of_dotted [] some small = absurd (some refl)
parts_of_dotted (n ∷ []) some small =
    let p = and_parts (ltb n (2 ^ 128)) true small in
    slice_split_none is_point (decimal n) (no_point n (ltb-true n (2 ^ 128) p.0))
parts_of_dotted (n ∷ m ∷ ns) some small =
    let p = and_parts (ltb n (2 ^ 128)) (are_small (m ∷ ns)) small in
    slice_split_at is_point (decimal n) 46 (dotted (m ∷ ns)) (no_point n (ltb-true n (2 ^ 128) p.0)) refl
    ∙ ap (λ ps. decimal n ∷ ps) (parts_of_dotted (m ∷ ns) (λ e. cc) p.1)

same_numbers : (ms ns : List ℕ) → are_small ms ≡ true → are_small ns ≡ true → map decimal ms ≡ map decimal ns → ms ≡ ns
same_numbers [] [] h k e = refl
same_numbers [] (n ∷ ns) h k e = absurd cc
same_numbers (m ∷ ms) [] h k e = absurd cc
same_numbers (m ∷ ms) (n ∷ ns) h k e =
    let p = and_parts (ltb m (2 ^ 128)) (are_small ms) h in
    let q = and_parts (ltb n (2 ^ 128)) (are_small ns) k in
    let front : decimal m ≡ decimal n = cc in
    let behind : map decimal ms ≡ map decimal ns = cc in
    let first : m ≡ n = decimal_injective_wide m n (ltb-true m (2 ^ 128) p.0) (ltb-true n (2 ^ 128) q.0) front in
    let others : ms ≡ ns = same_numbers ms ns p.1 q.1 behind in
    cc

-- a text spells at most one list of numbers
pub dotted_injective : (ms ns : List ℕ) → ms ≢ [] → ns ≢ [] → are_small ms ≡ true → are_small ns ≡ true
    → dotted ms ≡ dotted ns → ms ≡ ns
dotted_injective ms ns some_m some_n h k e =
    same_numbers ms ns h k
    (sym (parts_of_dotted ms some_m h) ∙ ap (slice_split is_point) e ∙ parts_of_dotted ns some_n k)

-- one more number after a point
pub dotted_push : (n : ℕ) (ns : List ℕ) (m : ℕ) → dotted ((n ∷ ns) ++ m ∷ []) ≡ dotted (n ∷ ns) ++ (46 ∷ decimal m)
dotted_push n [] m = refl
dotted_push n (k ∷ ns) m = ap (λ t. decimal n ++ (46 ∷ t)) (dotted_push k ns m)
    ∙ sym (append_assoc (decimal n) (46 ∷ dotted (k ∷ ns)) (46 ∷ decimal m))

-- ---- what `parse` gives for a text that begins as a number

digits_are : IsNumeralModel (AllDigits 10) (digits_value 10)
digits_are = numerals_by_value (AllDigits 10) tells_digits

no_plus : (bs : List ℕ) → is_decimal bs ≡ true → get_or bs 0 0 ≢ 43
no_plus [] plain e = cc
no_plus (b ∷ []) plain e = let p = leb-true 48 b (and_parts (leb 48 b) (leb b 57) plain).0 in omega arith
no_plus (b ∷ c ∷ bs) plain e = let p = leb-true 49 b (and_parts (leb 49 b) (leb b 57) plain).0 in omega arith

pub arc_spelled : {E : Type 0} (bs : List ℕ) (r : Result ℕ E) → ParsesUnsigned 128 10 bs r → is_decimal bs ≡ true
    → IfSome (result_ok r) (λ n. bs ≡ decimal n)
arc_spelled bs (Err e) h plain = tt
arc_spelled {E} bs (Ok n) h plain =
    let p = parse_plain digits_are {E = E} 128 bs (Ok n) h (no_plus bs plain) in
    sym (ap decimal p.1 ∙ decimal-digits_value_wide bs p.0.0 plain p.0.2)

pub arc_refused : {E : Type 0} (bs : List ℕ) (r : Result ℕ E) → ParsesUnsigned 128 10 bs r → result_ok r ≡ None
    → (n : ℕ) → n < 2 ^ 128 → bs ≡ decimal n → ⊥
arc_refused bs (Ok x) h none n small e = absurd cc
arc_refused {E} bs (Err x) h none n small e =
    let k : ◌≡◌ {A = Result ℕ E} (Err x) (Ok n) = parse-decimal_wide 128 n bs (Err x) small (omega arith) e h in cc

pub arc_other : (bs : List ℕ) → is_decimal bs ≡ false → (n : ℕ) → n < 2 ^ 128 → bs ≡ decimal n → ⊥
arc_other bs other n small e = let k = sym other ∙ ap is_decimal e ∙ is_decimal-decimal n small in cc

-- ---- the loop over the parts of a text

-- a part that is not a number
pub no_numbers : (texts : List (List ℕ)) (i : ℕ) (t text : List ℕ) → texts ≡ slice_split is_point text
    → i < length texts → t ≡ get_or texts i t
    → ((n : ℕ) → n < 2 ^ 128 → t ≡ decimal n → ⊥)
    → (ns : List ℕ) → ns ≢ [] → are_small ns ≡ true → text ≡ dotted ns → ⊥
no_numbers texts i t text parts l at none ns some small e =
    let same : texts ≡ map decimal ns = parts ∙ ap (slice_split is_point) e ∙ parts_of_dotted ns some small in
    among ns i t small (subst (λ x. i < length x) same l) (at ∙ ap (λ x. get_or x i t) same) none
  where
    among : (ns : List ℕ) (i : ℕ) (t : List ℕ) → are_small ns ≡ true → i < length (map decimal ns)
        → t ≡ get_or (map decimal ns) i t
        → ((n : ℕ) → n < 2 ^ 128 → t ≡ decimal n → ⊥) → ⊥
    among [] i t small l at none = omega arith
    among (n ∷ ns) zero t small l at none =
        none n (ltb-true n (2 ^ 128) (and_parts (ltb n (2 ^ 128)) (are_small ns) small).0) at
    among (n ∷ ns) (suc i) t small l at none =
        among ns i t (and_parts (ltb n (2 ^ 128)) (are_small ns) small).1 (omega arith) at none

-- each part is the text of a number
pub all_numbers : (texts : List (List ℕ)) (text ns : List ℕ) → texts ≡ slice_split is_point text
    → texts ≡ map decimal ns → (text ≡ dotted ns) × (ns ≢ [])
all_numbers texts text ns parts e = (
  sym (ap (join_with_byte 46) (sym e ∙ parts) ∙ join_with_byte-slice_split 46 text),
  λ none. let k : length (slice_split is_point text) ≡ 0 = ap length (sym parts ∙ e ∙ ap (map decimal) none) in
      omega (arith, length-slice_split is_point text),
)
