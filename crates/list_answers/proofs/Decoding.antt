-- Pairs of hexadecimal digits that are decoded while they are tested.
use Rattle.std.proofs.Common.{◌≡◌, ℕ, suc, ◌+◌, ◌*◌, ◌%◌, ◌<◌, ◌≤◌, Bool, List, [], ◌∷◌, ◌++◌, length, drop}
use Rattle.std.proofs.Common.{get_or, Option, Some, None}
use Rattle.std.proofs.Common.{Ok, Err, unwrap_or, refl, sym, ap, subst, ◌∙◌, arith}
use Rattle.std.specs.Prelude.{◌==◌, ◌≢◌, slice_index, IsErr}
use Rattle.std.proofs.lemmas.Bool.{eqb-true}
use Rattle.std.proofs.lemmas.List.{drop_all, append-nil, append_assoc}
use Rattle.hex.specs.Hex.{decode_of, decode_pairs, pair_value, hex_digit_value}
use Rattle.hex.specs.declared.error.FromHexError.{FromHexError}
use Rattle.hex.specs.declared.error.FromHexError.TheVariants.{InvalidHexCharacter}
use Rattle.hex.proofs.Pairs.{prepend, drop-pair, decode_pairs-ok_pair, decode_pairs-err_pair, prepend-cons_byte}
use Rattle.hex.proofs.Pairs.{cons_byte, decode_start}
use Rattle.hex.proofs.HexLemmas.{decode_of-even, decode_of-odd}
use Rattle.list_answers.specs.DigitLanes.{IsPair, ArePairs}
use Rattle.list_answers.specs.declared.hexadecimal.TheConstants.{VALUES}
use Rattle.list_answers.proofs.Tables.{right_there}

-- ---- the table

abbrev right_at : ℕ → Bool
right_at c = slice_index VALUES c == unwrap_or (hex_digit_value c) 256

pub value_there : (c : ℕ) → c < 256 → slice_index VALUES c ≡ unwrap_or (hex_digit_value c) 256
value_there c lt = eqb-true (slice_index VALUES c) (unwrap_or (hex_digit_value c) 256)
    (right_there right_at 256 c refl lt)

-- ---- a pair

small : (c : ℕ) (v : ℕ) → hex_digit_value c ≡ Some v → v < 16
small c v h = grind (arith)

pub value_small : (c : ℕ) → unwrap_or (hex_digit_value c) 256 ≤ 256
value_small c = grind (arith)

-- two values that are below 256 together are those of two digits
pair_good : (a b at : ℕ) → unwrap_or (hex_digit_value a) 256 * 16 + unwrap_or (hex_digit_value b) 256 ≤ 255
    → pair_value a b at ≡ Ok (unwrap_or (hex_digit_value a) 256 * 16 + unwrap_or (hex_digit_value b) 256)
pair_good a b at = by_cases (hex_digit_value a) (hex_digit_value b) refl refl
  where
    by_cases : (x y : Option ℕ) → hex_digit_value a ≡ x → hex_digit_value b ≡ y
        → unwrap_or x 256 * 16 + unwrap_or y 256 ≤ 255
        → pair_value a b at ≡ Ok (unwrap_or x 256 * 16 + unwrap_or y 256)
    by_cases (Some x) (Some y) p q h = rw (p, q) refl
    by_cases None y p q h = absurd (omega arith)
    by_cases (Some x) None p q h = absurd (omega arith)

-- and others are not
pair_bad : (a b at : ℕ) → 255 < unwrap_or (hex_digit_value a) 256 * 16 + unwrap_or (hex_digit_value b) 256
    → (e : FromHexError) × (pair_value a b at ≡ Err e)
pair_bad a b at = by_cases (hex_digit_value a) (hex_digit_value b) refl refl
  where
    by_cases : (x y : Option ℕ) → hex_digit_value a ≡ x → hex_digit_value b ≡ y
        → 255 < unwrap_or x 256 * 16 + unwrap_or y 256
        → (e : FromHexError) × (pair_value a b at ≡ Err e)
    by_cases (Some x) (Some y) p q h = absurd (let k = small a x p in let l = small b y q in omega arith)
    by_cases None y p q h = (InvalidHexCharacter a at, rw p refl)
    by_cases (Some x) None p q h = (InvalidHexCharacter b (at + 1), rw (p, q) refl)

-- ---- the loop

-- what was decoded, and what is left
abbrev pub Decoded : (text octets : List ℕ) → (pairs : ℕ) → Type 0
Decoded text octets pairs = decode_pairs 0 text ≡ prepend octets (decode_pairs (2 * pairs) (drop (2 * pairs) text))

pub nothing_yet : (text : List ℕ) → Decoded text [] 0
nothing_yet text = decode_start text []

-- one pair more
pair_more : (text octets octets' : List ℕ) (i octet : ℕ) → 2 * i + 1 < length text
    → pair_value (get_or text (2 * i) 0) (get_or text (2 * i + 1) 0) (2 * i) ≡ Ok octet
    → octets' ≡ octets ++ octet ∷ [] → Decoded text octets i → Decoded text octets' (i + 1)
pair_more text octets octets' i octet fits good pushed before =
    let rest : List ℕ = drop (2 * (i + 1)) text in
    let two : 2 * i + 2 ≡ 2 * (i + 1) = omega arith in
    let pair = ap (decode_pairs (2 * i)) (drop-pair text i fits) ∙ decode_pairs-ok_pair (2 * i) _ _ octet rest good
    ∙ ap (λ (k : ℕ). cons_byte octet (decode_pairs k rest)) two in
    before ∙ ap (prepend octets) pair ∙ prepend-cons_byte octets octet _
    ∙ ap (λ (f : List ℕ). prepend f (decode_pairs (2 * (i + 1)) rest)) (sym pushed)

pub one_more : (text octets octets' : List ℕ) (i octet : ℕ) → 2 * i + 1 < length text
    → octet ≡ unwrap_or (hex_digit_value (get_or text (2 * i) 0)) 256 * 16
    + unwrap_or (hex_digit_value (get_or text (2 * i + 1) 0)) 256
    → octet ≤ 255 → octets' ≡ octets ++ octet ∷ [] → Decoded text octets i → Decoded text octets' (i + 1)
one_more text octets octets' i octet fits is low pushed before = pair_more text octets octets' i octet fits
    (pair_good (get_or text (2 * i) 0) (get_or text (2 * i + 1) 0) (2 * i) (omega (arith, is, low)) ∙ ap Ok (sym is))
    pushed before

-- the pair of two digits
pair_of : (text : List ℕ) (i octet : ℕ) → IsPair text (2 * i) octet
    → pair_value (get_or text (2 * i) 0) (get_or text (2 * i + 1) 0) (2 * i) ≡ Ok octet
pair_of text i octet h =
    pair_of_two (get_or text (2 * i) 0) (get_or text (2 * i + 1) 0) (2 * i) h.0 h.1.0 h.1.1 h.1.2 ∙ ap Ok (sym h.1.3)
  where
    pair_of_two : (a b at high low : ℕ) → hex_digit_value a ≡ Some high → hex_digit_value b ≡ Some low
        → pair_value a b at ≡ Ok (high * 16 + low)
    pair_of_two a b at high low p q = rw (p, q) refl

-- the pairs of some octets
some_more : (text out octets : List ℕ) (i : ℕ) → 2 * (i + length out) ≤ length text
    → ((k : ℕ) → k < length out → IsPair text (2 * i + 2 * k) (get_or out k 0)) → Decoded text octets i
    → Decoded text (octets ++ out) (i + length out)
some_more text [] octets i fits each before =
    let all : octets ≡ octets ++ [] = sym (append-nil octets) in
    let place : i ≡ i + 0 = omega arith in
    subst (λ (n : ℕ). Decoded text (octets ++ []) n) place (subst (λ (o : List ℕ). Decoded text o i) all before)
some_more text (o ∷ out) octets i fits each before =
    let place : 2 * i + 2 * 0 ≡ 2 * i = omega arith in
    let here : IsPair text (2 * i) o = subst (λ (p : ℕ). IsPair text p o) place (each 0 (omega arith)) in
    let next : Decoded text (octets ++ o ∷ []) (i + 1) =
    pair_more text octets (octets ++ o ∷ []) i o (omega arith) (pair_of text i o here) refl before in
    let others : (k : ℕ) → k < length out → IsPair text (2 * (i + 1) + 2 * k) (get_or out k 0) = λ k lt.
    let shift : 2 * i + 2 * (suc k) ≡ 2 * (i + 1) + 2 * k = omega arith in
    subst (λ (p : ℕ). IsPair text p (get_or out k 0)) shift (each (suc k) (omega arith)) in
    let rest : Decoded text ((octets ++ o ∷ []) ++ out) (i + 1 + length out) =
    some_more text out (octets ++ o ∷ []) (i + 1) (omega arith) others next in
    let all : (octets ++ o ∷ []) ++ out ≡ octets ++ (o ∷ out) = append_assoc octets (o ∷ []) out in
    let count : i + 1 + length out ≡ i + suc (length out) = omega arith in
    subst (λ (n : ℕ). Decoded text (octets ++ (o ∷ out)) n) count
    (subst (λ (x : List ℕ). Decoded text x (i + 1 + length out)) all rest)

pub sixteen_more : (text octets octets' out : List ℕ) (i : ℕ) → 2 * i + 32 ≤ length text → ArePairs text (2 * i) out
    → octets' ≡ octets ++ out
    → Decoded text octets i → Decoded text octets' (i + 16)
sixteen_more text octets octets' out i fits pairs added before =
    let more : Decoded text (octets ++ out) (i + length out)
    = some_more text out octets i (let l = pairs.all in omega arith)
    (λ k lt. pairs.each k (let l = pairs.all in omega arith)) before in
    subst (λ (n : ℕ). Decoded text octets' (i + n)) pairs.all
    (subst (λ (o : List ℕ). Decoded text o (i + length out)) (sym added) more)

pub stopped : (text octets : List ℕ) (i high low : ℕ) → 2 * i + 1 < length text
    → high ≡ unwrap_or (hex_digit_value (get_or text (2 * i) 0)) 256
    → low ≡ unwrap_or (hex_digit_value (get_or text (2 * i + 1) 0)) 256 → 255 < high * 16 + low → length text % 2 ≡ 0
    → Decoded text octets i
    → IsErr (decode_of text)
stopped text octets i high low fits first second large even before =
    let bad =
    pair_bad (get_or text (2 * i) 0) (get_or text (2 * i + 1) 0) (2 * i) (omega (arith, first, second, large)) in
    let e = decode_of-even text even ∙ before
    ∙ ap (prepend octets)
    (ap (decode_pairs (2 * i)) (drop-pair text i fits) ∙ decode_pairs-err_pair (2 * i) _ _ bad.0 _ bad.1) in
    rw e refl

pub finished : (text octets : List ℕ) (i : ℕ) → length text ≤ 2 * i → length text % 2 ≡ 0 → Decoded text octets i
    → decode_of text ≡ Ok octets
unfolding decode_pairs
finished text octets i all even before =
    decode_of-even text even ∙ before ∙ ap (prepend octets) (ap (decode_pairs (2 * i)) (drop_all (2 * i) text all))
    ∙ ap Ok (append-nil octets)

pub odd : (text : List ℕ) → length text % 2 ≢ 0 → IsErr (decode_of text)
odd text h = rw (decode_of-odd text (omega arith)) refl
