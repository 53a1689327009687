-- Subidentifiers: reading them from contents octets, and the octets of each.
use Rattle.std.proofs.Common.{◌≡◌, ℕ, zero, suc, ◌+◌, ◌*◌, ◌/◌, ◌%◌, ◌^◌, ◌<◌, ◌≤◌, Bool, true, false, not, ltb, eqb}
use Rattle.std.proofs.Common.{cond, List, [], ◌∷◌, ◌++◌, length, get_or}
use Rattle.std.proofs.Common.{map, drop, refl, sym, ap, ◌∙◌, append_assoc, append-nil, arith, inl, inr, ◌≢◌, ◌&&◌}
use Rattle.std.proofs.Common.{flat_map}
use Rattle.std.specs.List.{onto_first}
use Rattle.std.specs.Int.Digits.{digits_of, number_from_digits, number_from_digits_after, AllBelowBase}
use Rattle.std.proofs.lemmas.Bool.{and_parts, and_from, and_left, and_right, lt-ltb, le-ltb, eqb-false, ne_eqb}
use Rattle.std.proofs.lemmas.Bool.{not-true, cases_lt}
use Rattle.std.proofs.lemmas.Int.Digits.{digits_of_step, length-digits_of_step, all_below_base_digits_of}
use Rattle.std.proofs.lemmas.Int.Digits.{first_digits_of, number_after_ge, number_push}
use Rattle.std.proofs.lemmas.Int.Digits.{number_digits_of}
use Rattle.std.proofs.lemmas.List.{length-append, map_push, drop_more, drop_all}
use Rattle.der_core.specs.Contents.{are_subidentifiers, is_oid}
use Rattle.der_core.specs.Element.{IsBytes}
use Rattle.der_oid_text.specs.OidText.{series, number_of, subidentifiers, are_small}
use Rattle.der_oid_text.specs.OidSteps.{high_octets, base_128}

abbrev low : ℕ → ℕ
low b = b % 128

-- the numbers of these series, if the octets before them gave n
abbrev pub numbers_after : ℕ → List (List ℕ) → List ℕ
numbers_after n [] = []
numbers_after n (s ∷ ss) = number_from_digits_after 128 n (map low s) ∷ map number_of ss

numbers_at_start : (ss : List (List ℕ)) → numbers_after 0 ss ≡ map number_of ss
numbers_at_start [] = refl
numbers_at_start (s ∷ ss) = refl

series_last : (b : ℕ) (bs : List ℕ) → b < 128 → series (b ∷ bs) ≡ (b ∷ []) ∷ series bs
series_last b bs h = ap (λ t. cond t ((b ∷ []) ∷ series bs) (onto_first b (series bs))) (lt-ltb b 128 h)

series_more : (b : ℕ) (bs : List ℕ) → 128 ≤ b → series (b ∷ bs) ≡ onto_first b (series bs)
series_more b bs h = ap (λ t. cond t ((b ∷ []) ∷ series bs) (onto_first b (series bs))) (le-ltb b 128 h)

numbers_last : (n b : ℕ) (bs : List ℕ) → b < 128
    → numbers_after n (series (b ∷ bs)) ≡ (n * 128 + b % 128) ∷ numbers_after 0 (series bs)
numbers_last n b bs h =
    ap (numbers_after n) (series_last b bs h) ∙ ap (λ l. (n * 128 + b % 128) ∷ l) (sym (numbers_at_start (series bs)))

-- a series continues to its end
record Goes (ss : List (List ℕ)) : Type 0 where
  first : List ℕ
  others : List (List ℕ)
  parts : ss ≡ first ∷ others

goes_onto : (b : ℕ) (ss : List (List ℕ)) → Goes (onto_first b ss)
goes_onto b [] = record { first = b ∷ []; others = []; parts = refl }
goes_onto b (s ∷ ss) = record { first = b ∷ s; others = ss; parts = refl }

goes : (bs : List ℕ) → are_subidentifiers false bs ≡ true → Goes (series bs)
goes [] h = absurd cc
goes (b ∷ bs) h = elim (cases_lt b 128) [
  | inl l ↦ record { first = b ∷ []; others = series bs; parts = series_last b bs l }
  | inr g ↦ let t = goes_onto b (series bs) in
      record { first = t.first; others = t.others; parts = series_more b bs g ∙ t.parts }
]

-- what follows an octet of subidentifiers
behind : (begins : Bool) (b : ℕ) (bs : List ℕ) → are_subidentifiers begins (b ∷ bs) ≡ true
    → are_subidentifiers (ltb b 128) bs ≡ true
behind begins b bs h = (and_parts (not (begins && eqb b 128)) (are_subidentifiers (ltb b 128) bs) h).1

behind_last : (begins : Bool) (b : ℕ) (bs : List ℕ) → are_subidentifiers begins (b ∷ bs) ≡ true → b < 128
    → are_subidentifiers true bs ≡ true
behind_last begins b bs h l = ap (λ t. are_subidentifiers t bs) (sym (lt-ltb b 128 l)) ∙ behind begins b bs h

behind_more : (begins : Bool) (b : ℕ) (bs : List ℕ) → are_subidentifiers begins (b ∷ bs) ≡ true → 128 ≤ b
    → are_subidentifiers false bs ≡ true
behind_more begins b bs h g = ap (λ t. are_subidentifiers t bs) (sym (le-ltb b 128 g)) ∙ behind begins b bs h

onto_numbers : (n b : ℕ) (s : List ℕ) (ss : List (List ℕ))
    → numbers_after n (onto_first b (s ∷ ss)) ≡ numbers_after (n * 128 + b % 128) (s ∷ ss)
onto_numbers n b s ss = refl

numbers_more : (n b : ℕ) (bs : List ℕ) → are_subidentifiers false bs ≡ true → 128 ≤ b
    → numbers_after n (series (b ∷ bs)) ≡ numbers_after (n * 128 + b % 128) (series bs)
numbers_more n b bs h g =
    let t = goes bs h in
    ap (numbers_after n) (series_more b bs g ∙ ap (onto_first b) t.parts) ∙ onto_numbers n b t.first t.others
    ∙ ap (numbers_after (n * 128 + b % 128)) (sym t.parts)

large : (n : ℕ) (ss : List (List ℕ)) → Goes ss → 2 ^ 128 ≤ n → are_small (numbers_after n ss) ≡ false
large n ss t h =
    let m : ℕ = number_from_digits_after 128 n (map low t.first) in
    let g : 2 ^ 128 ≤ m = omega (arith, number_after_ge 128 n (map low t.first) (omega arith)) in
    ap (λ l. are_small (numbers_after n l)) t.parts
    ∙ and_left (ltb m (2 ^ 128)) (are_small (map number_of t.others)) (le-ltb m (2 ^ 128) g)

are_small-append : (xs ys : List ℕ) → are_small (xs ++ ys) ≡ (are_small xs && are_small ys)
are_small-append [] ys = refl
are_small-append (x ∷ xs) ys =
    elim (ltb x (2 ^ 128)) as (λ t. (t && are_small (xs ++ ys)) ≡ ((t && are_small xs) && are_small ys))
    [ true ↦ are_small-append xs ys | false ↦ refl ]

-- ---- the loop over contents octets: these subidentifiers are found, and n is the number of the series so far
pub record IsReadTo (contents : List ℕ) (i : ℕ) (found : List ℕ) (n : ℕ) : Type 0 where
  pub begins : Bool
  pub formed : are_subidentifiers begins (drop i contents) ≡ true
  pub whole : found ++ numbers_after n (series (drop i contents)) ≡ subidentifiers contents
  pub small : are_small found ≡ true

pub read_none : (contents : List ℕ) → are_subidentifiers true contents ≡ true → IsReadTo contents 0 [] 0
read_none contents h = record { begins = true; formed = h; whole = numbers_at_start (series contents); small = refl }

pub read_all : (contents : List ℕ) (i : ℕ) (found : List ℕ) (n : ℕ) → IsReadTo contents i found n
    → length contents ≤ i → (found ≡ subidentifiers contents) × (are_small (subidentifiers contents) ≡ true)
read_all contents i found n r h =
    let e : found ≡ subidentifiers contents = sym (append-nil found)
    ∙ ap (λ l. found ++ numbers_after n (series l)) (sym (drop_all i contents h)) ∙ r.whole in
    (e, ap are_small (sym e) ∙ r.small)

-- what is left from an octet on
record Left (contents : List ℕ) (i : ℕ) (found : List ℕ) (n b : ℕ) : Type 0 where
  begins : Bool
  formed : are_subidentifiers begins (b ∷ drop (i + 1) contents) ≡ true
  whole : found ++ numbers_after n (series (b ∷ drop (i + 1) contents)) ≡ subidentifiers contents

left_from : (contents : List ℕ) (i : ℕ) (found : List ℕ) (n b : ℕ) → IsReadTo contents i found n → i < length contents
    → b ≡ get_or contents i 0
    → Left contents i found n b
left_from contents i found n b r l e =
    let at : drop i contents ≡ b ∷ drop (i + 1) contents = drop_more contents i 0 l
    ∙ ap (λ x. x ∷ drop (i + 1) contents) (sym e) in
    record {
      begins = r.begins;
      formed = ap (are_subidentifiers r.begins) (sym at) ∙ r.formed;
      whole = ap (λ x. found ++ numbers_after n (series x)) (sym at) ∙ r.whole;
    }

pub read_last : (contents : List ℕ) (i : ℕ) (found : List ℕ) (n b m : ℕ) → IsReadTo contents i found n
    → i < length contents → b ≡ get_or contents i 0
    → b < 128 → m ≡ n * 128 + b % 128 → m < 2 ^ 128
    → IsReadTo contents (i + 1) (found ++ m ∷ []) 0
read_last contents i found n b m r l e h k fits =
    let t = left_from contents i found n b r l e in
    let rest : List ℕ = drop (i + 1) contents in
    record {
      begins = true;
      formed = behind_last t.begins b rest t.formed h;
      whole = append_assoc found (m ∷ []) (numbers_after 0 (series rest))
          ∙ ap (λ x. found ++ (x ∷ numbers_after 0 (series rest))) k
          ∙ ap (λ x. found ++ x) (sym (numbers_last n b rest h))
          ∙ t.whole;
      small = are_small-append found (m ∷ []) ∙ and_from (are_small found) (are_small (m ∷ [])) r.small
          (and_from (ltb m (2 ^ 128)) true (lt-ltb m (2 ^ 128) fits) refl);
    }

pub read_more : (contents : List ℕ) (i : ℕ) (found : List ℕ) (n b m : ℕ) → IsReadTo contents i found n
    → i < length contents → b ≡ get_or contents i 0
    → 128 ≤ b → m ≡ n * 128 + b % 128
    → IsReadTo contents (i + 1) found m
read_more contents i found n b m r l e h k =
    let t = left_from contents i found n b r l e in
    let rest : List ℕ = drop (i + 1) contents in
    let on : are_subidentifiers false rest ≡ true = behind_more t.begins b rest t.formed h in
    record {
      begins = false;
      formed = on;
      whole = ap (λ x. found ++ numbers_after x (series rest)) k
          ∙ ap (λ x. found ++ x) (sym (numbers_more n b rest on h)) ∙ t.whole;
      small = r.small;
    }

pub read_large : (contents : List ℕ) (i : ℕ) (found : List ℕ) (n b : ℕ) → IsReadTo contents i found n
    → i < length contents → b ≡ get_or contents i 0
    → 2 ^ 128 ≤ n * 128 + b % 128
    → are_small (subidentifiers contents) ≡ false
read_large contents i found n b r l e g =
    let t = left_from contents i found n b r l e in
    let rest : List ℕ = drop (i + 1) contents in
    let m : ℕ = n * 128 + b % 128 in
    let tail : are_small (numbers_after n (series (b ∷ rest))) ≡ false = elim (cases_lt b 128) [
      | inl h ↦ ap are_small (numbers_last n b rest h)
          ∙ and_left (ltb m (2 ^ 128)) (are_small (numbers_after 0 (series rest))) (le-ltb m (2 ^ 128) g)
      | inr h ↦ let on = behind_more t.begins b rest t.formed h in
          ap are_small (numbers_more n b rest on h) ∙ large m (series rest) (goes rest on) g
    ] in
    ap are_small (sym t.whole) ∙ are_small-append found (numbers_after n (series (b ∷ rest)))
    ∙ and_right (are_small found)
    (are_small (numbers_after n (series (b ∷ rest)))) tail

-- ---- the octets of a subidentifier

pub high_octets-zero : high_octets 0 ≡ []
unfolding high_octets
high_octets-zero = refl

pub high_octets_step : (n : ℕ) → 0 < n → high_octets n ≡ high_octets (n / 128) ++ (128 + n % 128) ∷ []
unfolding high_octets
high_octets_step n h = ap (map (λ d. 128 + d)) (digits_of_step 128 n (omega arith) h)
    ∙ map_push (λ d. 128 + d) (digits_of 128 (n / 128)) (n % 128)

pub length-high_octets : (n : ℕ) → 0 < n → length (high_octets n) ≡ length (high_octets (n / 128)) + 1
length-high_octets n h = ap length (high_octets_step n h) ∙ length-append (high_octets (n / 128)) ((128 + n % 128) ∷ [])

pub length-base_128 : (n : ℕ) → length (base_128 n) ≡ length (high_octets (n / 128)) + 1
unfolding base_128
length-base_128 n = length-append (high_octets (n / 128)) (n % 128 ∷ [])

abbrev raised : List ℕ → List ℕ
raised ds = map (λ d. 128 + d) ds

series_raised : (ds : List ℕ) (b : ℕ) (rest : List ℕ) → b < 128
    → series (raised ds ++ (b ∷ rest)) ≡ (raised ds ++ b ∷ []) ∷ series rest
series_raised [] b rest h = series_last b rest h
series_raised (d ∷ ds) b rest h = series_more (128 + d) (raised ds ++ (b ∷ rest)) (omega arith)
    ∙ ap (onto_first (128 + d)) (series_raised ds b rest h)

low_raised : (ds : List ℕ) → AllBelowBase 128 ds → map low (raised ds) ≡ ds
low_raised [] h = refl
low_raised (d ∷ ds) h =
    let small : d < 128 = h.0 in
    let e : (128 + d) % 128 ≡ d = omega arith in
    ap (λ x. x ∷ map low (raised ds)) e ∙ ap (λ l. d ∷ l) (low_raised ds h.1)

number_of_base_128 : (n : ℕ) → number_of (raised (digits_of 128 (n / 128)) ++ n % 128 ∷ []) ≡ n
number_of_base_128 n =
    let ds : List ℕ = digits_of 128 (n / 128) in
    let e : n % 128 % 128 ≡ n % 128 = omega arith in
    let whole : n / 128 * 128 + n % 128 ≡ n = omega arith in
    ap (number_from_digits 128) (map_push low (raised ds) (n % 128))
    ∙ number_push 128 (map low (raised ds)) (n % 128 % 128)
    ∙ ap (λ x. number_from_digits 128 x * 128 + n % 128 % 128)
    (low_raised ds (all_below_base_digits_of 128 (n / 128) (omega arith)))
    ∙ ap (λ x. x * 128 + n % 128 % 128) (number_digits_of 128 (n / 128) (omega arith))
    ∙ ap (λ x. n / 128 * 128 + x) e
    ∙ whole

-- a subidentifier is read back
pub subidentifiers-base_128 : (n : ℕ) (rest : List ℕ) → subidentifiers (base_128 n ++ rest) ≡ n ∷ subidentifiers rest
unfolding base_128 high_octets
subidentifiers-base_128 n rest =
    let ds : List ℕ = digits_of 128 (n / 128) in
    ap subidentifiers (append_assoc (raised ds) (n % 128 ∷ []) rest)
    ∙ ap (map number_of) (series_raised ds (n % 128) rest (omega arith))
    ∙ ap (λ x. x ∷ subidentifiers rest) (number_of_base_128 n)

pub subidentifiers_back : (ns : List ℕ) → subidentifiers (flat_map base_128 ns) ≡ ns
subidentifiers_back [] = refl
subidentifiers_back (n ∷ ns) =
    subidentifiers-base_128 n (flat_map base_128 ns) ∙ ap (λ l. n ∷ l) (subidentifiers_back ns)

formed_raised : (ds rest : List ℕ) → are_subidentifiers false (raised ds ++ rest) ≡ are_subidentifiers false rest
formed_raised [] rest = refl
formed_raised (d ∷ ds) rest =
    ap (λ t. are_subidentifiers t (raised ds ++ rest)) (le-ltb (128 + d) 128 (omega arith)) ∙ formed_raised ds rest

formed_first : (ds rest : List ℕ) → 0 < length ds → 0 < get_or ds 0 0
    → are_subidentifiers true (raised ds ++ rest) ≡ are_subidentifiers false rest
formed_first [] rest h k = absurd (omega arith)
formed_first (d ∷ ds) rest h k =
    ap (λ t. not t && are_subidentifiers (ltb (128 + d) 128) (raised ds ++ rest))
    (ne_eqb (128 + d) 128 (λ e. omega arith))
    ∙ ap (λ t. are_subidentifiers t (raised ds ++ rest)) (le-ltb (128 + d) 128 (omega arith))
    ∙ formed_raised ds rest

formed_high : (n : ℕ) (rest : List ℕ) → 0 < n
    → are_subidentifiers true (high_octets n ++ rest) ≡ are_subidentifiers false rest
unfolding high_octets
formed_high n rest h = formed_first (digits_of 128 n) rest (omega (arith, length-digits_of_step 128 n (omega arith) h))
    (first_digits_of 128 n (omega arith) h)

formed_end : (begins : Bool) (b : ℕ) (rest : List ℕ) → b < 128
    → are_subidentifiers begins (b ∷ rest) ≡ are_subidentifiers true rest
formed_end begins b rest h =
    let e : eqb b 128 ≡ false = ne_eqb b 128 (λ e. omega arith) in
    let f : (begins && eqb b 128) ≡ false = and_right begins (eqb b 128) e in
    ap (λ t. not t && are_subidentifiers (ltb b 128) rest) f ∙ ap (λ t. are_subidentifiers t rest) (lt-ltb b 128 h)

formed-base_128 : (n : ℕ) (rest : List ℕ) → are_subidentifiers true (base_128 n ++ rest) ≡ are_subidentifiers true rest
unfolding base_128
formed-base_128 n rest =
    let m : ℕ = n / 128 in
    let whole = append_assoc (high_octets m) (n % 128 ∷ []) rest in
    ap (are_subidentifiers true) whole ∙ elim (cases_lt 0 m) [
      | inl h ↦ formed_high m (n % 128 ∷ rest) h ∙ formed_end false (n % 128) rest (omega arith)
      | inr h ↦ let z : m ≡ 0 = omega arith in
          ap (λ x. are_subidentifiers true (x ++ (n % 128 ∷ rest))) (ap high_octets z ∙ high_octets-zero)
          ∙ formed_end true (n % 128) rest (omega arith)
    ]

formed_all : (ns : List ℕ) → are_subidentifiers true (flat_map base_128 ns) ≡ true
formed_all [] = refl
formed_all (n ∷ ns) = formed-base_128 n (flat_map base_128 ns) ∙ formed_all ns

is_oid_from : (bs : List ℕ) (n : ℕ) (ns : List ℕ) → subidentifiers bs ≡ n ∷ ns → are_subidentifiers true bs ≡ true
    → is_oid bs ≡ true
is_oid_from [] n ns e h = absurd cc
is_oid_from (b ∷ bs) n ns e h = h

-- the octets of subidentifiers are contents of an OBJECT IDENTIFIER
pub is_oid-base_128 : (n : ℕ) (ns : List ℕ) → is_oid (flat_map base_128 (n ∷ ns)) ≡ true
is_oid-base_128 n ns =
    is_oid_from (flat_map base_128 (n ∷ ns)) n ns (subidentifiers_back (n ∷ ns)) (formed_all (n ∷ ns))

-- ---- each is an octet

bytes_append : (xs ys : List ℕ) → IsBytes xs → IsBytes ys → (i : ℕ) → get_or (xs ++ ys) i 0 < 256
bytes_append [] ys h k i = k i
bytes_append (x ∷ xs) ys h k zero = h 0
bytes_append (x ∷ xs) ys h k (suc i) = bytes_append xs ys (λ j. h (suc j)) k i

bytes_raised : (ds : List ℕ) → AllBelowBase 128 ds → (i : ℕ) → get_or (raised ds) i 0 < 256
bytes_raised [] h i = omega arith
bytes_raised (d ∷ ds) h zero = let small : d < 128 = h.0 in omega arith
bytes_raised (d ∷ ds) h (suc i) = bytes_raised ds h.1 i

bytes_one : (b : ℕ) → b < 256 → (i : ℕ) → get_or (b ∷ []) i 0 < 256
bytes_one b h zero = h
bytes_one b h (suc i) = omega arith

pub IsBytes-base_128 : (ns : List ℕ) → IsBytes (flat_map base_128 ns)
unfolding base_128 high_octets
IsBytes-base_128 [] = λ i. omega arith
IsBytes-base_128 (n ∷ ns) = bytes_append (base_128 n) (flat_map base_128 ns)
    (bytes_append (high_octets (n / 128)) (n % 128 ∷ [])
    (bytes_raised (digits_of 128 (n / 128)) (all_below_base_digits_of 128 (n / 128) (omega arith)))
    (bytes_one (n % 128) (omega arith)))
    (IsBytes-base_128 ns)

-- ---- contents octets are those of their subidentifiers

tail_bytes : (b : ℕ) (bs : List ℕ) → IsBytes (b ∷ bs) → IsBytes bs
tail_bytes b bs h = λ i. h (suc i)

head_byte : (b : ℕ) (bs : List ℕ) → IsBytes (b ∷ bs) → b < 256
head_byte b bs h = h 0

not_leading : (begins : Bool) (b : ℕ) (bs : List ℕ) (n : ℕ) → are_subidentifiers begins (b ∷ bs) ≡ true
    → (begins ≡ false → 0 < n)
    → 128 ≤ b → b < 256 → 0 < n * 128 + b % 128
not_leading false b bs n h more g k = let p = more refl in omega arith
not_leading true b bs n h more g k =
    let p = and_parts (not (eqb b 128)) (are_subidentifiers (ltb b 128) bs) h in
    let other = eqb-false b 128 (not-true (eqb b 128) p.0) in
    elim (cases_lt 0 (b % 128)) [ inl l ↦ omega arith | inr z ↦ absurd (other (omega arith)) ]

base_128_end : (n b : ℕ) → b < 128 → base_128 (n * 128 + b % 128) ≡ high_octets n ++ b ∷ []
unfolding base_128
base_128_end n b h =
    let front : (n * 128 + b % 128) / 128 ≡ n = omega arith in
    let last : (n * 128 + b % 128) % 128 ≡ b = omega arith in
    ap (λ x. high_octets x ++ (n * 128 + b % 128) % 128 ∷ []) front ∙ ap (λ x. high_octets n ++ x ∷ []) last

high_octets_more : (n b : ℕ) → 0 < n * 128 + b % 128 → 128 ≤ b → b < 256
    → high_octets (n * 128 + b % 128) ≡ high_octets n ++ b ∷ []
high_octets_more n b h g k =
    let front : (n * 128 + b % 128) / 128 ≡ n = omega arith in
    let last : 128 + (n * 128 + b % 128) % 128 ≡ b = omega arith in
    high_octets_step (n * 128 + b % 128) h ∙ ap (λ x. high_octets x ++ (128 + (n * 128 + b % 128) % 128) ∷ []) front
    ∙ ap (λ x. high_octets n ++ x ∷ []) last

octets_after : (begins : Bool) (n : ℕ) (bs : List ℕ) → IsBytes bs → are_subidentifiers begins bs ≡ true
    → (begins ≡ true → n ≡ 0) → (begins ≡ false → 0 < n)
    → flat_map base_128 (numbers_after n (series bs)) ≡ high_octets n ++ bs
octets_after begins n [] fits h start more =
    sym (append-nil (high_octets n) ∙ ap high_octets (start h) ∙ high_octets-zero)
octets_after begins n (b ∷ bs) fits h start more = elim (cases_lt b 128) [
  | inl l ↦
      let rest : flat_map base_128 (numbers_after 0 (series bs)) ≡ bs =
      octets_after true 0 bs (tail_bytes b bs fits) (behind_last begins b bs h l) (λ e. refl) (λ e. absurd cc)
      ∙ ap (λ x. x ++ bs) high_octets-zero in
      ap (flat_map base_128) (numbers_last n b bs l)
      ∙ ap (λ x. base_128 (n * 128 + b % 128) ++ x) rest
      ∙ ap (λ x. x ++ bs) (base_128_end n b l)
      ∙ append_assoc (high_octets n) (b ∷ []) bs
  | inr g ↦
      let on = behind_more begins b bs h g in
      let positive = not_leading begins b bs n h more g (head_byte b bs fits) in
      ap (flat_map base_128) (numbers_more n b bs on g)
      ∙ octets_after false (n * 128 + b % 128) bs (tail_bytes b bs fits) on (λ e. absurd cc) (λ e. positive)
      ∙ ap (λ x. x ++ bs) (high_octets_more n b positive g (head_byte b bs fits))
      ∙ append_assoc (high_octets n) (b ∷ []) bs
]

formed_from : (bs : List ℕ) → is_oid bs ≡ true → are_subidentifiers true bs ≡ true
formed_from [] h = absurd cc
formed_from (b ∷ bs) h = h

pub base_128-subidentifiers : (bs : List ℕ) → IsBytes bs → is_oid bs ≡ true → flat_map base_128 (subidentifiers bs) ≡ bs
base_128-subidentifiers bs fits h =
    ap (flat_map base_128) (sym (numbers_at_start (series bs)))
    ∙ octets_after true 0 bs fits (formed_from bs h) (λ e. refl) (λ e. absurd cc)
    ∙ ap (λ x. x ++ bs) high_octets-zero

-- contents octets have a subidentifier
pub some_subidentifier : (bs : List ℕ) → is_oid bs ≡ true → subidentifiers bs ≢ []
some_subidentifier [] h e = cc
some_subidentifier (b ∷ bs) h e = elim (cases_lt b 128) [
  | inl l ↦ let f = ap (map number_of) (series_last b bs l) in
      let g : number_of (b ∷ []) ∷ subidentifiers bs ≡ [] = sym f ∙ e in cc
  | inr g ↦
      let t = goes_onto b (series bs) in
      let f = ap (map number_of) (series_more b bs g ∙ t.parts) in
      let k : number_of t.first ∷ map number_of t.others ≡ [] = sym f ∙ e in
      cc
]
