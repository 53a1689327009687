-- One step of doubling and adding, and of words to the number that they are.
use Rattle.std.proofs.Common.{◌≡◌, ℕ, ◌+◌, ◌*◌, ◌-◌, ◌/◌, ◌%◌, ◌^◌, ◌<◌, ◌≤◌, Bool, true, false, cond, nat_eq, suc}
use Rattle.std.proofs.Common.{List, [], ◌∷◌, length, get_or, drop, refl, ap, sym, ◌∙◌, arith}
use Rattle.std.proofs.Math.Seq.{drop-cons, drop-length}
use Rattle.std.proofs.lemmas.Bool.Decides.{nat_tests}
use Rattle.curve_points.specs.Words.{number}
use Rattle.curve_points.specs.Points.{Point, infinity, sum, multiple}

-- the double, and the point more if the bit is set
abbrev pub next_point : (p : ℕ) → Bool → Point → Point → Point
next_point p bit H P = cond bit (sum p (sum p H H) P) (sum p H H)

bit_of : (m : ℕ) (bit : Bool) → nat_eq ((2 * m + cond bit 1 0) % 2) 1 ≡ bit
bit_of m true = grind (arith, nat_tests)
bit_of m false = grind (arith, nat_tests)

half_of : (m : ℕ) (bit : Bool) → (2 * m + cond bit 1 0) / 2 ≡ m
half_of m true = omega arith
half_of m false = omega arith

-- a multiple by one bit more
pub next_multiple : (p : ℕ) (P : Point) (n m k : ℕ) (bit : Bool) → k ≡ 2 * m + cond bit 1 0
    → multiple p P (suc n) k ≡ next_point p bit (multiple p P n m) P
unfolding multiple
next_multiple p P n m k bit e =
    ap (λ c. multiple_of c (k / 2)) (ap (λ i. nat_eq (i % 2) 1) e ∙ bit_of m bit)
    ∙ ap (multiple_of bit) (ap (λ i. i / 2) e ∙ half_of m bit) where
      multiple_of : Bool → ℕ → Point
      multiple_of c i = next_point p c (multiple p P n i) P

pub no_multiple : (p : ℕ) (P : Point) (m : ℕ) → multiple p P 0 m ≡ infinity
unfolding multiple
no_multiple p P m = refl

pub counted : (p : ℕ) (P : Point) (n k m l : ℕ) → n ≡ k → m ≡ l → multiple p P n m ≡ multiple p P k l
counted p P n k m l e f = ap (λ i. multiple p P i m) e ∙ ap (multiple p P k) f

number_of : (words : List ℕ) (word : ℕ) → number (word ∷ words) ≡ word + 2 ^ 64 * number words
unfolding number
number_of words word = refl

number_none : number [] ≡ 0
unfolding number
number_none = refl

-- no words yet
pub no_words : (words : List ℕ) (k : ℕ) → k ≡ length words → number (drop k words) ≡ 0
no_words words k e = ap (λ n. number (drop n words)) e ∙ ap number (drop-length words) ∙ number_none

-- a word more
pub next_number : (words : List ℕ) (i k word : ℕ) → i < length words → k ≡ length words - 1 - i
    → word ≡ get_or words k 0
    → 2 ^ 64 * number (drop (length words - i) words) + word ≡ number (drop (length words - (i + 1)) words)
next_number words i k word h e f =
    let upper : length words - i ≡ suc k = omega arith in
    let here : length words - (i + 1) ≡ k = omega arith in
    let read : number (drop k words) ≡ get_or words k 0 + 2 ^ 64 * number (drop (suc k) words) =
    ap number (drop-cons words k 0 (omega arith)) ∙ number_of (drop (suc k) words) (get_or words k 0) in
    ap (λ n. 2 ^ 64 * number (drop n words) + word) upper
    ∙ added (number (drop (suc k) words)) word (get_or words k 0) f
    ∙ sym read
    ∙ sym (ap (λ n. number (drop n words)) here) where
      added : (m a b : ℕ) → a ≡ b → 2 ^ 64 * m + a ≡ b + 2 ^ 64 * m
      added m a b e = omega arith

-- all words
pub all_words : (words : List ℕ) (i : ℕ) → length words ≤ i → drop (length words - i) words ≡ words
all_words words i h = let e : length words - i ≡ 0 = omega arith in ap (λ n. drop n words) e
