-- The octets of a number that is above 0, and the contents of its INTEGER.
use Rattle.std.proofs.Common.{◌≡◌, ℕ, ◌<◌, ◌≤◌, ◌+◌, Bool, true, false, cond, List, [], ◌∷◌, length, get_or, Option}
use Rattle.std.proofs.Common.{Some, None}
use Rattle.std.proofs.Common.{refl, ap, sym, subst, ◌∙◌, arith}
use Rattle.std.specs.Prelude.{◌==◌, nat_lt, nat_le}
use Rattle.std.proofs.lemmas.Bool.{cond-true, cond-false, eqb-true, eqb-false, ne_eqb, ltb-true, ltb-false, le-ltb}
use Rattle.std.proofs.lemmas.Bool.{leb-true, le-leb}
use Rattle.der_core.specs.Contents.{is_integer}
use Rattle.rsa_keys.specs.KeyValue.{positive}
use Rattle.rsa_keys.specs.KeyReading.{behind_sign, unsigned}

small : (x : ℕ) (xs : List ℕ) → nat_lt x 128 ≡ true → positive (x ∷ xs) ≡ x ∷ xs
small x xs e = cond-true (nat_lt x 128) (x ∷ xs) (0 ∷ x ∷ xs) e

large : (x : ℕ) (xs : List ℕ) → nat_lt x 128 ≡ false → positive (x ∷ xs) ≡ 0 ∷ x ∷ xs
large x xs e = cond-false (nat_lt x 128) (x ∷ xs) (0 ∷ x ∷ xs) e

abbrev some : List ℕ → Option (List ℕ)
some n = Some n

one_list : (a b : List ℕ) → some a ≡ some b → a ≡ b
one_list a b e = cc

-- contents are those of the INTEGER with these octets
abbrev pub AreOf : List ℕ → List ℕ → Type 0
AreOf c n = (c ≡ positive n) × (0 < get_or n 0 0)

behind_step : (x : ℕ) (xs n : List ℕ) (b : Bool) → nat_le 128 x ≡ b → cond b (some (x ∷ xs)) None ≡ some n
    → AreOf (0 ∷ x ∷ xs) n
behind_step x xs n true e h =
    let l : 128 ≤ x = leb-true 128 x e in
    subst (λ m. AreOf (0 ∷ x ∷ xs) m) (one_list (x ∷ xs) n h) (sym (large x xs (le-ltb x 128 l)), omega (arith, l))
behind_step x xs n false e h = absurd cc

behind_says : (xs n : List ℕ) → behind_sign xs ≡ some n → AreOf (0 ∷ xs) n
behind_says [] n h = absurd (let z : None ≡ some n = h in cc)
behind_says (x ∷ xs) n h = behind_step x xs n (nat_le 128 x) refl h

unsigned_step : (x : ℕ) (xs n : List ℕ) (b c : Bool) → (x == 0) ≡ b → nat_lt x 128 ≡ c
    → cond b (behind_sign xs) (cond c (some (x ∷ xs)) None) ≡ some n → AreOf (x ∷ xs) n
unsigned_step x xs n true c e f h =
    subst (λ y. AreOf (y ∷ xs) n) (sym (eqb-true x 0 e)) (behind_says xs n h)
unsigned_step x xs n false true e f h =
    let some_x : 0 < x = omega (arith, eqb-false x 0 e) in
    subst (λ m. AreOf (x ∷ xs) m) (one_list (x ∷ xs) n h) (sym (small x xs f), some_x)
unsigned_step x xs n false false e f h = absurd cc

pub unsigned_says : (c n : List ℕ) → unsigned c ≡ Some n → AreOf c n
unsigned_says [] n h = absurd (let z : None ≡ some n = h in cc)
unsigned_says (x ∷ xs) n h = unsigned_step x xs n (x == 0) (nat_lt x 128) refl refl h

is_step : (x : ℕ) (xs : List ℕ) (c : Bool) → 0 < x → nat_lt x 128 ≡ c → unsigned (positive (x ∷ xs)) ≡ Some (x ∷ xs)
is_step x xs true h f =
    let e : (x == 0) ≡ false = ne_eqb x 0 (λ z. omega (arith, z)) in
    ap unsigned (small x xs f) ∙ cond-false (x == 0) (behind_sign xs) (cond (nat_lt x 128) (some (x ∷ xs)) None) e
    ∙ cond-true (nat_lt x 128) (some (x ∷ xs)) None f
is_step x xs false h f =
    let l : 128 ≤ x = ltb-false x 128 f in
    ap unsigned (large x xs f) ∙ cond-true (nat_le 128 x) (some (x ∷ xs)) None (le-leb 128 x l)

pub unsigned_is : (n : List ℕ) → 0 < get_or n 0 0 → unsigned (positive n) ≡ Some n
unsigned_is [] h = absurd (omega arith)
unsigned_is (x ∷ xs) h = is_step x xs (nat_lt x 128) h refl

integer_step : (x : ℕ) (xs : List ℕ) (c : Bool) → 0 < x → nat_lt x 128 ≡ c → is_integer (positive (x ∷ xs)) ≡ true
integer_step x [] true h f = ap is_integer (small x [] f)
integer_step x (y ∷ ys) true h f =
    let l : x < 128 = ltb-true x 128 f in
    let e : (x == 0) ≡ false = ne_eqb x 0 (λ z. omega (arith, z)) in
    let g : (x == 255) ≡ false = ne_eqb x 255 (λ z. omega (arith, z, l)) in
    ap is_integer (small x (y ∷ ys) f) ∙ rw (e, g) refl
integer_step x xs false h f = ap is_integer (large x xs f) ∙ rw f refl

pub integer_of : (n : List ℕ) → 0 < get_or n 0 0 → is_integer (positive n) ≡ true
integer_of [] h = absurd (omega arith)
integer_of (x ∷ xs) h = integer_step x xs (nat_lt x 128) h refl

size_step : (x : ℕ) (xs : List ℕ) (c : Bool) → nat_lt x 128 ≡ c → length (positive (x ∷ xs)) ≤ length (x ∷ xs) + 1
size_step x xs true f = let e = ap length (small x xs f) in omega (arith, e)
size_step x xs false f = let e = ap length (large x xs f) in omega (arith, e)

pub positive_size : (n : List ℕ) → length (positive n) ≤ length n + 1
positive_size [] = omega arith
positive_size (x ∷ xs) = size_step x xs (nat_lt x 128) refl
