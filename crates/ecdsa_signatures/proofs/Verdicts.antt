-- What the parts of a verification say of the whole.
use Rattle.std.proofs.Common.{◌≡◌, ℕ, ◌+◌, ◌*◌, ◌%◌, ◌<◌, ◌≤◌, Bool, true, false, ◌&&◌, nat_eq, nat_lt}
use Rattle.std.proofs.Common.{refl, sym, ◌∙◌, ap, subst, zero, suc, arith, ◌↔◌}
use Rattle.std.proofs.Math.Nat.{mod-eq_of_lt}
use Rattle.std.proofs.lemmas.Bool.Decides.{nat_tests}
use Rattle.curve_points.specs.Residues.{Congruent, inverse, HasWitness}
use Rattle.curve_points.specs.Points.{affine, is_on_curve, sum, multiple}
use Rattle.curve_points.proofs.Congruence.{turned, chained, summed, multiplied, scaled, combined}
use Rattle.curve_points.proofs.Units.{inverse_only, none_left}
use Rattle.ecdsa_signatures.specs.Signatures.{Parameters, is_scalar, leaves, found_point, is_signed}

no_first : (a b : Bool) → a ≡ false → false ≡ (a && b)
no_first true b h = cc
no_first false b h = refl

of_first : (a b : Bool) → a ≡ true → b ≡ (a && b)
of_first true b h = refl
of_first false b h = cc

-- no key
pub bad_key : (c : Parameters) (x y e r s : ℕ) → is_on_curve c.p c.b x y ≡ false → false ≡ is_signed c x y e r s
unfolding is_signed
bad_key c x y e r s h = no_first (is_on_curve c.p c.b x y) _ h

-- r or s is out of range
pub bad_r : (c : Parameters) (x y e r s : ℕ) → is_on_curve c.p c.b x y ≡ true → is_scalar c.n r ≡ false
    → false ≡ is_signed c x y e r s
unfolding is_signed
bad_r c x y e r s h k = no_first (is_scalar c.n r) _ k ∙ of_first (is_on_curve c.p c.b x y) _ h

pub bad_s : (c : Parameters) (x y e r s : ℕ) → is_on_curve c.p c.b x y ≡ true → is_scalar c.n r ≡ true
    → is_scalar c.n s ≡ false → false ≡ is_signed c x y e r s
unfolding is_signed
bad_s c x y e r s h k l =
    no_first (is_scalar c.n s) _ l ∙ of_first (is_scalar c.n r) _ k ∙ of_first (is_on_curve c.p c.b x y) _ h

-- the last test decides
pub last_is : (c : Parameters) (x y e r s : ℕ) (b : Bool) → is_on_curve c.p c.b x y ≡ true → is_scalar c.n r ≡ true
    → is_scalar c.n s ≡ true → b ≡ leaves c.n r (found_point c x y e r s) → b ≡ is_signed c x y e r s
unfolding is_signed
last_is c x y e r s b h k l m =
    m ∙ of_first (is_scalar c.n s) _ l ∙ of_first (is_scalar c.n r) _ k ∙ of_first (is_on_curve c.p c.b x y) _ h

not_below : (x p : ℕ) → p ≤ x → nat_lt x p ≡ false
not_below x p h = grind (arith, nat_tests)

is_below : (x p : ℕ) → x < p → nat_lt x p ≡ true
is_below x p h = grind (arith, nat_tests)

first_no : (a b c : Bool) → a ≡ false → (a && b && c) ≡ false
first_no true b c h = cc
first_no false b c h = refl

pub bad_x : (p b x y : ℕ) → p ≤ x → is_on_curve p b x y ≡ false
bad_x p b x y h =
    first_no (nat_lt x p) (nat_lt y p) (nat_eq ((y * y + 3 * x) % p) ((x * (x * x) + b) % p)) (not_below x p h)

second_no : (a b c : Bool) → b ≡ false → (a && b && c) ≡ false
second_no true true c h = cc
second_no true false c h = refl
second_no false b c h = refl

third_is : (a b c : Bool) → a ≡ true → b ≡ true → (a && b && c) ≡ c
third_is true true c h k = refl
third_is true false c h k = cc
third_is false b c h k = cc

pub bad_y : (p b x y : ℕ) → p ≤ y → is_on_curve p b x y ≡ false
bad_y p b x y h = second_no (nat_lt x p) (nat_lt y p) _ (not_below y p h)

-- whether the code found a key
pub key_is : (c : Parameters) (q X Y B x y : ℕ) (t : Bool) → q ≡ c.p → X ≡ x → Y ≡ y → B ≡ c.b → x < c.p → y < c.p
    → t ≡ nat_eq ((Y * Y + 3 * X) % q) ((X * (X * X) + B) % q) → is_on_curve c.p c.b x y ≡ t
key_is c q X Y B x y t e f g h small_x small_y k =
    third_is (nat_lt x c.p) (nat_lt y c.p) _ (is_below x c.p small_x) (is_below y c.p small_y)
    ∙ sym (k
    ∙ ap (λ n. nat_eq ((Y * Y + 3 * X) % n) ((X * (X * X) + B) % n)) e
    ∙ ap (λ n. nat_eq ((Y * Y + 3 * n) % c.p) ((n * (n * n) + B) % c.p)) f
    ∙ ap (λ n. nat_eq ((n * n + 3 * x) % c.p) ((x * (x * x) + B) % c.p)) g
    ∙ ap (λ n. nat_eq ((y * y + 3 * x) % c.p) ((x * (x * x) + n) % c.p)) h)

-- the words of a number that the code divided by s
pub quotient_is : (n m a s d i t S u : ℕ) → m ≡ n → 1 < m → S ≡ s → Congruent m (S * i) 1 → Congruent n d a
    → Congruent m t (d * i) → u ≡ t % n → u ≡ (a * inverse n s) % n
quotient_is n m a s d i t S u e large f is_inverse is_d is_t is_u =
    let big : 1 < n = subst (λ k. 1 < k) e large in
    let inverts : Congruent n (s * i) 1 =
    subst (λ k. Congruent n (k * i) 1) f (subst (λ k. Congruent k (S * i) 1) e is_inverse) in
    is_u
    ∙ (chained (subst (λ k. Congruent k t (d * i)) e is_t)
    (multiplied is_d (turned (inverse_only n s i big inverts)))).same

-- the point that the code found
pub compared_is : (c : Parameters) (q k l X Y G H u v x y e r s : ℕ) → q ≡ c.p → k ≡ c.bits → l ≡ c.bits
    → G ≡ c.base_x → H ≡ c.base_y → X ≡ x → Y ≡ y → u ≡ (e * inverse c.n s) % c.n → v ≡ (r * inverse c.n s) % c.n
    → sum q (multiple q (affine G H) k u) (multiple q (affine X Y) l v) ≡ found_point c x y e r s
unfolding found_point
compared_is c q k l X Y G H u v x y e r s is_q is_k is_l is_g is_h is_x is_y is_u is_v =
    ap (λ n. sum n (multiple n (affine G H) k u) (multiple n (affine X Y) l v)) is_q
    ∙ ap (λ n. sum c.p (multiple c.p (affine G H) n u) (multiple c.p (affine X Y) l v)) is_k
    ∙ ap (λ n. sum c.p (multiple c.p (affine G H) c.bits u) (multiple c.p (affine X Y) n v)) is_l
    ∙ ap (λ n. sum c.p (multiple c.p (affine n H) c.bits u) (multiple c.p (affine X Y) c.bits v)) is_g
    ∙ ap (λ n. sum c.p (multiple c.p (affine c.base_x n) c.bits u) (multiple c.p (affine X Y) c.bits v)) is_h
    ∙ ap (λ n. sum c.p (multiple c.p (affine c.base_x c.base_y) c.bits u) (multiple c.p (affine n Y) c.bits v)) is_x
    ∙ ap (λ n. sum c.p (multiple c.p (affine c.base_x c.base_y) c.bits u) (multiple c.p (affine x n) c.bits v)) is_y
    ∙ ap (λ n. sum c.p (multiple c.p (affine c.base_x c.base_y) c.bits n) (multiple c.p (affine x y) c.bits v)) is_u
    ∙ ap (λ n. sum c.p (multiple c.p (affine c.base_x c.base_y) c.bits ((e * inverse c.n s) % c.n))
    (multiple c.p (affine x y) c.bits n)) is_v

-- s is not 0
positive : (n s : ℕ) → is_scalar n s ≡ true → 0 < s
positive n zero h = cc
positive n (suc s) h = omega arith

below : (n s : ℕ) → is_scalar n s ≡ true → s < n
below n s h = less (nat_lt 0 s) (nat_lt s n) refl h where
  less : (a b : Bool) → nat_lt s n ≡ b → (a && b) ≡ true → s < n
  less true true e k = grind (arith, nat_tests)
  less true false e k = cc
  less false b e k = cc

some : (s : ℕ) → 0 < s → s ≡ 0 → ⊥
some s h e = omega arith

pub not_none : (n m s S : ℕ) → m ≡ n → 1 < m → S ≡ s → is_scalar n s ≡ true → Congruent m S 0 → ⊥
not_none n m s S e large f h k =
    some s (positive n s h)
    (sym (mod-eq_of_lt (below n s h))
    ∙ none_left n s (subst (λ i. 1 < i) e large) (subst (λ i. Congruent n i 0) f (subst (λ i. Congruent i S 0) e k)))

-- a number that shows that the modulus is no prime
pub witness_at : (n m : ℕ) → m ≡ n → HasWitness m → HasWitness n
witness_at n m e h = subst (λ i. HasWitness i) e h

differs : (m n : ℕ) → (m ≡ n → ⊥) → nat_eq m n ≡ false
differs m n h = grind (arith, nat_tests)

agrees : (m n : ℕ) → m ≡ n → nat_eq m n ≡ true
agrees m n h = grind (arith, nat_tests)

decided : (b : Bool) (m n : ℕ) → (b ≡ true) ↔ (m ≡ n) → b ≡ nat_eq m n
decided true m n h = sym (agrees m n (h.0 refl))
decided false m n h = sym (differs m n (λ e. let k : false ≡ true = h.1 e in cc))

-- a test of two numbers that are congruent to two others
pub compared : (p left right m n : ℕ) (b : Bool) → (b ≡ true) ↔ Congruent p left right → Congruent p left m
    → Congruent p right n → b ≡ nat_eq (m % p) (n % p)
compared p left right m n b h f g =
    decided b (m % p) (n % p) (
      (λ e. (chained (turned f) (chained (h.0 e) g)).same),
      (λ e. h.1 (chained f (chained (record { same = e }) (turned g)))),
    )

pub left_is : (p x y yy two_x three_x left : ℕ) → Congruent p yy (y * y) → Congruent p two_x (x + x)
    → Congruent p three_x (two_x + x) → Congruent p left (yy + three_x) → Congruent p left (y * y + 3 * x)
left_is p x y yy two_x three_x left is_yy is_two_x is_three_x is_left =
    combined left (y * y + 3 * x) (summed is_left (summed is_yy (summed is_three_x is_two_x))) (omega arith)

pub right_is : (p x xx xxx right b : ℕ) → Congruent p xx (x * x) → Congruent p xxx (x * xx)
    → Congruent p right (xxx + b) → Congruent p right (x * (x * x) + b)
right_is p x xx xxx right b is_xx is_xxx is_right =
    combined right (x * (x * x) + b) (summed is_right (summed is_xxx (scaled x is_xx))) (omega arith)
