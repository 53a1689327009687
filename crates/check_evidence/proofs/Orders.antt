-- Byte order is a total order.
use Rattle.std.proofs.Common.{◌≡◌, ℕ, Bool, true, false, ◌&&◌, ◌||◌, nat_lt, ◌==◌, List, [], ◌∷◌, refl, arith}
use Rattle.std.proofs.lemmas.Bool.Decides.{nat_tests}
use Rattle.der_core.specs.Lists.{is_less}

-- of two that are not before each other both are the same
pub same_unless_less : (xs ys : List ℕ) → is_less xs ys ≡ false → is_less ys xs ≡ false → xs ≡ ys
same_unless_less [] [] h k = refl
same_unless_less [] (y ∷ ys) h k = absurd cc
same_unless_less (x ∷ xs) [] h k = absurd cc
same_unless_less (x ∷ xs) (y ∷ ys) h k =
    let is : x ≡ y = grind (arith, nat_tests) in
    let front : is_less xs ys ≡ false = grind (arith, nat_tests) in
    let back : is_less ys xs ≡ false = grind (arith, nat_tests) in
    let rest = same_unless_less xs ys front back in
    λ i. is i ∷ rest i

pub never_less : (xs : List ℕ) → is_less xs xs ≡ false
never_less [] = refl
never_less (x ∷ xs) = let rest = never_less xs in grind (arith, nat_tests)

-- if the second isn't before the first, nor the third before the second, the third isn't before the first
pub not_less : (xs ys zs : List ℕ) → is_less ys xs ≡ false → is_less zs ys ≡ false → is_less zs xs ≡ false
not_less [] ys [] h k = refl
not_less [] ys (z ∷ zs) h k = refl
not_less (x ∷ xs) [] zs h k = absurd cc
not_less (x ∷ xs) (y ∷ ys) [] h k = absurd cc
not_less (x ∷ xs) (y ∷ ys) (z ∷ zs) h k =
    let rest : is_less ys xs ≡ false → is_less zs ys ≡ false → is_less zs xs ≡ false = not_less xs ys zs in
    go (is_less ys xs) (is_less zs ys) (is_less zs xs) rest h k
  where
    go : (a b c : Bool) → (a ≡ false → b ≡ false → c ≡ false) → (nat_lt y x || (y == x && a)) ≡ false
        → (nat_lt z y || (z == y && b)) ≡ false → (nat_lt z x || (z == x && c)) ≡ false
    go a b true rest h k = grind (arith, nat_tests)
    go a b false rest h k = grind (arith, nat_tests)

-- of two that differ one alone is before the other
pub less_is_not : (xs ys : List ℕ) → is_less xs ys ≡ true → is_less ys xs ≡ false
less_is_not [] [] h = absurd cc
less_is_not [] (y ∷ ys) h = refl
less_is_not (x ∷ xs) [] h = absurd cc
less_is_not (x ∷ xs) (y ∷ ys) h = go (is_less xs ys) (is_less ys xs) (less_is_not xs ys) h
  where
    go : (a b : Bool) → (a ≡ true → b ≡ false) → (nat_lt x y || (x == y && a)) ≡ true
        → (nat_lt y x || (y == x && b)) ≡ false
    go true true rest h = let no : true ≡ false = rest refl in absurd cc
    go true false rest h = grind (arith, nat_tests)
    go false true rest h = grind (arith, nat_tests)
    go false false rest h = grind (arith, nat_tests)
