-- Lists of octets that are the same.
use Rattle.std.proofs.Common.{◌≡◌, ℕ, Bool, true, ◌&&◌, eqb, List, [], ◌∷◌, refl, sym, ap, subst, ◌∙◌}
use Rattle.std.specs.Prelude.{◌↔◌, IsTrue}
use Rattle.std.proofs.lemmas.Bool.{eq-eqb}
use lib.Pointwise.{pointwise}
use Rattle.der_core.specs.Lists.{is_same}
use Rattle.der_core.proofs.Encoded.{same}

pub pointwise_same : (xs ys : List ℕ) → pointwise eqb xs ys ≡ is_same xs ys
pointwise_same [] [] = refl
pointwise_same [] (y ∷ ys) = refl
pointwise_same (x ∷ xs) [] = refl
pointwise_same (x ∷ xs) (y ∷ ys) = ap (λ (b : Bool). eqb x y && b) (pointwise_same xs ys)

pub same_again : (xs : List ℕ) → is_same xs xs ≡ true
same_again [] = refl
same_again (x ∷ xs) = rw (eq-eqb x x refl) (same_again xs)

pub is_then_same : (xs ys : List ℕ) → xs ≡ ys → is_same xs ys ≡ true
is_then_same xs ys e = subst (λ (l : List ℕ). is_same xs l ≡ true) e (same_again xs)

-- a comparison of octets that were read says whether these are alike
pub compared : (a a' b b' : List ℕ) (r : Bool) → a ≡ a' → b ≡ b' → r ≡ is_same a b → IsTrue r ↔ (a' ≡ b')
compared a a' b b' r at_a at_b at_r =
    (λ h. sym at_a ∙ (same a b (sym at_r ∙ h) ∙ at_b), λ e. at_r ∙ is_then_same a b (at_a ∙ (e ∙ sym at_b)))
