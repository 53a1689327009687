-- The last of a list, and what comes before it.
use Rattle.std.proofs.Common.{◌≡◌, ◌⊎◌, ◌+◌, List, [], ◌∷◌, ◌++◌, length, refl, ap, ◌∙◌, inl, inr, arith}
use Rattle.std.proofs.lemmas.List.{length-append}
use Rattle.check_evidence.proofs.Places.{SameSplit, same_split}

-- a list has a last element, or is empty
pub record HasEnd {A : Type 0} (xs : List A) : Type 0 where
  pub front : List A
  pub end : A
  pub is : xs ≡ front ++ end ∷ []

pub ends : {A : Type 0} (xs : List A) → (xs ≡ []) ⊎ HasEnd xs
ends [] = inl refl
ends {A} (x ∷ xs) = go (ends xs)
  where
    go : (xs ≡ []) ⊎ HasEnd xs → (x ∷ xs ≡ []) ⊎ HasEnd (x ∷ xs)
    go (inl e) = inr (record { front = []; end = x; is = ap (λ l. x ∷ l) e })
    go (inr h) = inr (record { front = x ∷ h.front; end = h.end; is = ap (λ l. x ∷ l) h.is })

pub length_end : {A : Type 0} (xs : List A) (x : A) → length (xs ++ x ∷ []) ≡ length xs + 1
length_end xs x = length-append xs (x ∷ []) ∙ refl

pub same_end : {A : Type 0} (xs ys : List A) (x y : A) → xs ++ x ∷ [] ≡ ys ++ y ∷ [] → SameSplit xs ys x y [] []
same_end xs ys x y h =
    let e = ap length h in
    same_split xs ys x y [] [] (omega (arith, length_end xs x, length_end ys y)) h
