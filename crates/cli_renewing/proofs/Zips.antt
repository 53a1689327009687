-- What holds of a list place by place, at one more place.
use Rattle.std.proofs.Common.{◌≡◌, ◌<◌, ◌+◌, ℕ, zero, suc, List, [], ◌∷◌, ◌++◌, length, take, get_or, refl, sym, subst}
use Rattle.std.proofs.Common.{ap, arith}
use Rattle.std.specs.List.{AllByRecursion, AllZip, Any}
use Rattle.std.proofs.lemmas.List.{take_more}

pub zip_push : {A B : Type 0} (R : A → B → Type 0) (xs : List A) (ys : List B) (x : A) (y : B) → AllZip R xs ys → R x y
    → AllZip R (xs ++ x ∷ []) (ys ++ y ∷ [])
zip_push R [] [] x y all r = (r, tt)
zip_push R [] (z ∷ ys) x y all r = absurd all
zip_push R (z ∷ xs) [] x y all r = absurd all
zip_push R (z ∷ xs) (w ∷ ys) x y all r = (all.0, zip_push R xs ys x y all.1 r)

pub zip_next : {A B : Type 0} (R : A → B → Type 0) (xs : List A) (ys : List B) (i : ℕ) (d : A) (y : B) → i < length xs
    → AllZip R (take i xs) ys → R (get_or xs i d) y → AllZip R (take (i + 1) xs) (ys ++ y ∷ [])
zip_next {A} R xs ys i d y within all r =
    subst (λ (zs : List A). AllZip R zs (ys ++ y ∷ [])) (sym (take_more xs i d within))
    (zip_push R (take i xs) ys (get_or xs i d) y all r)

-- the same, if the items are lent
pub zip_more : {A B : Type 0} (R : A → B → Type 0) (xs lent : List A) (ys : List B) (i : ℕ) (d : A) (y : B)
    → lent ≡ xs → i < length lent → AllZip R (take i xs) ys → R (get_or lent i d) y
    → AllZip R (take (i + 1) xs) (ys ++ y ∷ [])
zip_more {A} R xs lent ys i d y same within all r =
    subst (λ (zs : List A). AllZip R (take (i + 1) zs) (ys ++ y ∷ [])) same
    (zip_next R lent ys i d y within (subst (λ (zs : List A). AllZip R (take i zs) ys) (sym same) all) r)

pub all_push : {A : Type 0} (P : A → Type 0) (xs : List A) (x : A) → AllByRecursion P xs → P x
    → AllByRecursion P (xs ++ x ∷ [])
all_push P [] x all p = (p, tt)
all_push P (z ∷ xs) x all p = (all.0, all_push P xs x all.1 p)

-- a place in the list doesn't depend on what stands for those outside
same_place : {A : Type 0} (xs : List A) (i : ℕ) (d e : A) → i < length xs → get_or xs i e ≡ get_or xs i d
same_place [] i d e within = absurd (omega (arith, within))
same_place (x ∷ xs) zero d e within = refl
same_place (x ∷ xs) (suc i) d e within = same_place xs i d e (omega (arith, within))

-- it holds somewhere, if the items are lent
pub any_at : {A : Type 0} (P : A → Type 0) (xs lent : List A) (i : ℕ) (d : A) → lent ≡ xs → i < length lent
    → P (get_or lent i d) → Any P xs
any_at {A} P xs lent i d same within p =
    subst (λ (zs : List A). Any P zs) same
    (i, get_or lent i d, within, same_place lent i d (get_or lent i d) within, p)

-- a list, split at a place
pub split_at : {A : Type 0} (xs : List A) (i : ℕ) (d : A) → i < length xs
    → (others : List A) × (xs ≡ take i xs ++ get_or xs i d ∷ others)
split_at [] i d within = absurd (omega (arith, within))
split_at (x ∷ xs) zero d within = (xs, refl)
split_at {A} (x ∷ xs) (suc i) d within =
    let its = split_at xs i d (omega (arith, within)) in
    (its.0, ap (λ (l : List A). x ∷ l) its.1)
