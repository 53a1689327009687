-- The last of a list, and what comes before it.
use Rattle.std.proofs.Common.{◌≡◌, ◌≢◌, ◌⊎◌, List, [], ◌∷◌, ◌++◌, inl, inr}
use Rattle.std.specs.List.{AllByRecursion}
use Rattle.judge_evidence.proofs.Ends.{HasEnd, ends}

pub end_of : {A : Type 0} (xs : List A) → xs ≢ [] → HasEnd xs
end_of {A} xs some = go (ends xs)
  where
    go : (xs ≡ []) ⊎ HasEnd xs → HasEnd xs
    go (inl e) = absurd (some e)
    go (inr h) = h

-- what holds of each holds of those before the last, and of the last
pub all_parts : {A : Type 0} (P : A → Type 0) (xs : List A) (x : A) → AllByRecursion P (xs ++ x ∷ [])
    → AllByRecursion P xs × P x
all_parts P [] x h = (tt, h.0)
all_parts P (y ∷ xs) x h = let k = all_parts P xs x h.1 in ((h.0, k.0), k.1)
