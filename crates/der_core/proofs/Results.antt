-- What the result of two steps says of each.
use Rattle.std.proofs.Common.{◌≡◌, ◌⊎◌, Result, Ok, Err, refl, inl, inr}
use Rattle.der_core.specs.Results.{◌>>=◌}

pub bind_ok : {A B E : Type 0} (r : Result A E) (f : A → Result B E) (y : B) → (r >>= f) ≡ Ok y
    → (x : A) × (r ≡ Ok x) × (f x ≡ Ok y)
bind_ok (Ok x) f y e = (x, refl, e)
bind_ok (Err d) f y e = absurd cc

pub bind_err : {A B E : Type 0} (r : Result A E) (f : A → Result B E) (d : E) → (r >>= f) ≡ Err d
    → (r ≡ Err d) ⊎ ((x : A) × (r ≡ Ok x) × (f x ≡ Err d))
bind_err (Ok x) f d e = inr (x, refl, e)
bind_err (Err g) f d e = inl cc
