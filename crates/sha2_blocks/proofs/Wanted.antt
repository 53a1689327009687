-- What holds of a hash value, if it is wanted.
use Rattle.std.proofs.Common.{◌≡◌, List, ℕ, refl}
use Rattle.std.specs.Prelude.{IfSome, None, Option, Some, is_some, option_map}

pub if_then : (o : Option (List ℕ)) (P Q : List ℕ → Type 0) → IfSome o P → ((h : List ℕ) → P h → Q h) → IfSome o Q
if_then None P Q held next = tt
if_then (Some h) P Q held next = next h held

pub if_map : (o : Option (List ℕ)) (f : List ℕ → List ℕ) (P Q : List ℕ → Type 0) → IfSome o P
    → ((h : List ℕ) → P h → Q (f h))
    → IfSome (option_map f o) Q
if_map None f P Q held next = tt
if_map (Some h) f P Q held next = next h held

pub there_still : (o : Option (List ℕ)) (f : List ℕ → List ℕ) → is_some (option_map f o) ≡ is_some o
there_still None f = refl
there_still (Some h) f = refl

-- one function after another
pub map_next : (o p q : Option (List ℕ)) (f g next : List ℕ → List ℕ) → p ≡ option_map f o → q ≡ option_map next p
    → ((h : List ℕ) → next (f h) ≡ g h) → q ≡ option_map g o
map_next o p q f g next ep eq same = rw (eq, ep) (two o)
  where
    two : (x : Option (List ℕ)) → option_map next (option_map f x) ≡ option_map g x
    two None = refl
    two (Some h) = λ i. Some (same h i)

pub map_same : (o : Option (List ℕ)) (f : List ℕ → List ℕ) → ((h : List ℕ) → h ≡ f h) → o ≡ option_map f o
map_same None f same = refl
map_same (Some h) f same = λ i. Some (same h i)
