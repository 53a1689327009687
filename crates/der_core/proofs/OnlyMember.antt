-- The only member of a list.
use Rattle.std.proofs.Common.{◌≡◌, List, [], ◌∷◌, Some}
use Rattle.der_core.specs.Lists.{only}

pub only_is : {A : Type 0} (xs : List A) (x : A) → only xs ≡ Some x → xs ≡ x ∷ []
only_is [] x e = absurd cc
only_is (y ∷ []) x e = cc
only_is (y ∷ z ∷ zs) x e = absurd cc
