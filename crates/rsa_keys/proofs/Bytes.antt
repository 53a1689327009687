-- The octets of parts are octets.
use Rattle.std.proofs.Common.{ℕ, List, ◌∷◌, ◌++◌, length, refl, subst}
use Rattle.std.proofs.lemmas.List.{drop_at, take_at}
use Rattle.der_core.specs.Element.{el, len, IsBytes}
use Rattle.der_core.proofs.ReadLengths.{IsBytes-drop, IsBytes-take}

pub bytes_behind : (a b : List ℕ) → IsBytes (a ++ b) → IsBytes b
bytes_behind a b h = subst IsBytes (drop_at a b (length a) refl) (IsBytes-drop (length a) (a ++ b) h)

pub bytes_before : (a b : List ℕ) → IsBytes (a ++ b) → IsBytes a
bytes_before a b h = subst IsBytes (take_at a b (length a) refl) (IsBytes-take (length a) (a ++ b) h)

pub bytes_inside : (t : ℕ) (b : List ℕ) → IsBytes (el t b) → IsBytes b
bytes_inside t b h = bytes_behind (t ∷ len (length b)) b h
