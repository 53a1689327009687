-- What was put of the beginnings of elements.
use Rattle.std.proofs.Common.{◌≡◌, ℕ, zero, suc, ◌+◌, ◌<◌, ◌≤◌, List, [], ◌∷◌, ◌++◌, length, get_or, drop, Ok, refl}
use Rattle.std.proofs.Common.{sym, ap, subst, ◌∙◌, append-nil}
use Rattle.std.proofs.Common.{arith}
use Rattle.std.proofs.Math.Seq.{drop-cons, drop-nil}
use Rattle.devices.specs.Device.{Wrote}
use Rattle.tsp_requester.specs.declared.opening.Opening.{Opening}
use Rattle.tsp_requester.specs.Pieces.{opening_octets, openings_octets}

-- those from one on
from_one : (all : List Opening) (i : ℕ) (o : Opening) → i < length all → o ≡ get_or all i o
    → drop i all ≡ o ∷ drop (i + 1) all
from_one all i o h e =
    let n : suc i ≡ i + 1 = omega arith in
    drop-cons all i o h ∙ ap (λ (x : Opening). x ∷ drop (suc i) all) (sym e) ∙ ap (λ (m : ℕ). o ∷ drop m all) n

pub openings_are : (all : List Opening) (i : ℕ) (o : Opening) → i < length all → o ≡ get_or all i o
    → openings_octets (drop i all) ≡ opening_octets o ++ openings_octets (drop (i + 1) all)
openings_are all i o h e = ap openings_octets (from_one all i o h e)

dropped : (all : List Opening) (i : ℕ) → length all ≤ i → drop i all ≡ []
dropped [] i h = drop-nil i
dropped (o ∷ all) zero h = absurd (omega arith)
dropped (o ∷ all) (suc i) h = dropped all i (omega arith)

pub openings_end : (u : Unit {0}) (tells : Type 0) (t : List ℕ) (c : ℕ) (all : List Opening) (i : ℕ)
    → length all ≤ i → Wrote (Ok u) tells t t c c (openings_octets (drop i all))
openings_end u tells t c all i h =
    subst (λ (x : List Opening). Wrote (Ok u) tells t t c c (openings_octets x)) (sym (dropped all i h))
    ((λ h. sym (append-nil t)), refl)
