-- Values of one length, one after another.
use Rattle.std.proofs.Common.{◌≡◌, ℕ, ◌+◌, ◌*◌, ◌<◌, ◌≤◌, ◌-◌, zero, suc, List, [], ◌∷◌, ◌++◌, length, take, drop}
use Rattle.std.proofs.Common.{get_or}
use Rattle.std.proofs.Common.{refl, sym, ap, ◌∙◌, arith, length-drop, All}
use Rattle.std.proofs.lemmas.List.{take-append-le, drop-append-le, take-append-drop, drop-drop, length-take-le}
use Rattle.std.proofs.lemmas.List.{take_all}
use Rattle.std.specs.List.{concat}
use Rattle.std.proofs.Math.Nat.{mul-le-mul_right}
use Rattle.evidence_trees.specs.Pieces.{pieces}

pub length-pieces : (count size : ℕ) (octets : List ℕ) → length (pieces count size octets) ≡ count
length-pieces zero size octets = refl
length-pieces (suc count) size octets = ap suc (length-pieces count size (drop size octets))

-- one more at the end
pub pieces-push : (count size : ℕ) (octets value : List ℕ) → length octets ≡ count * size → length value ≡ size
    → pieces (suc count) size (octets ++ value) ≡ pieces count size octets ++ value ∷ []
pieces-push zero size [] value whole is = ap (λ (v : List ℕ). v ∷ []) (take_all size value (omega (arith, is)))
pieces-push zero size (x ∷ octets) value whole is = absurd (omega (arith, whole))
pieces-push (suc count) size octets value whole is =
    let fits : size ≤ length octets = omega (arith, whole) in
    let rest : length (drop size octets) ≡ count * size = omega (arith, whole, length-drop size octets) in
    let front : take size (octets ++ value) ≡ take size octets = take-append-le size octets value fits in
    let back : drop size (octets ++ value) ≡ drop size octets ++ value = drop-append-le size octets value fits in
    ap (λ (v : List ℕ). v ∷ pieces (suc count) size (drop size (octets ++ value))) front
    ∙ ap (λ (o : List ℕ). take size octets ∷ pieces (suc count) size o) back
    ∙ ap (λ (vs : List (List ℕ)). take size octets ∷ vs) (pieces-push count size (drop size octets) value rest is)

-- the piece at a place
pub pieces-at : (count size : ℕ) (octets : List ℕ) (place : ℕ) (d : List ℕ) → place < count
    → get_or (pieces count size octets) place d ≡ take size (drop (place * size) octets)
pieces-at zero size octets place d below = absurd (omega (arith, below))
pieces-at (suc count) size octets zero d below =
    let none : 0 * size ≡ 0 = omega arith in
    ap (λ (n : ℕ). take size (drop n octets)) (sym none)
pieces-at (suc count) size octets (suc place) d below =
    let next : size + place * size ≡ suc place * size = omega arith in
    pieces-at count size (drop size octets) place d (omega (arith, below))
    ∙ ap (take size) (drop-drop (place * size) size octets)
    ∙ ap (λ (n : ℕ). take size (drop n octets)) next

-- it is whole
pub piece_is_whole : (count size : ℕ) (octets : List ℕ) (place : ℕ) → place < count → length octets ≡ count * size
    → place * size + size ≤ length octets
piece_is_whole count size octets place below whole =
    let next : place + 1 ≤ count = omega (arith, below) in
    omega (arith, whole, mul-le-mul_right size next)

-- each has this length
pub pieces-sized : (count size : ℕ) (octets : List ℕ) → length octets ≡ count * size
    → All (λ v. length v ≡ size) (pieces count size octets)
pieces-sized count size octets whole = λ k d lt.
    let below : k < count = omega (arith, lt, length-pieces count size octets) in
    let fits = piece_is_whole count size octets k below whole in
    let left : length (drop (k * size) octets) ≡ length octets - k * size = length-drop (k * size) octets in
    let long : size ≤ length (drop (k * size) octets) = omega arith in
    ap length (pieces-at count size octets k d below) ∙ length-take-le size (drop (k * size) octets) long

-- one after another they are the octets
pub concat_pieces : (count size : ℕ) (octets : List ℕ) → length octets ≡ count * size
    → concat (pieces count size octets) ≡ octets
concat_pieces zero size [] whole = refl
concat_pieces zero size (x ∷ octets) whole = absurd (omega (arith, whole))
concat_pieces (suc count) size octets whole =
    let rest : length (drop size octets) ≡ count * size = omega (arith, whole, length-drop size octets) in
    ap (λ (o : List ℕ). take size octets ++ o) (concat_pieces count size (drop size octets) rest)
    ∙ take-append-drop size octets
