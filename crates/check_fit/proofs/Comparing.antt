-- Comparing octets piece by piece.
use Rattle.std.proofs.Common.{◌≡◌, ℕ, ◌<◌, ◌≤◌, ◌^◌, nat_lt, Bool, true, false, ◌&&◌, List, [], ◌∷◌, ◌++◌, length, take}
use Rattle.std.proofs.Common.{drop, refl, sym, ap, ◌∙◌, inl, inr}
use Rattle.std.proofs.Common.{arith}
use Rattle.std.proofs.lemmas.Bool.{cases_lt, lt-ltb}
use Rattle.std.specs.Prelude.{◌==◌}
use Rattle.der_core.specs.Element.{len}
use Rattle.der_core.specs.Lists.{is_same}
use Rattle.check_fit.specs.Attributes.{is_element_of}

and_assoc : (p q r : Bool) → (p && (q && r)) ≡ ((p && q) && r)
and_assoc true q r = refl
and_assoc false q r = refl

-- octets are a front followed by a body exactly when their own front is this front and what follows it is this body
pub same_by_parts : (front body octets : List ℕ) → length front ≤ length octets
    → is_same octets (front ++ body)
    ≡ (is_same (take (length front) octets) front && is_same (drop (length front) octets) body)
same_by_parts [] body octets le = refl
same_by_parts (u ∷ front) body [] le = absurd (omega arith)
same_by_parts (u ∷ front) body (v ∷ octets) le =
    ap (λ (p : Bool). v == u && p) (same_by_parts front body octets (omega arith))
    ∙ and_assoc (v == u) (is_same (take (length front) octets) front)
    (is_same (drop (length front) octets) body)

-- octets that are fewer than the front are not the front followed by a body
pub shorter_differs : (front body octets : List ℕ) → length octets < length front
    → is_same octets (front ++ body) ≡ false
shorter_differs [] body octets lt = absurd (omega arith)
shorter_differs (u ∷ front) body [] lt = refl
shorter_differs (u ∷ front) body (v ∷ octets) lt = rw (shorter_differs front body octets (omega arith)) (never (v == u))
  where
    never : (p : Bool) → (p && false) ≡ false
    never true = refl
    never false = refl

-- an element is its front and its contents
pub element_short : (t : ℕ) (b x front : List ℕ) → front ≡ t ∷ len (length b) → nat_lt (length b) (2 ^ 32) ≡ true
    → length x < length front
    → false ≡ is_element_of t b x
element_short t b x front is small lt =
    sym (rw (small) (ap (λ (f : List ℕ). is_same x (f ++ b)) (sym is) ∙ shorter_differs front b x lt))

pub element_parts : (t : ℕ) (b x front begin behind : List ℕ) → front ≡ t ∷ len (length b)
    → nat_lt (length b) (2 ^ 32) ≡ true → length front ≤ length x
    → begin ≡ take (length front) x → behind ≡ drop (length front) x
    → (is_same begin front && is_same behind b) ≡ is_element_of t b x
element_parts t b x front begin behind is small le at_begin at_behind =
    rw (small, at_begin, at_behind) (sym (same_by_parts front b x le) ∙ ap (λ (f : List ℕ). is_same x (f ++ b)) is)

pub small_enough : (n : ℕ) → (4294967295 < n → false ≡ true) → nat_lt n (2 ^ 32) ≡ true
small_enough n most = elim (cases_lt n
    (2 ^ 32)) [ inl lt ↦ lt-ltb n (2 ^ 32) lt | inr ge ↦ (let e : false ≡ true = most (omega arith) in absurd cc) ]
