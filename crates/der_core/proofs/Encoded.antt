-- A test that octets are an encoding, so that a row which says so of given octets is proved by computing.
use Rattle.std.proofs.Common.{◌≡◌, ℕ, zero, suc, ◌+◌, ◌-◌, ◌*◌, ◌^◌, List, [], ◌∷◌, ◌++◌, length, take, drop, Bool}
use Rattle.std.proofs.Common.{true, false, cond, not, refl, inl, inr}
use Rattle.std.proofs.Common.{◌&&◌}
use Rattle.std.specs.Prelude.{◌⊎◌, ◌==◌, ◌≢◌, nat_lt}
use Rattle.std.proofs.lemmas.Bool.{eqb-true, ltb-true}
use Rattle.der_core.specs.Element.{is_tag, el, IsElement}
use Rattle.der_core.specs.Lists.{is_same}
use Rattle.der_core.specs.Form.{Form, opaque, contents, full, part, opaques, switch, filled, takes, inside_of, behind}
use Rattle.der_core.specs.Form.{may_drop, dropped, Element, passed_by}
use Rattle.der_core.specs.Form.{is_early, is_second}
use Rattle.der_core.specs.Encoding.{IsEncoding, Encodes, anything, held, ended, next, absent, has}
use Rattle.der_core.proofs.Refuted.{and_true, not_true}

-- ---- lists

pub same : (xs ys : List ℕ) → is_same xs ys ≡ true → xs ≡ ys
same [] [] e = refl
same [] (y ∷ ys) e = absurd cc
same (x ∷ xs) [] e = absurd cc
same (x ∷ xs) (y ∷ ys) e =
    let p = and_true (x == y) (is_same xs ys) e in
    let h = eqb-true x y p.0 in
    let t = same xs ys p.1 in
    λ i. h i ∷ t i

abbrev pub is_empty : List ℕ → Bool
is_empty [] = true
is_empty (x ∷ xs) = false

pub empty : (s : List ℕ) → is_empty s ≡ true → s ≡ []
empty [] e = refl
empty (x ∷ xs) e = absurd cc

pub not_empty : (s : List ℕ) → is_empty s ≡ false → s ≢ []
not_empty [] e h = absurd cc
not_empty (x ∷ xs) e h = absurd cc

-- ---- the header that octets begin with

pub record Header : Type 0 where
  pub tag : ℕ
  pub size : ℕ
  pub beyond : List ℕ

abbrev pub number : ℕ → List ℕ → ℕ
number n [] = n
number n (o ∷ os) = number (256 * n + o) os

-- the header at the front of octets; whether it is a valid one is tested with its element
abbrev pub header : List ℕ → Header
header [] = record { tag = 0; size = 0; beyond = [] }
header (t ∷ []) = record { tag = t; size = 0; beyond = [] }
header (t ∷ l ∷ s) =
    let size = cond (nat_lt l 128) l (number 0 (take (l - 128) s)) in
    let beyond = cond (nat_lt l 128) s (drop (l - 128) s) in
    record { tag = t; size = size; beyond = beyond }

-- the octets are this element followed by these octets
abbrev pub stands : List ℕ → ℕ → List ℕ → List ℕ → Bool
stands s t b r = is_same s (el t b ++ r) && (is_tag t && nat_lt (length b) (2 ^ 32))

pub record Standing (s : List ℕ) (t : ℕ) (b r : List ℕ) : Type 0 where
  pub spelled : s ≡ el t b ++ r
  pub is : IsElement t b

pub standing : (s : List ℕ) (t : ℕ) (b r : List ℕ) → stands s t b r ≡ true → Standing s t b r
standing s t b r e =
    let p = and_true (is_same s (el t b ++ r)) (is_tag t && nat_lt (length b) (2 ^ 32)) e in
    let q = and_true (is_tag t) (nat_lt (length b) (2 ^ 32)) p.1 in
    record {
      spelled = same s (el t b ++ r) p.0;
      is = record { identifier = q.0; size = ltb-true (length b) (2 ^ 32) q.1 };
    }

-- ---- encodings

abbrev Judge : Type 0
Judge = List Element → Form → List ℕ → Bool

-- an element that the first due part takes, its contents and what follows
abbrev taken : Judge → List Element → Form → List ℕ → ℕ → List ℕ → List ℕ → Bool
taken judge ps due s t b r =
    stands s t b r && (takes due t && (not (is_early due ps (t, b)) && (not (is_second due ps (t, b))
    && (judge [] (inside_of due t) b && judge (passed_by due ps (t, b)) (behind due b) r))))

abbrev by_parts : Judge → Judge
by_parts judge ps due s =
    let h = header s in
    let here = taken judge ps due s h.tag (take h.size h.beyond) (drop h.size h.beyond) in
    let away = may_drop due && judge [] (dropped due) s in
    cond (takes due h.tag) here away

abbrev by_form : Judge → Judge
by_form judge ps opaque s = true
by_form judge ps (contents k formed allowed) s = formed s && allowed s
by_form judge ps full s = is_empty s
by_form judge ps (filled f) s = not (is_empty s) && judge [] f s
by_form judge ps (part count tags inside after) s = by_parts judge ps (part count tags inside after) s
by_form judge ps (opaques count after) s = by_parts judge ps (opaques count after) s
by_form judge ps (switch tag inside these same other) s = by_parts judge ps (switch tag inside these same other) s

-- the octets are an encoding, after these elements; the number bounds the steps
abbrev pub is_encoded : ℕ → List Element → Form → List ℕ → Bool
is_encoded zero ps f s = false
is_encoded (suc n) ps f s = by_form (λ ps f s. is_encoded n ps f s) ps f s

abbrev IsSound : Judge → Type 0
IsSound judge = (ps : List Element) (f : Form) (s : List ℕ) → judge ps f s ≡ true → Encodes ps f s

taken_sound : (judge : Judge) → IsSound judge → (ps : List Element) (due : Form) (s : List ℕ) (t : ℕ) (b r : List ℕ)
    → taken judge ps due s t b r ≡ true → Encodes ps due s
taken_sound judge sound ps due s t b r e =
    let p = and_true (stands s t b r) _ e in
    let q = and_true (takes due t) _ p.1 in
    let u = and_true (not (is_early due ps (t, b))) _ q.1 in
    let v = and_true (not (is_second due ps (t, b))) _ u.1 in
    let w = and_true (judge [] (inside_of due t) b) (judge (passed_by due ps (t, b)) (behind due b) r) v.1 in
    let h = standing s t b r p.0 in
    next t b r h.spelled h.is q.0 (not_true _ u.0) (not_true _ v.0) (sound [] (inside_of due t) b w.0)
    (sound (passed_by due ps (t, b)) (behind due b) r w.1)

pub chosen : (c x y : Bool) → cond c x y ≡ true → ((c ≡ true) × (x ≡ true)) ⊎ ((c ≡ false) × (y ≡ true))
chosen true x y e = inl (refl, e)
chosen false x y e = inr (refl, e)

parts_sound : (judge : Judge) → IsSound judge → (ps : List Element) (due : Form) (s : List ℕ)
    → by_parts judge ps due s ≡ true → Encodes ps due s
parts_sound judge sound ps due s e =
    let h = header s in
    let b = take h.size h.beyond in
    let r = drop h.size h.beyond in
    elim (chosen (takes due h.tag) (taken judge ps due s h.tag b r) (may_drop due && judge [] (dropped due) s) e) [
      | inl x ↦ taken_sound judge sound ps due s h.tag b r x.1
      | inr x ↦ let p = and_true (may_drop due) (judge [] (dropped due) s) x.1 in
          absent p.0 (sound [] (dropped due) s p.1)
    ]

form_sound : (judge : Judge) → IsSound judge → IsSound (by_form judge)
form_sound judge sound ps opaque s e = anything
form_sound judge sound ps (contents k formed allowed) s e = let p = and_true (formed s) (allowed s) e in held p.0 p.1
form_sound judge sound ps full s e = ended (empty s e)
form_sound judge sound ps (filled f) s e =
    let p = and_true (not (is_empty s)) (judge [] f s) e in has (not_empty s (not_true _ p.0)) (sound [] f s p.1)
form_sound judge sound ps (part count tags inside after) s e =
    parts_sound judge sound ps (part count tags inside after) s e
form_sound judge sound ps (opaques count after) s e = parts_sound judge sound ps (opaques count after) s e
form_sound judge sound ps (switch tag inside these same other) s e =
    parts_sound judge sound ps (switch tag inside these same other) s e

pub encoded : (n : ℕ) (ps : List Element) (f : Form) (s : List ℕ) → is_encoded n ps f s ≡ true → Encodes ps f s
encoded zero ps f s e = absurd cc
encoded (suc n) ps f s e = form_sound (λ ps f s. is_encoded n ps f s) (λ ps f s e. encoded n ps f s e) ps f s e

-- a row: write `encodes _ _ refl`
pub encodes : (form : Form) (bytes : List ℕ) → is_encoded 200 [] form bytes ≡ true → IsEncoding form bytes
encodes form bytes e = encoded 200 [] form bytes e
