-- A search for a fault of given octets, so that a row which states one is proved by computing.
use Rattle.std.proofs.Common.{◌≡◌, ℕ, zero, suc, ◌+◌, ◌-◌, ◌<◌, ◌≤◌, ◌^◌, List, [], ◌∷◌, ◌++◌, length, take, drop, Bool}
use Rattle.std.proofs.Common.{true, false, cond, not, refl, sym}
use Rattle.std.proofs.Common.{subst, inl, inr, ◌&&◌, ◌||◌}
use Rattle.std.specs.Prelude.{◌⊎◌, ◌==◌, ◌≢◌, nat_lt, nat_le}
use Rattle.std.proofs.lemmas.Bool.{eqb-true, ltb-true, leb-true}
use Rattle.der_core.specs.declared.fault.Kind.{Kind}
use Rattle.der_core.specs.declared.fault.Kind.TheVariants.{End, HighTag, Indefinite, LengthForm, Overrun, Tag, Trailing}
use Rattle.der_core.specs.declared.fault.Kind.TheVariants.{Integer, Oid, Boolean, Bits, Time}
use Rattle.der_core.specs.declared.fault.Kind.TheVariants.{Value, Order, Empty}
use Rattle.der_core.specs.declared.fault.Fault.{Fault}
use Rattle.der_core.specs.Element.{is_tag, len, el}
use Rattle.der_core.specs.Lists.{is_same}
use Rattle.der_core.specs.Form.{Form, opaque, contents, full, part, opaques, switch, filled, takes, inside_of, behind}
use Rattle.der_core.specs.Form.{may_drop, dropped, may_stand, body_of}
use Rattle.der_core.specs.Form.{is_filled, passed_by, is_early, is_second}
use Rattle.der_core.specs.Encoding.{Encodes, IsEncoding}
use Rattle.der_core.specs.Faults.{Place, place, StandsNot, Reaches, stays, passes, enters, drops, IsDue, IsMalformed}
use Rattle.der_core.specs.Faults.{IsOther, Stands, Begins, LengthEnds}
use Rattle.der_core.specs.Faults.{IsNoLength, IsHere, Fact, Faults}
use Rattle.der_core.specs.Clear.{clear}
use Rattle.der_core.proofs.Refuted.{and_true, not_true, refuted}
use Rattle.der_core.proofs.Encoded.{same, is_empty, empty, not_empty, header, stands, standing, chosen, is_encoded}
use Rattle.der_core.proofs.Encoded.{encoded}

-- ---- tests, and what they prove

pub record Test (P : Type 0) : Type 0 where
  pub passed : Bool
  pub shows : passed ≡ true → P

pub not_both : {P : Type 0} → false ≡ true → P
not_both e = absurd cc

abbrev pub fails : {P : Type 0} → Test P
fails = record { passed = false; shows = λ e. not_both e }

abbrev pub stated : (b : Bool) → Test (b ≡ true)
stated b = record { passed = b; shows = λ e. e }

abbrev pub denied : (b : Bool) → Test (b ≡ false)
denied b = record { passed = not b; shows = λ e. not_true b e }

abbrev pub alike : (m n : ℕ) → Test (m ≡ n)
alike m n = record { passed = m == n; shows = λ e. eqb-true m n e }

abbrev pub below : (m n : ℕ) → Test (m < n)
below m n = record { passed = nat_lt m n; shows = λ e. ltb-true m n e }

abbrev pub within : (m n : ℕ) → Test (m ≤ n)
within m n = record { passed = nat_le m n; shows = λ e. leb-true m n e }

abbrev pub spelled : (xs ys : List ℕ) → Test (xs ≡ ys)
spelled xs ys = record { passed = is_same xs ys; shows = λ e. same xs ys e }

abbrev pub nothing : (s : List ℕ) → Test (s ≡ [])
nothing s = record { passed = is_empty s; shows = λ e. empty s e }

abbrev pub something : (s : List ℕ) → Test (s ≢ [])
something s = record { passed = not (is_empty s); shows = λ e. not_empty s (not_true (is_empty s) e) }

abbrev pub also : {P Q : Type 0} → Test P → Test Q → Test (P × Q)
also p q = record {
  passed = p.passed && q.passed;
  shows = λ e. let b = and_true p.passed q.passed e in
      (p.shows b.0, q.shows b.1);
}

abbrev pub so : {P Q : Type 0} → (P → Q) → Test P → Test Q
so f p = record { passed = p.passed; shows = λ e. f (p.shows e) }

one_of : (a b : Bool) → (a || b) ≡ true → (a ≡ true) ⊎ (b ≡ true)
one_of true b e = inl refl
one_of false b e = inr e

pub either_by : {P Q : Type 0} → (a b : Bool) → (a ≡ true → P) → (b ≡ true → Q) → (a || b) ≡ true → P ⊎ Q
either_by a b f g e = elim (one_of a b e) [ inl h ↦ inl (f h) | inr h ↦ inr (g h) ]

abbrev pub or : {P Q : Type 0} → Test P → Test Q → Test (P ⊎ Q)
or p q = record { passed = p.passed || q.passed; shows = λ e. either_by p.passed q.passed p.shows q.shows e }

-- ---- the words of the facts

abbrev due : (f : Form) → Test (IsDue f)
due (part count tags inside after) = record { passed = true; shows = λ e. tt }
due (opaques count after) = record { passed = true; shows = λ e. tt }
due (switch tag inside these same other) = record { passed = true; shows = λ e. tt }
due opaque = fails
due (contents k formed allowed) = fails
due full = fails
due (filled f) = fails

-- the octet at the front, and what follows
abbrev front : List ℕ → ℕ
front [] = 0
front (x ∷ xs) = x

abbrev pub follow : List ℕ → List ℕ
follow [] = []
follow (x ∷ xs) = xs

abbrev goes_on : (p : Place) → Test (Stands p (front p.rest) (follow p.rest))
goes_on p = also (due p.due) (spelled p.rest (front p.rest ∷ follow p.rest))

abbrev begins : (p : Place) → Test (Begins p (front p.rest) (follow p.rest))
begins p = also (goes_on p) (stated (is_tag (front p.rest)))

abbrev length_ends : (s : List ℕ) (k : ℕ) → Test (LengthEnds s k)
length_ends [] k = alike k 0
length_ends (l ∷ s) k =
    so (λ (a, b). (a.0, a.1, b.0, b.1))
    (also (also (below 128 l) (within l 132)) (also (below (length s) (l - 128)) (alike k (1 + length s))))

abbrev no_length : (s : List ℕ) → Test (IsNoLength s)
no_length [] = fails
no_length (l ∷ []) = below 132 l
no_length (l ∷ o ∷ s) = or (below 132 l) (or (also (below 128 l) (alike o 0)) (also (alike l 129) (below o 128)))

abbrev same_kind : (k k' : Kind) → Test (k ≡ k')
same_kind Integer Integer = record { passed = true; shows = λ e. refl }
same_kind Oid Oid = record { passed = true; shows = λ e. refl }
same_kind Boolean Boolean = record { passed = true; shows = λ e. refl }
same_kind Bits Bits = record { passed = true; shows = λ e. refl }
same_kind Time Time = record { passed = true; shows = λ e. refl }
same_kind _ _ = fails

abbrev malformed : (k : Kind) (f : Form) (s : List ℕ) → Test (IsMalformed k f s)
malformed k (contents k' formed allowed) s = also (same_kind k k') (denied (formed s))
malformed k opaque s = fails
malformed k full s = fails
malformed k (part count tags inside after) s = fails
malformed k (opaques count after) s = fails
malformed k (switch tag inside these same other) s = fails
malformed k (filled f) s = fails

abbrev misvalued : (f : Form) (s : List ℕ) → Test (IsOther f s)
misvalued (contents k formed allowed) s = also (stated (formed s)) (denied (allowed s))
misvalued opaque s = fails
misvalued full s = fails
misvalued (part count tags inside after) s = fails
misvalued (opaques count after) s = fails
misvalued (switch tag inside these same other) s = fails
misvalued (filled f) s = fails

abbrev is_full : (f : Form) → Test (f ≡ full)
is_full full = record { passed = true; shows = λ e. refl }
is_full opaque = fails
is_full (contents k formed allowed) = fails
is_full (part count tags inside after) = fails
is_full (opaques count after) = fails
is_full (switch tag inside these same other) = fails
is_full (filled f) = fails

pub here : (p : Place) (t : ℕ) (b r : List ℕ) → (stands p.rest t b r && takes p.due t) ≡ true → IsHere p t b
here p t b r e =
    let q = and_true (stands p.rest t b r) (takes p.due t) e in
    let h = standing p.rest t b r q.0 in
    (h.is, q.1, r, h.spelled)

abbrev stands_here : (p : Place) (t : ℕ) (b r : List ℕ) → Test (IsHere p t b)
stands_here p t b r = record { passed = stands p.rest t b r && takes p.due t; shows = λ e. here p t b r e }

abbrev is_second_value : (p : Place) (t : ℕ) (b r : List ℕ)
    → Test (IsHere p t b × ((is_second p.due p.passed (t, b) ≡ true) × Encodes [] (inside_of p.due t) b))
is_second_value p t b r =
    let second = is_second p.due p.passed (t, b) in
    let inside = is_encoded 200 [] (inside_of p.due t) b in
    also (stands_here p t b r) (also (stated second) (record {
      passed = cond second inside false;
      shows = λ e. encoded 200 [] (inside_of p.due t) b
          (elim (chosen second inside false e) [ inl x ↦ x.1 | inr x ↦ not_both x.1 ]);
    }))

-- the element whose header is at the front
abbrev pub tag : List ℕ → ℕ
tag s = let h = header s in h.tag

abbrev pub body : List ℕ → List ℕ
body s = let h = header s in take h.size h.beyond

abbrev pub more : List ℕ → List ℕ
more s = let h = header s in drop h.size h.beyond

abbrev pub fact : (k : Kind) (p : Place) (n : ℕ) → Test (Fact k p n)
fact End p n =
    let k = n - (p.at + 1) in
    or (so (λ (a, b, c). ((a.0, a.1), b, c))
    (so (λ (a, b). (a, b.0, b.1))
    (also (also (due p.due) (denied (may_drop p.due))) (also (nothing p.rest) (alike n p.at)))))
    (so (λ (a, b). (front p.rest, k, follow p.rest, a, b.0, b.1))
    (also (begins p) (also (length_ends (follow p.rest) k) (alike n (p.at + 1 + k)))))
fact HighTag p n = so (λ (a, b). (front p.rest, follow p.rest, a, b.0, b.1))
    (also (goes_on p) (also (denied (is_tag (front p.rest))) (alike n p.at)))
fact Indefinite p n =
    let s = follow (follow p.rest) in
    so (λ (a, b). (front p.rest, s, (a.0, a.1), b))
    (also (also (also (due p.due) (spelled p.rest (front p.rest ∷ 128 ∷ s))) (stated (is_tag (front p.rest))))
    (alike n (p.at + 1)))
fact LengthForm p n = so (λ (a, b). (front p.rest, follow p.rest, a, b.0, b.1))
    (also (begins p) (also (no_length (follow p.rest)) (alike n (p.at + 1))))
fact Overrun p n =
    let h = header p.rest in
    so (λ (a, b). (h.tag, h.size, h.beyond, (a.0, a.1), b.0, b.1.0, b.1.1))
    (also (also (also (due p.due) (spelled p.rest (h.tag ∷ (len h.size ++ h.beyond)))) (stated (is_tag h.tag)))
    (also (below (length h.beyond) h.size) (also (below h.size (2 ^ 32)) (alike n p.at))))
fact Tag p n = so (λ (a, b). (front p.rest, follow p.rest, a, b.0, b.1))
    (also (begins p) (also (denied (may_stand p.due (front p.rest))) (alike n p.at)))
fact Trailing p n = so (λ (a, b). (a, b.0, b.1)) (also (is_full p.due) (also (something p.rest) (alike n p.at)))
fact Integer p n = also (malformed Integer p.due p.rest) (alike n p.at)
fact Oid p n = also (malformed Oid p.due p.rest) (alike n p.at)
fact Boolean p n = also (malformed Boolean p.due p.rest) (alike n p.at)
fact Bits p n = also (malformed Bits p.due p.rest) (alike n p.at)
fact Time p n = also (malformed Time p.due p.rest) (alike n p.at)
fact Value p n =
    or (also (misvalued p.due p.rest) (alike n p.at))
    (so (λ (a, b). (tag p.rest, body p.rest, a.0, a.1.0, a.1.1, b))
    (also (is_second_value p (tag p.rest) (body p.rest) (more p.rest)) (alike n p.at)))
fact Order p n =
    so (λ (a, b). (tag p.rest, body p.rest, a, b.0, b.1))
    (also (stands_here p (tag p.rest) (body p.rest) (more p.rest))
    (also (stated (is_early p.due p.passed (tag p.rest, body p.rest))) (alike n p.at)))
fact Empty p n =
    so (λ (a, b). (tag p.rest, a, b.0, b.1))
    (also (stands_here p (tag p.rest) [] (more p.rest))
    (also (stated (is_filled (inside_of p.due (tag p.rest)))) (alike n p.at)))

-- ---- places

abbrev pub is_not : Form → List ℕ → Bool
is_not due [] = true
is_not due (t ∷ s) = not (takes due t)

pub not_here : (due : Form) (s : List ℕ) → is_not due s ≡ true → StandsNot due s
not_here due [] e = tt
not_here due (t ∷ s) e = not_true (takes due t) e

abbrev Seeks : Type 0
Seeks = Place → Kind → ℕ → Bool

abbrev next_place : Place → Place
next_place p = place (p.at + length (el (tag p.rest) (body p.rest))) (more p.rest) (behind p.due (body p.rest))
    (passed_by p.due p.passed (tag p.rest, body p.rest))

abbrev inner_place : Place → Place
inner_place p =
    place (p.at + (1 + length (len (length (body p.rest))))) (body p.rest) (body_of (inside_of p.due (tag p.rest))) []

abbrev later_place : Place → Place
later_place p = place p.at p.rest (dropped p.due) []

abbrev is_taken : Place → Bool
is_taken p = stands p.rest (tag p.rest) (body p.rest) (more p.rest) && takes p.due (tag p.rest)

abbrev is_left : Place → Bool
is_left p = may_drop p.due && is_not p.due p.rest

-- a fault inside the element is sought first if its octet is one of the contents, or the one after them
abbrev seek_by : Seeks → Seeks
seek_by seek p k n =
    let there = (fact k p n).passed in
    let inner = seek (inner_place p) k n in
    let next = seek (next_place p) k n in
    let later = seek (later_place p) k n in
    let past = cond (nat_le (p.at + length (el (tag p.rest) (body p.rest))) n) next false in
    let inside = cond inner true past in
    let along = cond (nat_le n (p.at + length (el (tag p.rest) (body p.rest)))) inside past in
    let away = cond (is_left p) later false in
    let on = cond (is_taken p) along away in
    cond there true on

abbrev pub is_found : ℕ → Place → Kind → ℕ → Bool
is_found zero p k n = false
is_found (suc m) p k n = seek_by (λ p k n. is_found m p k n) p k n

abbrev Met : Place → Kind → ℕ → Type 0
Met p k n = (q : Place) × Reaches p q × Fact k q n

abbrev Meets : Seeks → Type 0
Meets seek = (p : Place) (k : Kind) (n : ℕ) → seek p k n ≡ true → Met p k n

to_next : (p : Place) (k : Kind) (n : ℕ) → is_taken p ≡ true → Met (next_place p) k n → Met p k n
to_next p k n e m =
    let a = and_true (stands p.rest (tag p.rest) (body p.rest) (more p.rest)) (takes p.due (tag p.rest)) e in
    let h = standing p.rest (tag p.rest) (body p.rest) (more p.rest) a.0 in
    let f : List ℕ → Type 0 = λ s. Reaches (place p.at s p.due p.passed) m.0 in
    (m.0, subst f (sym h.spelled) (passes (tag p.rest) (body p.rest) (more p.rest) h.is a.1 m.1), m.2)

to_inner : (p : Place) (k : Kind) (n : ℕ) → is_taken p ≡ true → Met (inner_place p) k n → Met p k n
to_inner p k n e m =
    let a = and_true (stands p.rest (tag p.rest) (body p.rest) (more p.rest)) (takes p.due (tag p.rest)) e in
    let h = standing p.rest (tag p.rest) (body p.rest) (more p.rest) a.0 in
    let f : List ℕ → Type 0 = λ s. Reaches (place p.at s p.due p.passed) m.0 in
    (m.0, subst f (sym h.spelled) (enters (tag p.rest) (body p.rest) (more p.rest) h.is a.1 m.1), m.2)

to_later : (p : Place) (k : Kind) (n : ℕ) → is_left p ≡ true → Met (later_place p) k n → Met p k n
to_later p k n e m =
    let a = and_true (may_drop p.due) (is_not p.due p.rest) e in
    (m.0, drops a.0 (not_here p.due p.rest a.1) m.1, m.2)

past_sound : (seek : Seeks) → Meets seek → (p : Place) (k : Kind) (n : ℕ) (c : Bool) → is_taken p ≡ true
    → cond c (seek (next_place p) k n) false ≡ true → Met p k n
past_sound seek meets p k n true t e = to_next p k n t (meets (next_place p) k n e)
past_sound seek meets p k n false t e = absurd cc

inside_sound : (seek : Seeks) → Meets seek → (p : Place) (k : Kind) (n : ℕ) (c : Bool) → is_taken p ≡ true
    → cond (seek (inner_place p) k n) true (cond c (seek (next_place p) k n) false) ≡ true → Met p k n
inside_sound seek meets p k n c t e =
    elim (chosen (seek (inner_place p) k n) true (cond c (seek (next_place p) k n) false) e) [
      | inl x ↦ to_inner p k n t (meets (inner_place p) k n x.0)
      | inr x ↦ past_sound seek meets p k n c t x.1
    ]

along_sound : (seek : Seeks) → Meets seek → (p : Place) (k : Kind) (n : ℕ) (c d : Bool) → is_taken p ≡ true
    → cond d (cond (seek (inner_place p) k n) true (cond c (seek (next_place p) k n) false))
    (cond c (seek (next_place p) k n) false) ≡ true → Met p k n
along_sound seek meets p k n c true t e = inside_sound seek meets p k n c t e
along_sound seek meets p k n c false t e = past_sound seek meets p k n c t e

away_sound : (seek : Seeks) → Meets seek → (p : Place) (k : Kind) (n : ℕ)
    → cond (is_left p) (seek (later_place p) k n) false ≡ true → Met p k n
away_sound seek meets p k n e =
    elim (chosen (is_left p) (seek (later_place p) k n) false e) [
      | inl x ↦ to_later p k n x.0 (meets (later_place p) k n x.1)
      | inr x ↦ absurd (let z = x.1 in cc)
    ]

seek_sound : (seek : Seeks) → Meets seek → Meets (seek_by seek)
seek_sound seek meets p k n e =
    let beyond = nat_le (p.at + length (el (tag p.rest) (body p.rest))) n in
    let before = nat_le n (p.at + length (el (tag p.rest) (body p.rest))) in
    let past = cond beyond (seek (next_place p) k n) false in
    let along = cond before (cond (seek (inner_place p) k n) true past) past in
    let away = cond (is_left p) (seek (later_place p) k n) false in
    elim (chosen (fact k p n).passed true (cond (is_taken p) along away) e) [
      | inl x ↦ (p, stays, (fact k p n).shows x.0)
      | inr x ↦ elim (chosen (is_taken p) along away x.1) [
        | inl y ↦ along_sound seek meets p k n beyond before y.0 y.1
        | inr y ↦ away_sound seek meets p k n y.1
      ]
    ]

pub met : (m : ℕ) (p : Place) (k : Kind) (n : ℕ) → is_found m p k n ≡ true → Met p k n
met zero p k n e = absurd cc
met (suc m) p k n e = seek_sound (λ p k n. is_found m p k n) (λ p k n e. met m p k n e) p k n e

-- a row: write `found _ _ (fault kind.K n) refl`
pub found : (form : Form) (bytes : List ℕ) (f : Fault) → is_found 200 (place 0 bytes form []) f.kind f.at ≡ true
    → Faults form bytes f
found form bytes f e = met 200 (place 0 bytes form []) f.kind f.at e

-- a row that an input is no encoding: name a fault that it has, as `not_encoded _ _ (fault kind.K n) refl refl`
pub not_encoded : (form : Form) (bytes : List ℕ) (f : Fault) → clear form ≡ true
    → is_found 200 (place 0 bytes form []) f.kind f.at ≡ true
    → IsEncoding form bytes → ⊥
not_encoded form bytes f ok e is = refuted form bytes f ok is (found form bytes f e)
