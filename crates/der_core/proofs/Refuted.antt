-- An encoding begins in one way, and has no fault.
use Rattle.std.proofs.Common.{◌≡◌, ℕ, ◌+◌, ◌<◌, List, [], ◌∷◌, ◌++◌, length, Bool, true, false, cond, not, eqb, refl}
use Rattle.std.proofs.Common.{sym, ap, subst, ◌∙◌, append_assoc, arith}
use Rattle.std.proofs.Common.{inl, inr, ◌&&◌, ◌||◌}
use Rattle.std.specs.Prelude.{◌⊎◌, ◌==◌}
use Rattle.std.proofs.lemmas.Bool.{eqb-true}
use Rattle.std.proofs.lemmas.List.{length-append}
use Rattle.der_core.specs.declared.fault.Fault.{Fault}
use Rattle.der_core.specs.declared.fault.Kind.{Kind}
use Rattle.der_core.specs.declared.fault.Kind.TheVariants.{End, HighTag, Indefinite, LengthForm, Overrun, Tag, Trailing}
use Rattle.der_core.specs.declared.fault.Kind.TheVariants.{Integer, Oid, Boolean, Bits, Time}
use Rattle.der_core.specs.declared.fault.Kind.TheVariants.{Value, Order, Empty}
use Rattle.der_core.specs.Element.{is_tag, len, el, IsElement}
use Rattle.der_core.specs.Lists.{every, some, is_same}
use Rattle.der_core.specs.Form.{Form, opaque, contents, full, part, opaques, switch, filled, is_droppable, is_list}
use Rattle.der_core.specs.Form.{takes, inside_of, behind, may_drop, dropped}
use Rattle.der_core.specs.Form.{may_stand, body_of, is_filled, Element, passed_by, is_early, is_second}
use Rattle.der_core.specs.Encoding.{Encodes, anything, held, ended, next, absent, has, IsEncoding}
use Rattle.der_core.specs.Faults.{Place, place, StandsNot, Reaches, stays, passes, enters, drops, IsDue, IsDemanded}
use Rattle.der_core.specs.Faults.{IsMalformed, IsOther, Stands, LengthEnds}
use Rattle.der_core.specs.Faults.{IsNoLength, IsHere, Fact, Faults}
use Rattle.der_core.specs.Clear.{is_full, are_parts, clear}
use Rattle.der_core.proofs.Lengths.{el_same, heads, len_same, ends_not, is_length, definite}

-- ---- tests

pub and_true : (a b : Bool) → (a && b) ≡ true → (a ≡ true) × (b ≡ true)
and_true true b e = (refl, e)
and_true false b e = absurd cc

pub not_true : (a : Bool) → not a ≡ true → a ≡ false
not_true true e = absurd cc
not_true false e = refl

or_left : (a b : Bool) → a ≡ true → (a || b) ≡ true
or_left a b e = rw e refl

or_right : (a b : Bool) → b ≡ true → (a || b) ≡ true
or_right true b e = refl
or_right false b e = e

or_false : (a b : Bool) → (a || b) ≡ false → (a ≡ false) × (b ≡ false)
or_false true b e = absurd cc
or_false false b e = (refl, e)

pub not_false : (a : Bool) → not a ≡ false → a ≡ true
not_false true e = refl
not_false false e = absurd cc

pub cases : (a : Bool) → (a ≡ true) ⊎ (a ≡ false)
cases true = inl refl
cases false = inr refl

pub never : (a : Bool) → a ≡ true → a ≡ false → ⊥
never true e f = absurd cc
never false e f = absurd cc

pub identified : (t : ℕ) (b : List ℕ) → IsElement t b → is_tag t ≡ true
identified t b is = is.identifier

full_stands : (f : Form) (t : ℕ) → is_full f ≡ true → may_stand f t ≡ false
full_stands full t e = refl
full_stands opaque t e = absurd cc
full_stands (contents k formed allowed) t e = absurd cc
full_stands (part count tags inside after) t e = absurd cc
full_stands (opaques count after) t e = absurd cc
full_stands (switch tag inside these same other) t e = absurd cc
full_stands (filled f) t e = absurd cc

-- what holds of each of these identifiers holds of the one that is there
every_at : (test : ℕ → Bool) (ts : List ℕ) (t : ℕ) → every test ts ≡ true → some (λ u. u == t) ts ≡ true → test t ≡ true
every_at test [] t e f = absurd cc
every_at test (u ∷ ts) t e f =
    let p = and_true (test u) (every test ts) e in
    elim (cases (eqb u t)) [
      | inl h ↦ subst (λ (v : ℕ). test v ≡ true) (eqb-true u t h) p.0
      | inr h ↦ every_at test ts t p.1 (sym (ap (λ (b : Bool). b || some (λ u. u == t) ts) h) ∙ f)
    ]

none_at : (test : ℕ → Bool) (ts : List ℕ) (t : ℕ) → some test ts ≡ false → some (λ u. u == t) ts ≡ true → test t ≡ false
none_at test [] t e f = absurd cc
none_at test (u ∷ ts) t e f =
    elim (cases (eqb u t)) [
      | inl h ↦ subst (λ (v : ℕ). test v ≡ false) (eqb-true u t h) (or_false (test u) (some test ts) e).0
      | inr h ↦ none_at test ts t (or_false (test u) (some test ts) e).1
          (sym (ap (λ (b : Bool). b || some (λ u. u == t) ts) h) ∙ f)
    ]

-- ---- forms that are clear

pub record IsClear (f : Form) : Type 0 where
  pub after : clear (dropped f) ≡ true
  pub parts : are_parts (dropped f) ≡ true

pub is_clear : (f : Form) → clear f ≡ true → IsClear f
is_clear (part count tags inside after) e =
    let p = and_true (not (is_droppable count && some (λ t. may_stand after t) tags) && are_parts after)
    (every (λ t. clear (inside t)) tags && clear after) e in
    record {
      after = (and_true (every (λ t. clear (inside t)) tags) (clear after) p.1).1;
      parts = (and_true _ (are_parts after) p.0).1;
    }
is_clear (opaques count after) e =
    let p = and_true (not (is_droppable count && not (is_full after)) && are_parts after) (clear after) e in
    record { after = p.1; parts = (and_true _ (are_parts after) p.0).1 }
is_clear opaque e = record { after = refl; parts = refl }
is_clear (contents k formed allowed) e = record { after = refl; parts = refl }
is_clear full e = record { after = refl; parts = refl }
is_clear (switch tag inside these same other) e = record { after = refl; parts = refl }
is_clear (filled f) e = record { after = refl; parts = refl }

pub clear_behind : (f : Form) (b : List ℕ) → clear f ≡ true → clear (behind f b) ≡ true
clear_behind (part count tags inside after) b e =
    let k = (is_clear (part count tags inside after) e).after in
    elim (is_list count) as (λ l. clear (cond l (part count tags inside after) after) ≡ true) [ true ↦ e | false ↦ k ]
clear_behind (opaques count after) b e =
    let k = (is_clear (opaques count after) e).after in
    elim (is_list count) as (λ l. clear (cond l (opaques count after) after) ≡ true) [ true ↦ e | false ↦ k ]
clear_behind (switch tag inside these same other) b e =
    let p = and_true (clear inside && (clear same && clear other)) (are_parts same && are_parts other) e in
    let q = and_true (clear same) (clear other) (and_true (clear inside) (clear same && clear other) p.0).1 in
    elim (is_same these b) as (λ l. clear (cond l same other) ≡ true) [ true ↦ q.0 | false ↦ q.1 ]
clear_behind _ b e = refl

pub clear_inside : (f : Form) (t : ℕ) → takes f t ≡ true → clear f ≡ true → clear (inside_of f t) ≡ true
clear_inside (part count tags inside after) t ok e =
    let p = and_true (not (is_droppable count && some (λ t. may_stand after t) tags) && are_parts after)
    (every (λ t. clear (inside t)) tags && clear after) e in
    every_at (λ t. clear (inside t)) tags t (and_true (every (λ t. clear (inside t)) tags) (clear after) p.1).0 ok
clear_inside (switch tag inside these same other) t ok e =
    let p = and_true (clear inside && (clear same && clear other)) (are_parts same && are_parts other) e in
    (and_true (clear inside) (clear same && clear other) p.0).0
clear_inside _ t ok e = refl

pub clear_body : (f : Form) → clear f ≡ true → clear (body_of f) ≡ true
clear_body (filled f) e = (and_true (are_parts f) (clear f) e).1
clear_body opaque e = e
clear_body (contents k formed allowed) e = e
clear_body full e = e
clear_body (part count tags inside after) e = e
clear_body (opaques count after) e = e
clear_body (switch tag inside these same other) e = e

-- if a part may be absent, no identifier that it takes may come after it
apart : (f : Form) (t : ℕ) → clear f ≡ true → takes f t ≡ true → may_drop f ≡ true → may_stand (dropped f) t ≡ false
apart (part count tags inside after) t e ok d =
    let p = and_true (not (is_droppable count && some (λ t. may_stand after t) tags) && are_parts after)
    (every (λ t. clear (inside t)) tags && clear after) e in
    let q = not_true _
    (and_true (not (is_droppable count && some (λ t. may_stand after t) tags)) (are_parts after) p.0).0 in
    none_at (λ t. may_stand after t) tags t (sym (ap (λ (b : Bool). b && some (λ t. may_stand after t) tags) d) ∙ q) ok
apart (opaques count after) t e ok d =
    let p = and_true (not (is_droppable count && not (is_full after)) && are_parts after) (clear after) e in
    let q = not_true _ (and_true (not (is_droppable count && not (is_full after))) (are_parts after) p.0).0 in
    full_stands after t (not_false (is_full after) (sym (ap (λ (b : Bool). b && not (is_full after)) d) ∙ q))
apart (switch tag inside these same other) t e ok d = absurd cc
apart opaque t e ok d = absurd cc
apart (contents k formed allowed) t e ok d = absurd cc
apart full t e ok d = absurd cc
apart (filled f) t e ok d = absurd cc

taken_stands : (f : Form) (t : ℕ) → takes f t ≡ true → may_stand f t ≡ true
taken_stands (part count tags inside after) t ok = or_left _ _ ok
taken_stands (opaques count after) t ok = or_left _ _ ok
taken_stands (switch tag inside these same other) t ok = ok
taken_stands opaque t ok = absurd cc
taken_stands (contents k formed allowed) t ok = absurd cc
taken_stands full t ok = absurd cc
taken_stands (filled f) t ok = absurd cc

dropped_stands : (f : Form) (t : ℕ) → may_drop f ≡ true → may_stand (dropped f) t ≡ true → may_stand f t ≡ true
dropped_stands (part count tags inside after) t d ok =
    let k : (is_droppable count && may_stand after t) ≡ true = rw (d, ok) refl in
    or_right (some (λ u. u == t) tags) (is_droppable count && may_stand after t) k
dropped_stands (opaques count after) t d ok =
    let k : (is_droppable count && may_stand after t) ≡ true = rw (d, ok) refl in
    or_right (is_tag t) (is_droppable count && may_stand after t) k
dropped_stands (switch tag inside these same other) t d ok = absurd cc
dropped_stands opaque t d ok = absurd cc
dropped_stands (contents k formed allowed) t d ok = absurd cc
dropped_stands full t d ok = absurd cc
dropped_stands (filled f) t d ok = absurd cc

pub due_parts : (f : Form) → IsDue f → are_parts f ≡ true
due_parts (part count tags inside after) d = refl
due_parts (opaques count after) d = refl
due_parts (switch tag inside these same other) d = refl
due_parts full d = refl
due_parts opaque d = absurd d
due_parts (contents k formed allowed) d = absurd d
due_parts (filled f) d = absurd d

-- ---- how an encoding begins

-- an identifier that is at the front may be there
met : {ps : List Element} (f : Form) (s : List ℕ) (t : ℕ) (xs : List ℕ) → Encodes ps f s → s ≡ t ∷ xs
    → may_stand f t ≡ true
met opaque s t xs anything e = refl
met (contents k formed allowed) s t xs (held a b) e = refl
met full s t xs (ended h) e = absurd cc
met f s t xs (next u b r is el-is ok early second i m) e =
    let same : u ≡ t = (heads u t ((len (length b) ++ b) ++ r) xs (sym is ∙ e)).0 in
    subst (λ (v : ℕ). may_stand f v ≡ true) same (taken_stands f u ok)
met f s t xs (absent d m) e = dropped_stands f t d (met (dropped f) s t xs m e)
met (filled f) s t xs (has h m) e = met f s t xs m e

-- octets of which there is at least one begin with an element
pub record Starts (s : List ℕ) : Type 0 where
  pub t : ℕ
  pub b : List ℕ
  pub r : List ℕ
  pub is : IsElement t b
  pub spelled : s ≡ el t b ++ r

starts : {ps : List Element} (f : Form) (s : List ℕ) (x : ℕ) (xs : List ℕ) → Encodes ps f s → clear f ≡ true
    → are_parts f ≡ true → s ≡ x ∷ xs → Starts s
starts opaque s x xs anything ok parts e = absurd cc
starts (contents k formed allowed) s x xs (held a b) ok parts e = absurd cc
starts full s x xs (ended h) ok parts e = absurd cc
starts f s x xs (next u b r is el-is took early second i m) ok parts e =
    record { t = u; b = b; r = r; is = el-is; spelled = is }
starts f s x xs (absent d m) ok parts e = starts (dropped f) s x xs m (is_clear f ok).after (is_clear f ok).parts e
starts (filled f) s x xs (has h m) ok parts e = absurd cc

taken_parts : (f : Form) (t : ℕ) → takes f t ≡ true → are_parts f ≡ true
taken_parts (part count tags inside after) t ok = refl
taken_parts (opaques count after) t ok = refl
taken_parts (switch tag inside these same other) t ok = refl
taken_parts full t ok = refl
taken_parts opaque t ok = absurd cc
taken_parts (contents k formed allowed) t ok = absurd cc
taken_parts (filled f) t ok = absurd cc

pub starts_at : {ps : List Element} (f : Form) (s : List ℕ) (x : ℕ) (xs : List ℕ) → Encodes ps f s → clear f ≡ true
    → takes f x ≡ true → s ≡ x ∷ xs → Starts s
starts_at f s x xs e ok took is = starts f s x xs e ok (taken_parts f x took) is

pub clear_after : (f : Form) → clear f ≡ true → clear (dropped f) ≡ true
clear_after f e = (is_clear f e).after

-- what is in and after the element that octets begin with
pub record Opened (ps : List Element) (f : Form) (t : ℕ) (b r : List ℕ) : Type 0 where
  pub early : is_early f ps (t, b) ≡ false
  pub second : is_second f ps (t, b) ≡ false
  pub in_it : Encodes [] (inside_of f t) b
  pub behind_it : Encodes (passed_by f ps (t, b)) (behind f b) r

open_at : (ps : List Element) (f : Form) (u : ℕ) (c q : List ℕ) (t : ℕ) (b r : List ℕ) → u ≡ t → c ≡ b → q ≡ r
    → Opened ps f u c q → Opened ps f t b r
open_at ps f u c q t b r e g h o =
    subst (λ (v : ℕ). Opened ps f v b r) e
    (subst (λ (d : List ℕ). Opened ps f u d r) g (subst (λ (w : List ℕ). Opened ps f u c w) h o))

pub opened : (ps : List Element) (f : Form) (s : List ℕ) (t : ℕ) (b r : List ℕ) → Encodes ps f s → clear f ≡ true
    → takes f t ≡ true → IsElement t b
    → s ≡ el t b ++ r → Opened ps f t b r
opened ps opaque s t b r anything ok took is e = absurd cc
opened ps (contents k formed allowed) s t b r (held x y) ok took is e = absurd cc
opened ps full s t b r (ended h) ok took is e = absurd cc
opened ps f s t b r (next u c q is' el-is took' early second i m) ok took is e =
    let same = el_same u c q t b r el-is is (sym is' ∙ e) in
    open_at ps f u c q t b r same.tag same.body same.rest
    (record { early = early; second = second; in_it = i; behind_it = m })
opened ps f s t b r (absent d m) ok took is e = absurd (never _ (met (dropped f) s t _ m e) (apart f t ok took d))
opened ps (filled f) s t b r (has h m) ok took is e = absurd cc

-- what is left if a part is absent
pub left_out : {ps : List Element} (f : Form) (s : List ℕ) → Encodes ps f s → StandsNot f s → may_drop f ≡ true
    → Encodes [] (dropped f) s
left_out opaque s anything not-here d = absurd cc
left_out (contents k formed allowed) s (held a b) not-here d = absurd cc
left_out full s (ended h) not-here d = absurd cc
left_out f s (next u b r is el-is took early second i m) not-here d =
    let out : takes f u ≡ false = subst (StandsNot f) is not-here in absurd (never _ took out)
left_out f s (absent d' m) not-here d = m
left_out (filled f) s (has h m) not-here d = absurd cc

-- if an element must be there, there is at least one octet
goes_on : {ps : List Element} (f : Form) (s : List ℕ) → Encodes ps f s → IsDemanded f → s ≡ [] → ⊥
goes_on opaque s anything d e = d.0
goes_on (contents k formed allowed) s (held a b) d e = d.0
goes_on full s (ended h) d e = d.0
goes_on f s (next u b r is el-is took early second i m) d e = let z = sym is ∙ e in absurd cc
goes_on f s (absent d' m) d e = never _ d' d.1
goes_on (filled f) s (has h m) d e = d.0

-- a body that has a member, as a body
pub entered : (f : Form) (s : List ℕ) → Encodes [] f s → Encodes [] (body_of f) s
entered (filled f) s (next u b r is el-is took early second i m) = absurd cc
entered (filled f) s (absent d m) = absurd cc
entered (filled f) s (has h m) = m
entered opaque s e = e
entered (contents k formed allowed) s e = e
entered full s e = e
entered (part count tags inside after) s e = e
entered (opaques count after) s e = e
entered (switch tag inside these same other) s e = e

-- ---- from place to place of an encoding

pub record Holds (p : Place) : Type 0 where
  pub encoded : Encodes p.passed p.due p.rest
  pub clearly : clear p.due ≡ true

reached : (p q : Place) → Reaches p q → Holds p → Holds q
reached p q stays h = h
reached p q (passes {n} {due} {ps} t b r is took m) h =
    let o = opened ps due (el t b ++ r) t b r h.encoded h.clearly took is refl in
    reached (place (n + length (el t b)) r (behind due b) (passed_by due ps (t, b))) q m
    (record { encoded = o.behind_it; clearly = clear_behind due b h.clearly })
reached p q (enters {n} {due} {ps} t b r is took m) h =
    let o = opened ps due (el t b ++ r) t b r h.encoded h.clearly took is refl in
    reached (place (n + (1 + length (len (length b)))) b (body_of (inside_of due t)) []) q m
    (record {
      encoded = entered (inside_of due t) b o.in_it;
      clearly = clear_body (inside_of due t) (clear_inside due t took h.clearly);
    })
reached p q (drops {n} {s} {due} {ps} d out m) h =
    reached (place n s (dropped due) []) q m
    (record { encoded = left_out due s h.encoded out d; clearly = (is_clear due h.clearly).after })

-- ---- no fact holds at a place of an encoding

pub size_of : (t : ℕ) (b : List ℕ) → IsElement t b → length b < 4294967296
size_of t b is = omega (arith, is.size)

-- the length octets of the element at the front
record Header (t : ℕ) (xs : List ℕ) : Type 0 where
  b : List ℕ
  r : List ℕ
  is : IsElement t b
  spelled : xs ≡ len (length b) ++ (b ++ r)

header : (q : Place) → Holds q → (t : ℕ) (xs : List ℕ) → Stands q t xs → Header t xs
header q h t xs s =
    let k = starts q.due q.rest t xs h.encoded h.clearly (due_parts q.due s.0) s.1 in
    let p = heads t k.t xs ((len (length k.b) ++ k.b) ++ k.r) (sym s.1 ∙ k.spelled) in
    record {
      b = k.b;
      r = k.r;
      is = subst (λ (u : ℕ). IsElement u k.b) (sym p.0) k.is;
      spelled = p.1 ∙ append_assoc (len (length k.b)) k.b k.r;
    }

well_formed : {ps : List Element} (k : Kind) (f : Form) (s : List ℕ) → Encodes ps f s → IsMalformed k f s → ⊥
well_formed k (contents k' formed allowed) s (held a b) m = never _ a m.1
well_formed k (contents k' formed allowed) s (next u b r is el-is took early second i e) m = absurd cc
well_formed k (contents k' formed allowed) s (absent d e) m = absurd cc
well_formed k opaque s e m = m
well_formed k full s e m = m
well_formed k (part count tags inside after) s e m = m
well_formed k (opaques count after) s e m = m
well_formed k (switch tag inside these same other) s e m = m
well_formed k (filled f) s e m = m

well_valued : {ps : List Element} (f : Form) (s : List ℕ) → Encodes ps f s → IsOther f s → ⊥
well_valued (contents k' formed allowed) s (held a b) m = never _ b m.1
well_valued (contents k' formed allowed) s (next u b r is el-is took early second i e) m = absurd cc
well_valued (contents k' formed allowed) s (absent d e) m = absurd cc
well_valued opaque s e m = m
well_valued full s e m = m
well_valued (part count tags inside after) s e m = m
well_valued (opaques count after) s e m = m
well_valued (switch tag inside these same other) s e m = m
well_valued (filled f) s e m = m

at_end : {ps : List Element} (s : List ℕ) → Encodes ps full s → s ≡ []
at_end s (ended h) = h
at_end s (next u b r is el-is took early second i e) = absurd cc
at_end s (absent d e) = absurd cc

has_member : (f : Form) (s : List ℕ) → Encodes [] f s → is_filled f ≡ true → s ≡ [] → ⊥
has_member (filled f) s (next u b r is el-is took early second i e) d z = absurd cc
has_member (filled f) s (absent d' e) d z = absurd cc
has_member (filled f) s (has h e) d z = h z
has_member opaque s e d z = absurd cc
has_member (contents k formed allowed) s e d z = absurd cc
has_member full s e d z = absurd cc
has_member (part count tags inside after) s e d z = absurd cc
has_member (opaques count after) s e d z = absurd cc
has_member (switch tag inside these same other) s e d z = absurd cc

here : (q : Place) → Holds q → (t : ℕ) (b : List ℕ) (x : IsHere q t b) → Opened q.passed q.due t b x.2
here q h t b x = opened q.passed q.due q.rest t b x.2 h.encoded h.clearly x.1 x.0 x.3

pub refuted_at : (k : Kind) (q : Place) (n : ℕ) → Holds q → Fact k q n → ⊥
refuted_at End q n h (inl f) = goes_on q.due q.rest h.encoded f.0 f.1
refuted_at End q n h (inr (t, k, s, (stands, id), ends, e)) =
    let x = header q h t s stands in
    ends_not (length x.b) k (x.b ++ x.r) (size_of t x.b x.is) (subst (λ (l : List ℕ). LengthEnds l k) x.spelled ends)
refuted_at HighTag q n h (t, s, stands, bad, e) = let x = header q h t s stands in never _ (identified t x.b x.is) bad
refuted_at Indefinite q n h (t, s, (stands, id), e) = let x = header q h t (128 ∷ s) stands in
    definite (length x.b) (x.b ++ x.r) s (size_of t x.b x.is) (sym x.spelled)
refuted_at LengthForm q n h (t, s, (stands, id), unfit, e) = let x = header q h t s stands in
    is_length (length x.b) (x.b ++ x.r) (size_of t x.b x.is) (subst IsNoLength x.spelled unfit)
refuted_at Overrun q n h (t, l, s, (stands, id), short, fits, e) =
    let x = header q h t (len l ++ s) stands in
    let p = len_same (length x.b) l (x.b ++ x.r) s (size_of t x.b x.is) (omega (arith, fits)) (sym x.spelled) in
    omega (arith, p.0, ap length p.1, length-append x.b x.r, short)
refuted_at Tag q n h (t, s, (stands, id), out, e) = never _ (met q.due q.rest t s h.encoded stands.1) out
refuted_at Trailing q n h (due, more, e) =
    more (at_end q.rest (subst (λ (f : Form). Encodes q.passed f q.rest) due h.encoded))
refuted_at Integer q n h (m, e) = well_formed Integer q.due q.rest h.encoded m
refuted_at Oid q n h (m, e) = well_formed Oid q.due q.rest h.encoded m
refuted_at Boolean q n h (m, e) = well_formed Boolean q.due q.rest h.encoded m
refuted_at Bits q n h (m, e) = well_formed Bits q.due q.rest h.encoded m
refuted_at Time q n h (m, e) = well_formed Time q.due q.rest h.encoded m
refuted_at Value q n h (inl (m, e)) = well_valued q.due q.rest h.encoded m
refuted_at Value q n h (inr (t, b, x, second, i, e)) = never _ second (here q h t b x).second
refuted_at Order q n h (t, b, x, early, e) = never _ early (here q h t b x).early
refuted_at Empty q n h (t, x, wants, e) = has_member (inside_of q.due t) [] (here q h t [] x).in_it wants refl

-- what is an encoding has no fault
pub refuted : (form : Form) (bytes : List ℕ) (f : Fault) → clear form ≡ true → IsEncoding form bytes
    → Faults form bytes f → ⊥
refuted form bytes f ok e (q, m, fact) =
    refuted_at f.kind q f.at (reached (place 0 bytes form []) q m (record { encoded = e; clearly = ok })) fact
