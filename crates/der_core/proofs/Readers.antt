-- What a reading must satisfy for its encoding and its grammar, and readings made of readings.
use Rattle.std.proofs.Common.{◌≡◌, ℕ, ◌+◌, ◌-◌, ◌^◌, ◌<◌, Bool, true, false, not, ◌&&◌, cond, eqb, List, [], ◌∷◌, ◌++◌}
use Rattle.std.proofs.Common.{length, Option, Some, None, Result, Ok}
use Rattle.std.proofs.Common.{Err, refl, sym, ap, subst, ◌∙◌, arith, inl, inr, ◌⊎◌, append_assoc}
use Rattle.std.proofs.lemmas.Bool.{eqb-true, eqb-false, eq-eqb, ne_eqb, and_parts, not-true, not-false}
use Rattle.std.proofs.lemmas.List.{drop_at, length-append, append-nil, nil_from_length}
use Rattle.der_core.specs.declared.fault.Fault.{Fault}
use Rattle.der_core.specs.declared.fault.Kind.{Kind}
use Rattle.der_core.specs.declared.fault.Kind.TheVariants.{HighTag, Tag, Trailing, Value}
use Rattle.der_core.specs.Element.{is_tag, len, el, IsElement, IsBytes, has_tag}
use Rattle.der_core.specs.Form.{Count, One, Optional, Form, opaque, contents, full, part, takes, behind, may_stand}
use Rattle.der_core.specs.Form.{body_of, passed_by, Element}
use Rattle.der_core.specs.Encoding.{Encodes, anything, held, ended, next, absent}
use Rattle.der_core.specs.Faults.{Place, place, StandsNot, stays, passes, enters, drops, Fact, FaultFrom}
use Rattle.der_core.specs.Grammar.{one, opt}
use Rattle.der_core.specs.Reading.{fault, Spot, spot, Taken, next_at, is_other, expect_at, enter_at, end_at, none_in}
use Rattle.der_core.specs.Reading.{none_at, within, maybe, last, ◌then◌}
use Rattle.der_core.specs.Reading.{whole_of, made, named, contents_at, any_at}
use Rattle.der_core.specs.Results.{◌>>=◌}
use Rattle.der_core.specs.Standing.{Enters}
use Rattle.der_core.proofs.ReadLengths.{IsBytes-drop, chosen, ok_is}
use Rattle.der_core.proofs.Headers.{fails, err_is, fact_is}
use Rattle.der_core.proofs.Elements.{next_takes, next_again, next_fault, IsBytes-part}
use Rattle.der_core.proofs.Results.{bind_ok, bind_err}

abbrev pub Reader : Type 0 → Type 0
Reader A = Spot → Result (A × Spot) Fault

abbrev pub Body : Type 0 → Type 0
Body A = Spot → Result A Fault

-- s is t and then the octets of s'
pub record Follows (s : Spot) (t : List ℕ) (s' : Spot) : Type 0 where
  pub parts : s.rest ≡ t ++ s'.rest
  pub moved : s'.pos ≡ s.pos + length t

-- What may be due after a part: anything, or nothing.
abbrev pub Anything : Form → Type 0
Anything f = Unit {0}

abbrev pub Nothing : Form → Type 0
Nothing f = f ≡ full

-- A value that is read from the front is good and its encoding is there; a good value whose encoding is there is read,
-- if what follows allows it; a fault is one of the grammar, if what is due after the part is as required; so is each
-- fault of what follows; and a good value has an encoding by the grammar.
pub record IsReader {A : Type 0} (read : Reader A) (enc : A → List ℕ) (Good : A → Type 0) (due : Form → Form)
    (Lets : List ℕ → Type 0)
    (Before : Form → Type 0) : Type 0 where
  pub plain : (after : Form) → body_of (due after) ≡ due after
  pub takes : (s : Spot) (y : A × Spot) → IsBytes s.rest → read s ≡ Ok y → Good y.0 × Follows s (enc y.0) y.1
  pub again : (x : A) (n : ℕ) (r : List ℕ) → Good x → Lets r
      → read (spot n (enc x ++ r)) ≡ Ok (x, spot (n + length (enc x)) r)
  pub faults : (s : Spot) (f : Fault) → IsBytes s.rest → read s ≡ Err f → (after : Form) → Before after
      → FaultFrom (place s.pos s.rest (due after) []) f
  pub goes : (s : Spot) (y : A × Spot) → IsBytes s.rest → read s ≡ Ok y → (after : Form) (f : Fault)
      → FaultFrom (place y.1.pos y.1.rest after []) f
      → FaultFrom (place s.pos s.rest (due after) []) f
  pub encodes : (x : A) (r : List ℕ) (after : Form) → Good x → Encodes [] after r → Encodes [] (due after) (enc x ++ r)

-- the same for a reading of a whole body
pub record IsBody {A : Type 0} (read : Body A) (enc : A → List ℕ) (Good : A → Type 0) (form : Form) : Type 0 where
  pub takes : (s : Spot) (x : A) → IsBytes s.rest → read s ≡ Ok x → Good x × (s.rest ≡ enc x)
  pub again : (x : A) (n : ℕ) → Good x → read (spot n (enc x)) ≡ Ok x
  pub faults : (s : Spot) (f : Fault) → IsBytes s.rest → read s ≡ Err f
      → FaultFrom (place s.pos s.rest (body_of form) []) f
  pub encodes : (x : A) → Good x → Encodes [] form (enc x)

-- ---- contents

pub any_body : IsBody any_at (λ b. b) (λ b. Unit {0}) opaque
any_body = record {
  takes = λ s x fits e. (tt, ok_is s.rest x e);
  again = λ x n h. refl;
  faults = λ s f fits e. absurd cc;
  encodes = λ x h. anything;
}

module _ (k : Kind) (formed allowed : List ℕ → Bool)
    (fact : (p : Place) → p.due ≡ contents k formed allowed → formed p.rest ≡ false → Fact k p p.at) where
  abbrev Read : Type 0
  Read = Result (List ℕ) Fault

  contents_ok : (s : Spot) (x : List ℕ) → contents_at k formed allowed s ≡ Ok x
      → (formed x ≡ true) × (allowed x ≡ true) × (s.rest ≡ x)
  contents_ok s x e =
      let bad : Read = Err (fault k s.pos) in
      let other : Read = Err (fault Value s.pos) in
      let good : Read = Ok s.rest in
      elim (chosen (formed s.rest) (cond (allowed s.rest) good other) bad (Ok x) e) [
        | inr h ↦ absurd cc
        | inl h ↦ elim (chosen (allowed s.rest) good other (Ok x) h.1) [
          | inr g ↦ absurd cc
          | inl g ↦ let is : s.rest ≡ x = ok_is s.rest x g.1 in
              (subst (λ (y : List ℕ). formed y ≡ true) is h.0, subst (λ (y : List ℕ). allowed y ≡ true) is g.0, is)
        ]
      ]

  contents_fault : (s : Spot) (f : Fault) → contents_at k formed allowed s ≡ Err f
      → FaultFrom (place s.pos s.rest (contents k formed allowed) []) f
  contents_fault s f e =
      let bad : Read = Err (fault k s.pos) in
      let other : Read = Err (fault Value s.pos) in
      let good : Read = Ok s.rest in
      let p : Place = place s.pos s.rest (contents k formed allowed) [] in
      elim (chosen (formed s.rest) (cond (allowed s.rest) good other) bad (fails f) e) [
        | inr h ↦ (p, stays, fact_is p (fault k s.pos) f (err_is _ _ h.1) (fact p refl h.0))
        | inl h ↦ elim (chosen (allowed s.rest) good other (fails f) h.1) [
          | inl g ↦ absurd cc
          | inr g ↦ (p, stays, fact_is p (fault Value s.pos) f (err_is _ _ g.1) (inl ((h.0, g.0), refl)))
        ]
      ]

  pub contents_body : IsBody (contents_at k formed allowed) (λ b. b) (λ b. (formed b ≡ true) × (allowed b ≡ true))
      (contents k formed allowed)
  contents_body = record {
    takes = λ s x fits e. let h = contents_ok s x e in ((h.0, h.1), h.2);
    again = λ x n h. rw (h.0, h.1) refl;
    faults = λ s f fits e. contents_fault s f e;
    encodes = λ x h. held h.0 h.1;
  }

-- ---- an element with one identifier

pub not_other : (tag t : ℕ) (b r : List ℕ) → is_tag t ≡ true → is_other tag (el t b ++ r) ≡ false → t ≡ tag
not_other tag t b r id h =
    let e : not (eqb t tag) ≡ false = sym (ap (λ (v : Bool). v && not (eqb t tag)) id) ∙ h in
    eqb-true t tag (not-false (eqb t tag) e)

abbrev Step : Type 0
Step = Result (Taken × Spot) Fault

pub enter_ok : (tag : ℕ) (s : Spot) (y : Spot × Spot) → IsBytes s.rest → enter_at tag s ≡ Ok y → Enters tag s y.0 y.1
unfolding enter_at expect_at
enter_ok tag s y fits e =
    let b = bind_ok (expect_at tag s) (λ x. Ok (spot (x.1.pos - length x.0.body) x.0.body, x.1)) y e in
    let x = b.0 in
    let other : Step = Err (fault Tag s.pos) in
    elim (chosen (is_other tag s.rest) other (next_at s) (Ok x) b.1) [
      | inl h ↦ absurd cc
      | inr h ↦
          let k = next_takes s x fits h.1 in
          let t-is : x.0.tag ≡ tag = not_other tag x.0.tag x.0.body x.1.rest k.element.identifier
          (subst (λ (xs : List ℕ). is_other tag xs ≡ false) k.parts h.0) in
          let both = IsBytes-part s.rest (len (length x.0.body)) x.0.body x.1.rest x.0.tag k.parts fits in
          let size = length-append (len (length x.0.body)) x.0.body in
          let made : Spot × Spot = (spot (x.1.pos - length x.0.body) x.0.body, x.1) in
          subst (λ (z : Spot × Spot). Enters tag s z.0 z.1) (ok_is made y b.2) (record {
            element = record {
              identifier = subst (λ (u : ℕ). is_tag u ≡ true) t-is k.element.identifier;
              size = k.element.size;
            };
            parts = subst (λ (u : ℕ). s.rest ≡ el u x.0.body ++ x.1.rest) t-is k.parts;
            moved = k.moved;
            begin = omega (arith, k.moved, size);
            fits = both.0;
            fits_rest = both.1;
          })
    ]

pub enter_again : (tag n : ℕ) (b r : List ℕ) → IsElement tag b
    → enter_at tag (spot n (el tag b ++ r))
    ≡ Ok (spot (n + (1 + length (len (length b)))) b, spot (n + length (el tag b)) r)
unfolding enter_at expect_at
enter_again tag n b r h =
    let same : eqb tag tag ≡ true = eq-eqb tag tag refl in
    let id : is_tag tag ≡ true = h.identifier in
    let at : n + length (el tag b) - length b ≡ n + (1 + length (len (length b))) =
    omega (arith, length-append (len (length b)) b) in
    rw (same, id, next_again n tag b r h, at) refl

-- an identifier other than the one that is due
pub swapped : (tag t : ℕ) → eqb t tag ≡ false → eqb tag t ≡ false
swapped tag t h = ne_eqb tag t (λ e. eqb-false t tag h (sym e))

one_refuses : (tag t : ℕ) (form after : Form) → eqb t tag ≡ false → may_stand (one tag form after) t ≡ false
one_refuses tag t form after h = rw (swapped tag t h) refl

pub last_refuses : (tag t : ℕ) (form : Form) → eqb t tag ≡ false → may_stand (opt tag form full) t ≡ false
last_refuses tag t form h = rw (swapped tag t h) refl

pub took : (tag : ℕ) (form after : Form) → takes (one tag form after) tag ≡ true
took tag form after = rw (eq-eqb tag tag refl) refl

pub refuses : (tag n : ℕ) (xs : List ℕ) (form after : Form) → is_other tag xs ≡ true
    → Fact Tag (place n xs (one tag form after) []) n
refuses tag n [] form after h = absurd cc
refuses tag n (t ∷ xs) form after h =
    let p = and_parts (is_tag t) (not (eqb t tag)) h in
    (t, xs, ((tt, refl), p.0), one_refuses tag t form after (not-true (eqb t tag) p.1), refl)

pub enter_fault : (tag : ℕ) (s : Spot) (f : Fault) → IsBytes s.rest → enter_at tag s ≡ Err f → (form after : Form)
    → FaultFrom (place s.pos s.rest (one tag form after) []) f
unfolding enter_at expect_at
enter_fault tag s f fits e form after =
    let p : Place = place s.pos s.rest (one tag form after) [] in
    let other : Step = Err (fault Tag s.pos) in
    elim (bind_err (expect_at tag s) (λ x. Ok (spot (x.1.pos - length x.0.body) x.0.body, x.1)) f e) [
      | inr b ↦ absurd (let z = b.2 in cc)
      | inl b ↦ elim (chosen (is_other tag s.rest) other (next_at s) (fails f) b) [
        | inl h ↦ (p, stays, fact_is p (fault Tag s.pos) f (err_is _ _ h.1) (refuses tag s.pos s.rest form after h.0))
        | inr h ↦ (p, stays, next_fault s f p fits refl refl tt (λ _. (tt, refl)) h.1)
      ]
    ]

-- the same if the element that is there has the identifier, so that it need not be demanded
pub enter_fault_here : (tag : ℕ) (s : Spot) (f : Fault) → IsBytes s.rest → has_tag tag s.rest ≡ true
    → enter_at tag s ≡ Err f → (form after : Form)
    → FaultFrom (place s.pos s.rest (opt tag form after) []) f
unfolding enter_at expect_at
enter_fault_here tag s f fits there e form after =
    let p : Place = place s.pos s.rest (opt tag form after) [] in
    let other : Step = Err (fault Tag s.pos) in
    elim (bind_err (expect_at tag s) (λ x. Ok (spot (x.1.pos - length x.0.body) x.0.body, x.1)) f e) [
      | inr b ↦ absurd (let z = b.2 in cc)
      | inl b ↦ elim (chosen (is_other tag s.rest) other (next_at s) (fails f) b) [
        | inl h ↦ absurd (not_both tag s.rest there h.0)
        | inr h ↦ (p, stays, next_fault s f p fits refl refl tt (λ none. absurd (not_nil tag s.rest there none)) h.1)
      ]
    ]
  where
    not_both : (t : ℕ) (xs : List ℕ) → has_tag t xs ≡ true → is_other t xs ≡ true → ⊥
    not_both t [] h g = cc
    not_both t (x ∷ xs) h g = let p = and_parts (is_tag x) (not (eqb x t)) g in let q = not-true (eqb x t) p.1 in cc

    not_nil : (t : ℕ) (xs : List ℕ) → has_tag t xs ≡ true → xs ≡ [] → ⊥
    not_nil t [] h g = cc
    not_nil t (x ∷ xs) h g = cc

-- ---- faults of the contents, and of what follows

abbrev pub single : Count → ℕ → Form → Form → Form
single count tag form after = part count (tag ∷ []) (λ _. form) after

pub fault_inside : (count : Count) (tag : ℕ) (s c s' : Spot) (form after : Form) (ps : List Element) (f : Fault)
    → Enters tag s c s'
    → FaultFrom (place c.pos c.rest (body_of form) []) f
    → FaultFrom (place s.pos s.rest (single count tag form after) ps) f
fault_inside count tag s c s' form after ps f k h =
    let q = subst (λ (m : ℕ). FaultFrom (place m c.rest (body_of form) []) f) k.begin h in
    subst (λ (xs : List ℕ). FaultFrom (place s.pos xs (single count tag form after) ps) f) (sym k.parts)
    (q.0, enters tag c.rest s'.rest k.element (took tag form after) q.1, q.2)

pub fault_behind : (count : Count) (tag : ℕ) (s c s' : Spot) (form after : Form) (ps : List Element) (f : Fault)
    → Enters tag s c s'
    → FaultFrom (place s'.pos s'.rest (behind (single count tag form after) c.rest)
    (passed_by (single count tag form after) ps (tag, c.rest))) f
    → FaultFrom (place s.pos s.rest (single count tag form after) ps) f
fault_behind count tag s c s' form after ps f k h =
    let q = subst (λ (m : ℕ). FaultFrom (place m s'.rest (behind (single count tag form after) c.rest)
    (passed_by (single count tag form after) ps (tag, c.rest))) f) k.moved h in
    subst (λ (xs : List ℕ). FaultFrom (place s.pos xs (single count tag form after) ps) f) (sym k.parts)
    (q.0, passes tag c.rest s'.rest k.element (took tag form after) q.1, q.2)

-- ---- an element that may be absent

-- the cases of it
pub maybe_gives : {A : Type 0} (tag : ℕ) (read : Body A) (s : Spot) (y : Option A × Spot) → maybe tag read s ≡ Ok y
    → ((x : A) × (within tag read s ≡ Ok (x, y.1)) × (y.0 ≡ Some x)) ⊎ ((has_tag tag s.rest ≡ false) × (y ≡ (None, s)))
maybe_gives {A} tag read s y e =
    let some : Result (Option A × Spot) Fault = within tag read s >>= λ x. Ok (Some x.0, x.1) in
    elim (chosen (has_tag tag s.rest) some (Ok (None, s)) (Ok y) e) [
      | inl h ↦
          let b = bind_ok (within tag read s) (λ x. Ok (Some x.0, x.1)) y h.1 in
          let is : (Some b.0.0, b.0.1) ≡ y = ok_is (Some b.0.0, b.0.1) y b.2 in
          inl (
            b.0.0,
            subst (λ (z : Option A × Spot). within tag read s ≡ Ok (b.0.0, z.1)) is b.1,
            sym (ap (λ (z : Option A × Spot). z.0) is),
          )
      | inr h ↦ inr (h.0, sym (ok_is (None, s) y h.1))
    ]

pub none_stands : (tag : ℕ) (form after : Form) (xs : List ℕ) → has_tag tag xs ≡ false
    → StandsNot (opt tag form after) xs
none_stands tag form after [] h = tt
none_stands tag form after (t ∷ xs) h = rw (swapped tag t h) refl

pub none_fault : (tag : ℕ) (form : Form) (s : Spot) (xs : List ℕ) (f : Fault) → s.rest ≡ xs → has_tag tag xs ≡ false
    → none_in s xs ≡ Err f
    → FaultFrom (place s.pos s.rest (opt tag form full) []) f
none_fault tag form s [] f is h e = absurd cc
none_fault tag form s (t ∷ xs) f is h e =
    let p : Place = place s.pos s.rest (opt tag form full) [] in
    let other : Result (Unit {0}) Fault = Err (fault Tag s.pos) in
    let high : Result (Unit {0}) Fault = Err (fault HighTag s.pos) in
    elim (chosen (is_tag t) other high (fails f) e) [
      | inl g ↦ (
        p,
        stays,
        fact_is p (fault Tag s.pos) f (err_is _ _ g.1) (t, xs, ((tt, is), g.0), last_refuses tag t form h, refl),
      )
      | inr g ↦ (p, stays, fact_is p (fault HighTag s.pos) f (err_is _ _ g.1) (t, xs, (tt, is), g.0, refl))
    ]

-- as the last part of a body it is read if the element is present, or the body ends
pub last_gives : {A : Type 0} (tag : ℕ) (read : Body A) (s : Spot) (y : Option A × Spot) → last tag read s ≡ Ok y
    → maybe tag read s ≡ Ok y
unfolding none_at
last_gives {A} tag read s y e =
    let some : Result (Option A × Spot) Fault = within tag read s >>= λ x. Ok (Some x.0, x.1) in
    let none : Result (Option A × Spot) Fault = none_in s s.rest >>= λ u. Ok (None, s) in
    elim (chosen (has_tag tag s.rest) some none (Ok y) e) [
      | inl h ↦ rw h.0 h.1
      | inr h ↦ let b = bind_ok (none_in s s.rest) (λ u. Ok (None, s)) y h.1 in rw h.0 b.2
    ]

-- a fault is one of the element, or of what is there in its place
pub last_lacks : {A : Type 0} (tag : ℕ) (read : Body A) (s : Spot) (f : Fault) → last tag read s ≡ Err f
    → (maybe tag read s ≡ Err f) ⊎ ((has_tag tag s.rest ≡ false) × (none_in s s.rest ≡ Err f))
unfolding none_at
last_lacks {A} tag read s f e =
    let some : Result (Option A × Spot) Fault = within tag read s >>= λ x. Ok (Some x.0, x.1) in
    let none : Result (Option A × Spot) Fault = none_in s s.rest >>= λ u. Ok (None, s) in
    elim (chosen (has_tag tag s.rest) some none (fails f) e) [
      | inl h ↦ inl (rw h.0 h.1)
      | inr h ↦ elim (bind_err (none_in s s.rest) (λ u. Ok (None, s)) f h.1) [
        | inl b ↦ inr (h.0, b)
        | inr b ↦ absurd (let z = b.2 in cc)
      ]
    ]

-- ---- readings made of readings

module _ {A : Type 0} (tag : ℕ) (id : is_tag tag ≡ true) (read : Body A) (enc : A → List ℕ) (Good : A → Type 0)
    (form : Form)
    (law : IsBody read enc Good form) where
  abbrev pub GoodInside : A → Type 0
  GoodInside x = Good x × (length (enc x) < 2 ^ 32)

  pub within_ok : (s : Spot) (y : A × Spot) → IsBytes s.rest → within tag read s ≡ Ok y
      → (c : Spot) × Enters tag s c y.1 × Good y.0 × (c.rest ≡ enc y.0)
  within_ok s y fits e =
      let a = bind_ok (enter_at tag s) (λ x. read x.0 >>= λ v. Ok (v, x.1)) y e in
      let b = bind_ok (read a.0.0) (λ v. Ok (v, a.0.1)) y a.2 in
      let k = enter_ok tag s a.0 fits a.1 in
      let t = law.takes a.0.0 b.0 k.fits b.1 in
      let is = ok_is (b.0, a.0.1) y b.2 in
      let r = subst (λ (z : A × Spot). Enters tag s a.0.0 z.1 × Good z.0 × (a.0.0.rest ≡ enc z.0)) is (k, t.0, t.1) in
      (a.0.0, r.0, r.1, r.2)

  within_takes : (s : Spot) (y : A × Spot) → IsBytes s.rest → within tag read s ≡ Ok y
      → GoodInside y.0 × Follows s (el tag (enc y.0)) y.1
  within_takes s y fits e =
      let h = within_ok s y fits e in
      let k = h.1 in (
        (h.2, subst (λ (b : List ℕ). length b < 2 ^ 32) h.3 k.element.size),
        subst (λ (b : List ℕ). Follows s (el tag b) y.1) h.3 (record { parts = k.parts; moved = k.moved }),
      )

  pub within_again : (x : A) (n : ℕ) (r : List ℕ) → GoodInside x
      → within tag read (spot n (el tag (enc x) ++ r)) ≡ Ok (x, spot (n + length (el tag (enc x))) r)
  within_again x n r h =
      rw (
        enter_again tag n (enc x) r (record { identifier = id; size = h.1 }),
        law.again x (n + (1 + length (len (length (enc x))))) h.0,
      ) refl

  within_fault : (s : Spot) (f : Fault) → IsBytes s.rest → within tag read s ≡ Err f → (after : Form)
      → FaultFrom (place s.pos s.rest (one tag form after) []) f
  within_fault s f fits e after =
      elim (bind_err (enter_at tag s) (λ x. read x.0 >>= λ v. Ok (v, x.1)) f e) [
        | inl a ↦ enter_fault tag s f fits a form after
        | inr a ↦
            let k = enter_ok tag s a.0 fits a.1 in
            elim (bind_err (read a.0.0) (λ v. Ok (v, a.0.1)) f a.2) [
              | inl b ↦ fault_inside One tag s a.0.0 a.0.1 form after [] f k (law.faults a.0.0 f k.fits b)
              | inr b ↦ absurd (let z = b.2 in cc)
            ]
      ]

  -- an element with this identifier, and these contents
  pub within_reader :
      IsReader (within tag read) (λ x. el tag (enc x)) GoodInside (one tag form) (λ r. Unit {0}) Anything
  within_reader = record {
    plain = λ after. refl;
    takes = within_takes;
    again = λ x n r h l. within_again x n r h;
    faults = λ s f fits e after b. within_fault s f fits e after;
    goes = λ s y fits e after f h. let k = within_ok s y fits e in fault_behind One tag s k.0 y.1 form after [] f k.1 h;
    encodes = λ x r after h m. next tag (enc x) r refl (record { identifier = id; size = h.1 })
        (took tag form after) refl refl (law.encodes x h.0) m;
  }

  abbrev pub enc_option : Option A → List ℕ
  enc_option None = []
  enc_option (Some x) = el tag (enc x)

  abbrev pub GoodOption : Option A → Type 0
  GoodOption None = Unit {0}
  GoodOption (Some x) = GoodInside x

  abbrev Part : Type 0
  Part = Result (Option A × Spot) Fault

  maybe_takes : (s : Spot) (y : Option A × Spot) → IsBytes s.rest → maybe tag read s ≡ Ok y
      → GoodOption y.0 × Follows s (enc_option y.0) y.1
  maybe_takes s y fits e =
      elim (maybe_gives tag read s y e) [
        | inl h ↦
            let t = within_takes s (h.0, y.1) fits h.1 in
            subst (λ (o : Option A). GoodOption o × Follows s (enc_option o) y.1) (sym h.2) t
        | inr h ↦ subst (λ (z : Option A × Spot). GoodOption z.0 × Follows s (enc_option z.0) z.1) (sym h.1)
            (tt, record { parts = refl; moved = omega arith })
      ]

  maybe_again : (x : Option A) (n : ℕ) (r : List ℕ) → GoodOption x → has_tag tag r ≡ false
      → maybe tag read (spot n (enc_option x ++ r)) ≡ Ok (x, spot (n + length (enc_option x)) r)
  maybe_again None n r h l = let e : n + 0 ≡ n = omega arith in rw (l, e) refl
  maybe_again (Some x) n r h l = let e : eqb tag tag ≡ true = eq-eqb tag tag refl in rw (e, within_again x n r h) refl

  maybe_fault : (s : Spot) (f : Fault) → IsBytes s.rest → maybe tag read s ≡ Err f → (after : Form)
      → FaultFrom (place s.pos s.rest (opt tag form after) []) f
  maybe_fault s f fits e after =
      let some : Part = within tag read s >>= λ x. Ok (Some x.0, x.1) in
      elim (chosen (has_tag tag s.rest) some (Ok (None, s)) (fails f) e) [
        | inr h ↦ absurd (let z = h.1 in cc)
        | inl h ↦ elim (bind_err (within tag read s) (λ x. Ok (Some x.0, x.1)) f h.1) [
          | inr b ↦ absurd (let z = b.2 in cc)
          | inl b ↦ elim (bind_err (enter_at tag s) (λ x. read x.0 >>= λ v. Ok (v, x.1)) f b) [
            | inl a ↦ enter_fault_here tag s f fits h.0 a form after
            | inr a ↦
                let k = enter_ok tag s a.0 fits a.1 in
                elim (bind_err (read a.0.0) (λ v. Ok (v, a.0.1)) f a.2) [
                  | inl c ↦ fault_inside Optional tag s a.0.0 a.0.1 form after [] f k (law.faults a.0.0 f k.fits c)
                  | inr c ↦ absurd (let z = c.2 in cc)
                ]
          ]
        ]
      ]

  maybe_goes : (s : Spot) (y : Option A × Spot) → IsBytes s.rest → maybe tag read s ≡ Ok y → (after : Form) (f : Fault)
      → FaultFrom (place y.1.pos y.1.rest after []) f → FaultFrom (place s.pos s.rest (opt tag form after) []) f
  maybe_goes s y fits e after f q =
      elim (maybe_gives tag read s y e) [
        | inl h ↦ let k = within_ok s (h.0, y.1) fits h.1 in fault_behind Optional tag s k.0 y.1 form after [] f k.1 q
        | inr h ↦
            let p = subst (λ (z : Option A × Spot). FaultFrom (place z.1.pos z.1.rest after []) f) h.1 q in
            (p.0, drops refl (none_stands tag form after s.rest h.0) p.1, p.2)
      ]

  maybe_encodes : (x : Option A) (r : List ℕ) (after : Form) → GoodOption x → Encodes [] after r
      → Encodes [] (opt tag form after) (enc_option x ++ r)
  maybe_encodes None r after h m = absent refl m
  maybe_encodes (Some x) r after h m = next tag (enc x) r refl (record { identifier = id; size = h.1 })
      (took tag form after) refl refl (law.encodes x h.0) m

  -- such an element, if one is present
  pub maybe_reader :
      IsReader (maybe tag read) enc_option GoodOption (opt tag form) (λ r. has_tag tag r ≡ false) Anything
  maybe_reader = record {
    plain = λ after. refl;
    takes = maybe_takes;
    again = maybe_again;
    faults = λ s f fits e after b. maybe_fault s f fits e after;
    goes = maybe_goes;
    encodes = maybe_encodes;
  }

  -- ---- the last part of a body

  last_again : (x : Option A) (n : ℕ) (r : List ℕ) → GoodOption x → r ≡ []
      → last tag read (spot n (enc_option x ++ r)) ≡ Ok (x, spot (n + length (enc_option x)) r)
  unfolding none_at
  last_again None n r h l = let e : n + 0 ≡ n = omega arith in rw (l, e) refl
  last_again (Some x) n r h l = let e : eqb tag tag ≡ true = eq-eqb tag tag refl in rw (e, within_again x n r h) refl

  last_fault : (s : Spot) (f : Fault) → IsBytes s.rest → last tag read s ≡ Err f
      → FaultFrom (place s.pos s.rest (opt tag form full) []) f
  last_fault s f fits e = elim (last_lacks tag read s f e) [
    | inl m ↦ maybe_fault s f fits m full
    | inr h ↦ none_fault tag form s s.rest f refl h.0 h.1
  ]

  -- such an element, if one is present; if none is, the body must end
  pub last_reader : IsReader (last tag read) enc_option GoodOption (opt tag form) (λ r. r ≡ []) Nothing
  last_reader = record {
    plain = λ after. refl;
    takes = λ s y fits e. maybe_takes s y fits (last_gives tag read s y e);
    again = last_again;
    faults = λ s f fits e after b.
        subst (λ (g : Form). FaultFrom (place s.pos s.rest (opt tag form g) []) f) (sym b) (last_fault s f fits e);
    goes = λ s y fits e after f h. maybe_goes s y fits (last_gives tag read s y e) after f h;
    encodes = maybe_encodes;
  }

-- one reading and then another
module _ {A B : Type 0} (first : Reader A) (enc : A → List ℕ) (Good : A → Type 0) (due : Form → Form)
    (Lets : List ℕ → Type 0)
    (law : IsReader first enc Good due Lets Anything)
    (second : Reader B) (enc' : B → List ℕ) (Good' : B → Type 0) (due' : Form → Form) (Lets' : List ℕ → Type 0)
    (Before' : Form → Type 0)
    (law' : IsReader second enc' Good' due' Lets' Before')
    (meets : (y : B) (r : List ℕ) → Good' y → Lets' r → Lets (enc' y ++ r)) where
  Follows-then : (s t u : Spot) (x y : List ℕ) → Follows s x t → Follows t y u → Follows s (x ++ y) u
  Follows-then s t u x y p q = record {
    parts = p.parts ∙ ap (λ (r : List ℕ). x ++ r) q.parts ∙ sym (append_assoc x y u.rest);
    moved = omega (arith, p.moved, q.moved, length-append x y);
  }

  IsBytes-behind : (s t : Spot) (x : List ℕ) → Follows s x t → IsBytes s.rest → IsBytes t.rest
  IsBytes-behind s t x p fits = subst IsBytes (drop_at x t.rest (length x) refl)
      (IsBytes-drop (length x) (x ++ t.rest) (subst IsBytes p.parts fits))

  then_ok : (s : Spot) (y : (A × B) × Spot) → (first then second) s ≡ Ok y
      → (a : A × Spot) × (b : B × Spot) × (first s ≡ Ok a) × (second a.1 ≡ Ok b) × (((a.0, b.0), b.1) ≡ y)
  then_ok s y e =
      let a = bind_ok (first s) (λ x. second x.1 >>= λ z. Ok ((x.0, z.0), z.1)) y e in
      let b = bind_ok (second a.0.1) (λ z. Ok ((a.0.0, z.0), z.1)) y a.2 in
      (a.0, b.0, a.1, b.1, ok_is ((a.0.0, b.0.0), b.0.1) y b.2)

  pub then_reader : IsReader (first then second) (λ p. enc p.0 ++ enc' p.1) (λ p. Good p.0 × Good' p.1)
      (λ f. due (due' f)) Lets' Before'
  then_reader = record {
    plain = λ after. law.plain (due' after);
    takes = λ s y fits e.
        let k = then_ok s y e in
        let p = law.takes s k.0 fits k.2 in
        let q = law'.takes k.0.1 k.1 (IsBytes-behind s k.0.1 (enc k.0.0) p.1 fits) k.3 in
        subst (λ (z : (A × B) × Spot). (Good z.0.0 × Good' z.0.1) × Follows s (enc z.0.0 ++ enc' z.0.1) z.1) k.4
        ((p.0, q.0), Follows-then s k.0.1 k.1.1 (enc k.0.0) (enc' k.1.0) p.1 q.1);
    again = λ x n r h l.
        let regrouped : (enc x.0 ++ enc' x.1) ++ r ≡ enc x.0 ++ (enc' x.1 ++ r) = append_assoc (enc x.0) (enc' x.1) r in
        let at : n + length (enc x.0) + length (enc' x.1) ≡ n + length (enc x.0 ++ enc' x.1) =
        omega (arith, length-append (enc x.0) (enc' x.1)) in
        ap (λ (t : List ℕ). (first then second) (spot n t)) regrouped
        ∙ rw
        (law.again x.0 n (enc' x.1 ++ r) h.0 (meets x.1 r h.1 l), law'.again x.1 (n + length (enc x.0)) r h.1 l, at)
        refl;
    faults = λ s f fits e after ends.
        elim (bind_err (first s) (λ x. second x.1 >>= λ z. Ok ((x.0, z.0), z.1)) f e) [
          | inl a ↦ law.faults s f fits a (due' after) tt
          | inr a ↦ elim (bind_err (second a.0.1) (λ z. Ok ((a.0.0, z.0), z.1)) f a.2) [
            | inl b ↦ law.goes s a.0 fits a.1 (due' after) f
                (law'.faults a.0.1 f
                (IsBytes-behind s a.0.1 (enc a.0.0) (law.takes s a.0 fits a.1).1 fits) b after ends)
            | inr b ↦ absurd (let z = b.2 in cc)
          ]
        ];
    goes = λ s y fits e after f h.
        let k = then_ok s y e in
        let p = law.takes s k.0 fits k.2 in
        law.goes s k.0 fits k.2 (due' after) f
        (law'.goes k.0.1 k.1 (IsBytes-behind s k.0.1 (enc k.0.0) p.1 fits) k.3 after f
        (subst (λ (z : (A × B) × Spot). FaultFrom (place z.1.pos z.1.rest after []) f) (sym k.4) h));
    encodes = λ x r after h m.
        subst (Encodes [] (due (due' after))) (sym (append_assoc (enc x.0) (enc' x.1) r))
        (law.encodes x.0 (enc' x.1 ++ r) (due' after) h.0 (law'.encodes x.1 r after h.1 m));
  }

-- a whole body
module _ {A : Type 0} (read : Reader A) (enc : A → List ℕ) (Good : A → Type 0) (due : Form → Form)
    (Lets : List ℕ → Type 0) (Before : Form → Type 0)
    (law : IsReader read enc Good due Lets Before) (ends : Lets []) (last_of : Before full) where
  abbrev End_read : Type 0
  End_read = Result (Unit {0}) Fault

  end_ok : (s : Spot) (u : Unit {0}) → end_at s ≡ Ok u → s.rest ≡ []
  unfolding end_at
  end_ok s u e =
      let past : End_read = Err (fault Trailing s.pos) in
      elim (chosen (eqb (length s.rest) 0) (Ok tt) past (Ok u) e) [
        | inl h ↦ nil_from_length s.rest (eqb-true _ _ h.0)
        | inr h ↦ absurd (let z = h.1 in cc)
      ]

  end_fault : (s : Spot) (f : Fault) → end_at s ≡ Err f → FaultFrom (place s.pos s.rest full []) f
  unfolding end_at
  end_fault s f e =
      let past : End_read = Err (fault Trailing s.pos) in
      let p : Place = place s.pos s.rest full [] in
      elim (chosen (eqb (length s.rest) 0) (Ok tt) past (fails f) e) [
        | inl h ↦ absurd (let z = h.1 in cc)
        | inr h ↦ (
          p,
          stays,
          fact_is p (fault Trailing s.pos) f (err_is _ _ h.1)
              (refl, λ none. eqb-false _ _ h.0 (ap length none), refl),
        )
      ]

  pub whole_body : IsBody (whole_of read) enc Good (due full)
  unfolding end_at
  whole_body = record {
    takes = λ s x fits e.
        let a = bind_ok (read s) (λ y. end_at y.1 >>= λ u. Ok y.0) x e in
        let b = bind_ok (end_at a.0.1) (λ u. Ok a.0.0) x a.2 in
        let t = law.takes s a.0 fits a.1 in
        let none = end_ok a.0.1 b.0 b.1 in
        let all : s.rest ≡ enc a.0.0 = t.1.parts ∙ ap (λ (r : List ℕ). enc a.0.0 ++ r) none ∙ append-nil (enc a.0.0) in
        subst (λ (v : A). Good v × (s.rest ≡ enc v)) (ok_is a.0.0 x b.2) (t.0, all);
    again = λ x n h.
        let a : read (spot n (enc x)) ≡ Ok (x, spot (n + length (enc x)) []) =
        subst (λ (t : List ℕ). read (spot n t) ≡ Ok (x, spot (n + length (enc x)) [])) (append-nil (enc x))
        (law.again x n [] h ends) in
        rw a refl;
    faults = λ s f fits e.
        rw law.plain (elim (bind_err (read s) (λ y. end_at y.1 >>= λ u. Ok y.0) f e) [
          | inl a ↦ law.faults s f fits a full last_of
          | inr a ↦ elim (bind_err (end_at a.0.1) (λ u. Ok a.0.0) f a.2) [
            | inl b ↦ law.goes s a.0 fits a.1 full f (end_fault a.0.1 f b)
            | inr b ↦ absurd (let z = b.2 in cc)
          ]
        ]);
    encodes = λ x h. subst (Encodes [] (due full)) (append-nil (enc x)) (law.encodes x [] full h (ended refl));
  }

-- the same values, converted by a function
module _ {A B : Type 0} (to : A → B) (from : B → A) (there : (b : B) → to (from b) ≡ b) where
  pub made_body : (read : Body A) (enc : A → List ℕ) (Good : A → Type 0) (form : Form) → IsBody read enc Good form
      → ((a : A) → Good a → from (to a) ≡ a) → IsBody (made to read) (λ b. enc (from b)) (λ b. Good (from b)) form
  made_body read enc Good form law back = record {
    takes = λ s x fits e.
        let a = bind_ok (read s) (λ v. Ok (to v)) x e in
        let t = law.takes s a.0 fits a.1 in
        let is : from x ≡ a.0 = ap from (sym (ok_is (to a.0) x a.2)) ∙ back a.0 t.0 in
        subst (λ (v : A). Good v × (s.rest ≡ enc v)) (sym is) t;
    again = λ x n h. rw (law.again (from x) n h, there x) refl;
    faults = λ s f fits e.
        elim (bind_err (read s) (λ v. Ok (to v)) f e) [
          | inl a ↦ law.faults s f fits a
          | inr a ↦ absurd (let z = a.2 in cc)
        ];
    encodes = λ x h. law.encodes (from x) h;
  }

  pub named_reader : (read : Reader A) (enc : A → List ℕ) (Good : A → Type 0) (due : Form → Form)
      (Lets : List ℕ → Type 0) (Before : Form → Type 0)
      → IsReader read enc Good due Lets Before → ((a : A) → Good a → from (to a) ≡ a)
      → IsReader (named to read) (λ b. enc (from b)) (λ b. Good (from b)) due Lets Before
  named_reader read enc Good due Lets Before law back = record {
    plain = law.plain;
    takes = λ s y fits e.
        let a = bind_ok (read s) (λ v. Ok (to v.0, v.1)) y e in
        let t = law.takes s a.0 fits a.1 in
        let q = ok_is (to a.0.0, a.0.1) y a.2 in
        let is : from y.0 ≡ a.0.0 = ap from (sym (ap (λ (z : B × Spot). z.0) q)) ∙ back a.0.0 t.0 in
        let behind_is : a.0.1 ≡ y.1 = ap (λ (z : B × Spot). z.1) q in
        subst (λ (v : A). Good v × Follows s (enc v) y.1) (sym is)
        (subst (λ (u : Spot). Good a.0.0 × Follows s (enc a.0.0) u) behind_is t);
    again = λ x n r h l. rw (law.again (from x) n r h l, there x) refl;
    faults = λ s f fits e after b.
        elim (bind_err (read s) (λ v. Ok (to v.0, v.1)) f e) [
          | inl a ↦ law.faults s f fits a after b
          | inr a ↦ absurd (let z = a.2 in cc)
        ];
    goes = λ s y fits e after f h.
        let a = bind_ok (read s) (λ v. Ok (to v.0, v.1)) y e in
        let behind_is : a.0.1 ≡ y.1 = ap (λ (z : B × Spot). z.1) (ok_is (to a.0.0, a.0.1) y a.2) in
        law.goes s a.0 fits a.1 after f
        (subst (λ (u : Spot). FaultFrom (place u.pos u.rest after []) f) (sym behind_is) h);
    encodes = λ x r after h m. law.encodes (from x) r after h m;
  }
