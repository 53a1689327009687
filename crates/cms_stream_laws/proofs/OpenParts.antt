-- Open readings of parts that may be absent, of lists, and of a body whose rest depends on its first element.
use Rattle.std.proofs.Common.{◌≡◌, ℕ, zero, suc, ◌+◌, ◌-◌, ◌<◌, ◌≤◌, Bool, true, false, cond, eqb, List, [], ◌∷◌}
use Rattle.std.proofs.Common.{length, Option, Some, None, Result, Ok, Err}
use Rattle.std.proofs.Common.{refl, ap, subst, arith, inl, inr, ◌⊎◌}
use Rattle.std.proofs.lemmas.Bool.{cases_lt, eqb-true, ne_eqb}
use Rattle.std.proofs.lemmas.List.{length-take-le, length-drop}
use Rattle.der_core.specs.declared.fault.Fault.{Fault}
use Rattle.der_core.specs.Element.{IsBytes, has_tag}
use Rattle.der_core.specs.Lists.{is_same}
use Rattle.der_core.specs.Reading.{Spot, none_in, none_at, within, maybe, last, many_from, many_in, switched}
use Rattle.der_core.specs.Results.{◌>>=◌}
use Rattle.der_core.proofs.ReadLengths.{chosen, ok_is}
use Rattle.der_core.proofs.Results.{bind_ok}
use Rattle.cms_stream_laws.specs.OpenReading.{OpenSpot, body_of, closed, ahead, lost, heading, enter_openly, OpenReader}
use Rattle.cms_stream_laws.specs.OpenReading.{OpenBody, within_openly, maybe_openly}
use Rattle.cms_stream_laws.specs.OpenReading.{last_openly, looked, switched_openly, many_openly_from, many_openly, Went}
use Rattle.cms_stream_laws.specs.OpenReading.{IsMet}
use Rattle.cms_stream_laws.proofs.Switches.{Switched, left_of, right_of, rest_by}
use Rattle.cms_stream_laws.proofs.OpenLaws.{seen, done, IsOpenReader, IsOpenBody, met_ahead, bytes_ahead, went_nowhere}
use Rattle.cms_stream_laws.proofs.OpenLaws.{enter_went, within_open}

-- an octet of the body is there, or none is left
pub looked_met : {A : Type 0} (w : OpenSpot) (r : Result A Fault) → IsMet w → looked w r ≡ r
looked_met {A} w r met =
    elim (cases_lt 0 w.left) [
      | inl lt ↦
          let some : eqb w.left 0 ≡ false = ne_eqb w.left 0 (λ z. omega (arith, z, lt)) in
          let here : eqb (length w.rest) 0 ≡ false = ne_eqb (length w.rest) 0 (λ z. omega (arith, z, lt, met)) in
          rw (some, here) refl
      | inr le ↦ let none : w.left ≡ 0 = omega (arith, le) in rw none refl
    ]

pub looked_ok : {A : Type 0} (w : OpenSpot) (r : Result A Fault) (x : A) → looked w r ≡ Ok x → r ≡ Ok x
looked_ok {A} w r x e = by_left (eqb w.left 0) (eqb (length w.rest) 0) e
  where
    by_left : (b c : Bool) → cond b r (cond c (Err lost) r) ≡ Ok x → r ≡ Ok x
    by_left true c h = h
    by_left false true h = absurd cc
    by_left false false h = h

module _ {A : Type 0} (tag : ℕ) (read : Spot → Result A Fault) (openly : OpenBody A)
    (law : IsOpenBody read openly) where
  abbrev some_read : A × Spot → Result (Option A × Spot) Fault
  some_read x = Ok (Some x.0, x.1)

  abbrev some_open : A × OpenSpot → Result (Option A × OpenSpot) Fault
  some_open x = Ok (Some x.0, x.1)

  some_same : (r : Result (A × OpenSpot) Fault) → ((r >>= seen) >>= some_read) ≡ ((r >>= some_open) >>= seen)
  some_same (Ok x) = refl
  some_same (Err f) = refl

  present_same : (w : OpenSpot) → IsMet w → IsBytes w.rest
      → (within tag read (closed w) >>= some_read) ≡ ((within_openly tag openly w >>= some_open) >>= seen)
  present_same w met fits =
      rw ((within_open tag read openly law).same w met fits) (some_same (within_openly tag openly w))

  present_went : (w : OpenSpot) (y : Option A × OpenSpot) → IsBytes w.rest
      → (within_openly tag openly w >>= some_open) ≡ Ok y → Went w y.1
  present_went w y fits e =
      let a = bind_ok (within_openly tag openly w) some_open y e in
      subst (λ (z : Option A × OpenSpot). Went w z.1) (ok_is (Some a.0.0, a.0.1) y a.2)
      ((within_open tag read openly law).went w a.0 fits a.1)

  abbrev Parted : Type 0
  Parted = Result (Option A × OpenSpot) Fault

  abbrev absent_open : OpenSpot → Parted
  absent_open w = Ok (None, w)

  pub maybe_open : IsOpenReader (maybe tag read) (maybe_openly tag openly)
  maybe_open = record {
    same =
        λ w met fits. rw (looked_met w
        (cond (has_tag tag (body_of w)) (within_openly tag openly w >>= some_open) (absent_open w)) met)
        (by_stands w (has_tag tag (body_of w)) met fits);
    went =
        λ w y fits e. went_by w y (has_tag tag (body_of w)) fits
        (looked_ok w (cond (has_tag tag (body_of w)) (within_openly tag openly w >>= some_open) (absent_open w)) y e);
  }
    where
      by_stands : (w : OpenSpot) (b : Bool) → IsMet w → IsBytes w.rest
          → cond b (within tag read (closed w) >>= some_read) (Ok (None, closed w))
          ≡ (cond b (within_openly tag openly w >>= some_open) (absent_open w) >>= seen)
      by_stands w true met fits = present_same w met fits
      by_stands w false met fits = refl

      went_by : (w : OpenSpot) (y : Option A × OpenSpot) (b : Bool) → IsBytes w.rest
          → cond b (within_openly tag openly w >>= some_open) (absent_open w) ≡ Ok y
          → Went w y.1
      went_by w y true fits h = present_went w y fits h
      went_by w y false fits h = subst (λ (z : Option A × OpenSpot). Went w z.1) (ok_is (None, w) y h) (went_nowhere w)

  abbrev none_open : OpenSpot → Parted
  none_open w = none_in (closed w) (body_of w) >>= λ u. Ok (None, w)

  pub last_open : IsOpenReader (last tag read) (last_openly tag openly)
  unfolding none_at
  last_open = record {
    same =
        λ w met fits. rw
        (looked_met w (cond (has_tag tag (body_of w)) (within_openly tag openly w >>= some_open) (none_open w)) met)
        (by_stands w (has_tag tag (body_of w)) met fits);
    went =
        λ w y fits e. went_by w y (has_tag tag (body_of w)) fits
        (looked_ok w (cond (has_tag tag (body_of w)) (within_openly tag openly w >>= some_open) (none_open w)) y e);
  }
    where
      absent_same : (w : OpenSpot) (r : Result (Unit {0}) Fault)
          → (r >>= λ u. Ok (None, closed w)) ≡ ((r >>= λ u. absent_open w) >>= seen)
      absent_same w (Ok u) = refl
      absent_same w (Err f) = refl

      by_stands : (w : OpenSpot) (b : Bool) → IsMet w → IsBytes w.rest
          → cond b (within tag read (closed w) >>= some_read)
          (none_in (closed w) (body_of w) >>= λ u. Ok (None, closed w))
          ≡ (cond b (within_openly tag openly w >>= some_open) (none_open w) >>= seen)
      by_stands w true met fits = present_same w met fits
      by_stands w false met fits = absent_same w (none_in (closed w) (body_of w))

      went_by : (w : OpenSpot) (y : Option A × OpenSpot) (b : Bool) → IsBytes w.rest
          → cond b (within_openly tag openly w >>= some_open) (none_open w) ≡ Ok y
          → Went w y.1
      went_by w y true fits h = present_went w y fits h
      went_by w y false fits h =
          let b = bind_ok (none_in (closed w) (body_of w)) (λ u. absent_open w) y h in
          subst (λ (z : Option A × OpenSpot). Went w z.1) (ok_is (None, w) y b.2) (went_nowhere w)

-- ---- lists

met_back : (w w' : OpenSpot) → Went w w' → IsMet w' → IsMet w
met_back w w' g met =
    let inside = g.inside in let there = g.there in
    let m : IsMet (ahead g.count w) = subst IsMet g.is met in
    omega (arith, m, inside, there, length-drop g.count w.rest)

-- each item has an octet at least
abbrev pub GoesOn : {A : Type 0} → OpenReader A → Type 0
GoesOn {A} openly = (w : OpenSpot) (y : A × OpenSpot) → IsBytes w.rest → openly w ≡ Ok y → y.1.left < w.left

pub within_goes_on : {A : Type 0} (tag : ℕ) (openly : OpenBody A) → GoesOn (within_openly tag openly)
within_goes_on {A} tag openly w y fits e =
    let a = bind_ok (enter_openly tag w) (λ x. openly x.0 >>= λ v. Ok (v, x.1)) y e in
    let b = bind_ok (openly a.0.0) (λ v. Ok (v, a.0.1)) y a.2 in
    let k = enter_went tag w a.0 fits a.1 in
    let i = k.inside in
    let left : a.0.1.left ≡ w.left - (heading k.size + k.size) = ap (λ (v : OpenSpot). v.left) k.behind in
    subst (λ (z : A × OpenSpot). z.1.left < w.left) (ok_is (b.0, a.0.1) y b.2) (omega (arith, left, i))

module _ {A : Type 0} (read : Spot → Result (A × Spot) Fault) (openly : OpenReader A) (law : IsOpenReader read openly)
    (on : GoesOn openly) where
  abbrev Listed : Type 0
  Listed = Result (List A) Fault

  abbrev others_read : ℕ → A × Spot → Listed
  others_read k x = many_from read k x.1 >>= λ xs. Ok (x.0 ∷ xs)

  abbrev others_open : ℕ → A × OpenSpot → Listed
  others_open k x = many_openly_from openly k x.1 >>= λ xs. Ok (x.0 ∷ xs)

  by_item : (k : ℕ) (v : OpenSpot) (r : Result (A × OpenSpot) Fault) → openly v ≡ r → IsMet v → IsBytes v.rest
      → v.left ≤ suc k
      → ((u : OpenSpot) → IsMet u → IsBytes u.rest → u.left ≤ k
      → many_from read k (closed u) ≡ many_openly_from openly k u)
      → ((r >>= seen) >>= others_read k) ≡ (r >>= others_open k)
  by_item k v (Err f) e m fits h same = refl
  by_item k v (Ok x) e m fits h same =
      let g = law.went v x fits e in
      let o = on v x fits e in
      rw (same x.1 (met_ahead v x.1 g m) (bytes_ahead v x.1 g fits) (omega (arith, o, h))) refl

  many_same : (k : ℕ) (w : OpenSpot) → IsMet w → IsBytes w.rest → w.left ≤ k
      → many_from read k (closed w) ≡ many_openly_from openly k w
  unfolding many_from many_openly_from
  many_same zero w met fits le = let none : w.left ≡ 0 = omega (arith, le) in rw none refl
  many_same (suc k) w met fits le =
      elim (cases_lt 0 w.left) [
        | inl lt ↦
            let size : length (body_of w) ≡ w.left = length-take-le w.left w.rest met in
            let some : eqb w.left 0 ≡ false = ne_eqb w.left 0 (λ z. omega (arith, z, lt)) in
            let here : eqb (length w.rest) 0 ≡ false = ne_eqb (length w.rest) 0 (λ z. omega (arith, z, lt, met)) in
            rw (size, some, here, law.same w met fits)
            (by_item k w (openly w) refl met fits le (λ v m f h. many_same k v m f h))
        | inr le0 ↦
            let size : length (body_of w) ≡ w.left = length-take-le w.left w.rest met in
            let none : w.left ≡ 0 = omega (arith, le0) in rw (size, none) refl
      ]

  many_met : (k : ℕ) (w : OpenSpot) (xs : List A) → IsBytes w.rest → many_openly_from openly k w ≡ Ok xs → IsMet w
  unfolding many_openly_from
  many_met zero w xs fits e = elim (chosen (eqb w.left 0) (done []) (Err lost) (done xs) e) [
    | inl h ↦ let z = eqb-true w.left 0 h.0 in omega (arith, z)
    | inr h ↦ absurd (let z = h.1 in cc)
  ]
  many_met (suc k) w xs fits e =
      let go : Listed = openly w >>= others_open k in
      elim (chosen (eqb w.left 0) (done []) (cond (eqb (length w.rest) 0) (Err lost) go) (done xs) e) [
        | inl h ↦ let z = eqb-true w.left 0 h.0 in omega (arith, z)
        | inr h ↦ elim (chosen (eqb (length w.rest) 0) (Err lost) go (done xs) h.1) [
          | inl g ↦ absurd (let z = g.1 in cc)
          | inr g ↦
              let a = bind_ok (openly w) (others_open k) xs g.1 in
              let b = bind_ok (many_openly_from openly k a.0.1) (λ ys. done (a.0.0 ∷ ys)) xs a.2 in
              let went = law.went w a.0 fits a.1 in
              met_back w a.0.1 went (many_met k a.0.1 b.0 (bytes_ahead w a.0.1 went fits) b.1)
        ]
      ]

  pub many_open : IsOpenBody (many_in read) (many_openly openly)
  unfolding many_in
  many_open = record {
    same = λ w met fits. let size : length (body_of w) ≡ w.left = length-take-le w.left w.rest met in
        rw size (many_same w.left w met fits (omega arith));
    met = λ w xs fits e. many_met w.left w xs fits e;
  }

-- ---- a body whose rest depends on its first element

module _ {A B : Type 0} (tag : ℕ) (inside : Spot → Result (List ℕ) Fault) (inside' : OpenBody (List ℕ))
    (law : IsOpenBody inside inside') (these : List ℕ)
    (same : Spot → Result A Fault) (same' : OpenBody A) (law-same : IsOpenBody same same')
    (other : Spot → Result B Fault) (other' : OpenBody B)
    (law-other : IsOpenBody other other') where
  abbrev rest_read : List ℕ × Spot → Switched A B
  rest_read = rest_by A B these same other

  abbrev rest_open : List ℕ × OpenSpot → Switched A B
  rest_open = rest_by A B these same' other'

  by_first : (w : OpenSpot) (r : Result (List ℕ × OpenSpot) Fault) → within_openly tag inside' w ≡ r → IsMet w
      → IsBytes w.rest
      → ((r >>= seen) >>= rest_read) ≡ (r >>= rest_open)
  by_first w (Err f) e met fits = refl
  by_first w (Ok x) e met fits =
      let g = (within_open tag inside inside' law).went w x fits e in
      let m = met_ahead w x.1 g met in
      let f = bytes_ahead w x.1 g fits in
      rw (law-same.same x.1 m f, law-other.same x.1 m f) refl

  pub switched_open : IsOpenBody (switched tag inside these same other) (switched_openly tag inside' these same' other')
  switched_open = record {
    same = λ w met fits. rw ((within_open tag inside inside' law).same w met fits)
        (by_first w (within_openly tag inside' w) refl met fits);
    met = λ w y fits e.
        let a = bind_ok (within_openly tag inside' w) rest_open y e in
        let g = (within_open tag inside inside' law).went w a.0 fits a.1 in
        met_back w a.0.1 g (rest_met a.0 y (bytes_ahead w a.0.1 g fits) a.2);
  }
    where
      rest_met : (x : List ℕ × OpenSpot) (y : A ⊎ (List ℕ × B)) → IsBytes x.1.rest → rest_open x ≡ Ok y → IsMet x.1
      rest_met x y fits e =
          elim (chosen (is_same these x.0) (same' x.1 >>= left_of A B) (other' x.1 >>= right_of A B x.0) (Ok y) e) [
            | inl h ↦ let b = bind_ok (same' x.1) (left_of A B) y h.1 in law-same.met x.1 b.0 fits b.1
            | inr h ↦ let b = bind_ok (other' x.1) (right_of A B x.0) y h.1 in law-other.met x.1 b.0 fits b.1
          ]
