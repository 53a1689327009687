-- What open readings owe to those of slices, and open readings made of open readings.
use Rattle.std.proofs.Common.{◌≡◌, ℕ, suc, ◌+◌, ◌-◌, ◌≤◌, Bool, true, false, cond, ltb, eqb, List, [], ◌∷◌, length}
use Rattle.std.proofs.Common.{drop, Result, Ok, Err, refl, sym, ap}
use Rattle.std.proofs.Common.{subst}
use Rattle.std.proofs.Common.{◌∙◌, arith, inl, inr}
use Rattle.std.proofs.lemmas.Bool.{cases_lt, ltb-false, le-ltb, eqb-true, ne_eqb}
use Rattle.std.proofs.lemmas.List.{length-take, length-take-le, length-append, length-drop, drop-drop}
use Rattle.der_core.specs.declared.fault.Fault.{Fault}
use Rattle.der_core.specs.declared.fault.Kind.TheVariants.{HighTag, Overrun, Tag}
use Rattle.der_core.specs.Element.{is_tag, len, IsBytes}
use Rattle.der_core.specs.Reading.{fault, Spot, end_at, length_at, is_other, within, ◌then◌, whole_of, made}
use Rattle.der_core.specs.Results.{◌>>=◌}
use Rattle.der_core.proofs.ReadLengths.{chosen, ok_is, IsBytes-tail, IsBytes-take, IsBytes-drop, length_takes}
use Rattle.der_core.proofs.Results.{bind_ok}
use Rattle.cms_stream_laws.specs.OpenReading.{OpenSpot, open_spot, body_of, closed, is_short, ahead, lost, is_end}
use Rattle.cms_stream_laws.specs.OpenReading.{judged, length_in, heading, entered}
use Rattle.cms_stream_laws.specs.OpenReading.{next_openly, enter_openly, end_openly, OpenReader, OpenBody}
use Rattle.cms_stream_laws.specs.OpenReading.{within_openly, ◌then_openly◌, whole_openly}
use Rattle.cms_stream_laws.specs.OpenReading.{made_openly}
use Rattle.cms_stream_laws.specs.OpenReading.{kept, Went, IsMet}
use Rattle.cms_stream_laws.proofs.OpenReaders.{enter_same, both}

abbrev pub seen : {A : Type 0} → A × OpenSpot → Result (A × Spot) Fault
seen y = Ok (y.0, closed y.1)

-- An open reading gives what the reading gives, where the body is whole; and it goes on by octets that are there.
pub record IsOpenReader {A : Type 0} (read : Spot → Result (A × Spot) Fault) (openly : OpenReader A) : Type 0 where
  pub same : (w : OpenSpot) → IsMet w → IsBytes w.rest → read (closed w) ≡ (openly w >>= seen)
  pub went : (w : OpenSpot) (y : A × OpenSpot) → IsBytes w.rest → openly w ≡ Ok y → Went w y.1

-- the same of a whole body: what is read was whole
pub record IsOpenBody {A : Type 0} (read : Spot → Result A Fault) (openly : OpenBody A) : Type 0 where
  pub same : (w : OpenSpot) → IsMet w → IsBytes w.rest → read (closed w) ≡ openly w
  pub met : (w : OpenSpot) (x : A) → IsBytes w.rest → openly w ≡ Ok x → IsMet w

abbrev pub done : {A : Type 0} → A → Result A Fault
done x = Ok x

abbrev lost_of : (B : Type 0) → Result B Fault
lost_of B = Err lost

-- ---- spots

pub met_ahead : (w w' : OpenSpot) → Went w w' → IsMet w → IsMet w'
met_ahead w w' g met =
    subst IsMet (sym g.is)
    (let inside = g.inside in let d = length-drop g.count w.rest in omega (arith, d, met, inside))

pub bytes_ahead : (w w' : OpenSpot) → Went w w' → IsBytes w.rest → IsBytes w'.rest
bytes_ahead w w' g fits = subst (λ (v : OpenSpot). IsBytes v.rest) (sym g.is) (IsBytes-drop g.count w.rest fits)

open_is : (l m n k : ℕ) (xs ys : List ℕ) → l ≡ m → n ≡ k → xs ≡ ys → open_spot l n xs ≡ open_spot m k ys
open_is l m n k xs ys e f g =
    ap (λ (j : ℕ). open_spot j n xs) e ∙ ap (λ (j : ℕ). open_spot m j xs) f ∙ ap (open_spot m k) g

pub went_on : (w v u : OpenSpot) → Went w v → Went v u → Went w u
went_on w v u g h =
    let gi = g.inside in let gt = g.there in
    let v-left : v.left ≡ w.left - g.count = ap (λ (x : OpenSpot). x.left) g.is in
    let v-pos : v.pos ≡ w.pos + g.count = ap (λ (x : OpenSpot). x.pos) g.is in
    let v-rest : v.rest ≡ drop g.count w.rest = ap (λ (x : OpenSpot). x.rest) g.is in
    let hi = h.inside in let ht = h.there in
    let size : length v.rest ≡ length w.rest - g.count = ap length v-rest ∙ length-drop g.count w.rest in
    record {
      count = g.count + h.count;
      inside = omega (arith, gi, hi, v-left);
      there = omega (arith, gt, ht, size);
      is = h.is ∙ open_is _ _ _ _ _ _ (omega (arith, v-left)) (omega (arith, v-pos))
          (ap (drop h.count) v-rest ∙ drop-drop h.count g.count w.rest);
    }

pub went_nowhere : (w : OpenSpot) → Went w w
went_nowhere w = record {
  count = 0;
  inside = omega arith;
  there = omega arith;
  is = open_is _ _ _ _ _ _ (omega arith) (omega arith) refl;
}

-- ---- the header of an element

pub record Entering (w : OpenSpot) (x : OpenSpot × OpenSpot) : Type 0 where
  pub size : ℕ
  pub there : heading size ≤ length w.rest
  pub inside : heading size + size ≤ w.left
  pub contents : x.0 ≡ open_spot size (w.pos + heading size) (drop (heading size) w.rest)
  pub behind : x.1 ≡ ahead (heading size + size) w

pub judged_ok : {A : Type 0} (w : OpenSpot) (r : Result A Fault) (x : A) → judged w r ≡ Ok x → r ≡ Ok x
judged_ok w (Ok y) x e = e
judged_ok w (Err f) x e = absurd (by_short (is_short w) e)
  where
    by_end : (b : Bool) → cond b (Err lost) (Err f) ≡ Ok x → ⊥
    by_end true h = cc
    by_end false h = cc

    by_short : (b : Bool) → cond b (cond (is_end f.kind) (Err lost) (Err f)) (Err f) ≡ Ok x → ⊥
    by_short true h = by_end (is_end f.kind) h
    by_short false h = cc

pub length_there : (w : OpenSpot) (xs : List ℕ) (l : ℕ) → IsBytes xs → length_in w xs ≡ Ok l → heading l ≤ length xs
length_there w [] l fits e = absurd cc
length_there w (t ∷ ys) l fits e = by_identifier (is_tag t) e
  where
    by_length : (read : Result (ℕ × List ℕ) Fault) → length_at (w.pos + 1) ys ≡ read → (read >>= λ k. Ok k.0) ≡ Ok l
        → heading l ≤ suc (length ys)
    by_length (Err f) is h = absurd cc
    by_length (Ok k) is h =
        let parts = (length_takes (w.pos + 1) ys k.0 k.1 (IsBytes-tail t ys fits) is).0 in
        let l-is : k.0 ≡ l = ok_is k.0 l h in
        subst (λ (j : ℕ). heading j ≤ suc (length ys)) l-is
        (omega (arith, ap length parts, length-append (len k.0) k.1))

    by_identifier : (b : Bool) → cond b (length_at (w.pos + 1) ys >>= λ k. Ok k.0) (Err (fault HighTag w.pos)) ≡ Ok l
        → heading l ≤ suc (length ys)
    by_identifier true h = by_length (length_at (w.pos + 1) ys) refl h
    by_identifier false h = absurd cc

abbrev Both : Type 0
Both = Result (OpenSpot × OpenSpot) Fault

-- a header that was read states a size, by which an element was entered
pub record States (w : OpenSpot) (x : OpenSpot × OpenSpot) : Type 0 where
  pub size : ℕ
  pub stated : length_in w (body_of w) ≡ Ok size
  pub inside : heading size + size ≤ w.left
  pub contents : x.0 ≡ open_spot size (w.pos + heading size) (drop (heading size) w.rest)
  pub behind : x.1 ≡ ahead (heading size + size) w

pub states : (w : OpenSpot) (x : OpenSpot × OpenSpot) → next_openly w ≡ Ok x → States w x
states w x e =
    let b = bind_ok (judged w (length_in w (body_of w))) (entered w) x e in
    let l : ℕ = b.0 in
    let over : Both = Err (fault Overrun w.pos) in
    let in-out : OpenSpot
    × OpenSpot = (open_spot l (w.pos + heading l) (drop (heading l) w.rest), ahead (heading l + l) w) in
    let good : Both = Ok in-out in
    elim (chosen (ltb w.left (heading l + l)) over good (Ok x) b.2) [
      | inl g ↦ absurd cc
      | inr g ↦
          let is : in-out ≡ x = ok_is in-out x g.1 in
          record {
            size = l;
            stated = judged_ok w _ l b.1;
            inside = ltb-false _ _ g.0;
            contents = ap (λ (p : OpenSpot × OpenSpot). p.0) (sym is);
            behind = ap (λ (p : OpenSpot × OpenSpot). p.1) (sym is);
          }
    ]

pub next_went : (w : OpenSpot) (x : OpenSpot × OpenSpot) → IsBytes w.rest → next_openly w ≡ Ok x → Entering w x
next_went w x fits e =
    let s = states w x e in
    let there = length_there w (body_of w) s.size (IsBytes-take w.left w.rest fits) s.stated in
    record {
      size = s.size;
      there = omega (arith, there, length-take w.left w.rest);
      inside = s.inside;
      contents = s.contents;
      behind = s.behind;
    }

pub enter_went : (tag : ℕ) (w : OpenSpot) (x : OpenSpot × OpenSpot) → IsBytes w.rest → enter_openly tag w ≡ Ok x
    → Entering w x
unfolding enter_openly
enter_went tag w x fits e =
    let other : Both = Err (fault Tag w.pos) in
    elim (chosen (is_other tag (body_of w)) other (next_openly w) (Ok x) e) [
      | inl h ↦ absurd cc
      | inr h ↦ next_went w x fits h.1
    ]

pub inside_bytes : (w : OpenSpot) (x : OpenSpot × OpenSpot) → Entering w x → IsBytes w.rest → IsBytes x.0.rest
inside_bytes w x k fits =
    subst (λ (v : OpenSpot). IsBytes v.rest) (sym k.contents) (IsBytes-drop (heading k.size) w.rest fits)

pub inside_met : (w : OpenSpot) (x : OpenSpot × OpenSpot) → Entering w x → IsMet w → IsMet x.0
inside_met w x k met = subst IsMet (sym k.contents)
    (let i = k.inside in let d = length-drop (heading k.size) w.rest in omega (arith, i, d, met))

pub behind_went : (w : OpenSpot) (x : OpenSpot × OpenSpot) → Entering w x → IsMet x.0 → Went w x.1
behind_went w x k met =
    let i = k.inside in let t = k.there in
    let m : IsMet (open_spot k.size (w.pos + heading k.size) (drop (heading k.size) w.rest)) =
    subst IsMet k.contents met in
    record {
      count = heading k.size + k.size;
      inside = k.inside;
      there = omega (arith, m, t, length-drop (heading k.size) w.rest);
      is = k.behind;
    }

pub behind_met : (w : OpenSpot) (x : OpenSpot × OpenSpot) → Entering w x → IsMet w → IsMet x.1
behind_met w x k met = met_ahead w x.1 (behind_went w x k (inside_met w x k met)) met

-- ---- a part within an element

module _ {A : Type 0} (tag : ℕ) (read : Spot → Result A Fault) (openly : OpenBody A)
    (law : IsOpenBody read openly) where
  abbrev inside_read : Spot × Spot → Result (A × Spot) Fault
  inside_read x = read x.0 >>= λ a. Ok (a, x.1)

  abbrev inside_open : OpenSpot × OpenSpot → Result (A × OpenSpot) Fault
  inside_open x = openly x.0 >>= λ a. Ok (a, x.1)

  paired : (r : Result A Fault) (v : OpenSpot) → (r >>= λ a. Ok (a, closed v)) ≡ ((r >>= λ a. Ok (a, v)) >>= seen)
  paired (Ok a) v = refl
  paired (Err f) v = refl

  inside_same : (x : OpenSpot × OpenSpot) → IsMet x.0 → IsBytes x.0.rest
      → inside_read (closed x.0, closed x.1) ≡ (inside_open x >>= seen)
  inside_same x met fits = rw (law.same x.0 met fits) (paired (openly x.0) x.1)

  by_entering : (w : OpenSpot) (r : Both) → enter_openly tag w ≡ r → IsMet w → IsBytes w.rest
      → ((r >>= both) >>= inside_read) ≡ ((r >>= inside_open) >>= seen)
  by_entering w (Err f) e met fits = refl
  by_entering w (Ok x) e met fits =
      let k = enter_went tag w x fits e in
      inside_same x (inside_met w x k met) (inside_bytes w x k fits)

  pub within_open : IsOpenReader (within tag read) (within_openly tag openly)
  within_open = record {
    same = λ w met fits. rw (enter_same tag w met fits) (by_entering w (enter_openly tag w) refl met fits);
    went = λ w y fits e.
        let a = bind_ok (enter_openly tag w) inside_open y e in
        let b = bind_ok (openly a.0.0) (λ v. Ok (v, a.0.1)) y a.2 in
        let k = enter_went tag w a.0 fits a.1 in
        subst (λ (z : A × OpenSpot). Went w z.1) (ok_is (b.0, a.0.1) y b.2)
        (behind_went w a.0 k (law.met a.0.0 b.0 (inside_bytes w a.0 k fits) b.1));
  }

-- ---- one part and then another

module _ {A B : Type 0} (first : Spot → Result (A × Spot) Fault) (first' : OpenReader A)
    (law : IsOpenReader first first')
    (second : Spot → Result (B × Spot) Fault) (second' : OpenReader B) (law' : IsOpenReader second second') where
  abbrev next_read : A × Spot → Result ((A × B) × Spot) Fault
  next_read x = second x.1 >>= λ y. Ok ((x.0, y.0), y.1)

  abbrev next_open : A × OpenSpot → Result ((A × B) × OpenSpot) Fault
  next_open x = second' x.1 >>= λ y. Ok ((x.0, y.0), y.1)

  abbrev pair_read : A → B × Spot → Result ((A × B) × Spot) Fault
  pair_read a y = Ok ((a, y.0), y.1)

  abbrev pair_open : A → B × OpenSpot → Result ((A × B) × OpenSpot) Fault
  pair_open a y = Ok ((a, y.0), y.1)

  joined : (a : A) (r : Result (B × OpenSpot) Fault) → ((r >>= seen) >>= pair_read a) ≡ ((r >>= pair_open a) >>= seen)
  joined a (Ok y) = refl
  joined a (Err f) = refl

  by_first : (w : OpenSpot) (r : Result (A × OpenSpot) Fault) → first' w ≡ r → IsMet w → IsBytes w.rest
      → ((r >>= seen) >>= next_read) ≡ ((r >>= next_open) >>= seen)
  by_first w (Err f) e met fits = refl
  by_first w (Ok x) e met fits =
      let g = law.went w x fits e in
      rw (law'.same x.1 (met_ahead w x.1 g met) (bytes_ahead w x.1 g fits)) (joined x.0 (second' x.1))

  pub then_open : IsOpenReader (first then second) (first' then_openly second')
  then_open = record {
    same = λ w met fits. rw (law.same w met fits) (by_first w (first' w) refl met fits);
    went = λ w y fits e.
        let a = bind_ok (first' w) next_open y e in
        let b = bind_ok (second' a.0.1) (λ z. Ok ((a.0.0, z.0), z.1)) y a.2 in
        let g = law.went w a.0 fits a.1 in
        let h = law'.went a.0.1 b.0 (bytes_ahead w a.0.1 g fits) b.1 in
        subst (λ (z : (A × B) × OpenSpot). Went w z.1) (ok_is ((a.0.0, b.0.0), b.0.1) y b.2)
        (went_on w a.0.1 b.0.1 g h);
  }

-- ---- a whole body

end_same : (w : OpenSpot) → IsMet w → end_at (closed w) ≡ end_openly w
unfolding end_at end_openly
end_same w met =
    let size : length (body_of w) ≡ w.left = length-take-le w.left w.rest met in
    elim (cases_lt 0 w.left) [
      | inl lt ↦
          let some : eqb w.left 0 ≡ false = ne_eqb w.left 0 (λ z. omega (arith, z, lt)) in
          let here : eqb (length w.rest) 0 ≡ false = ne_eqb (length w.rest) 0 (λ z. omega (arith, z, lt, met)) in
          rw (size, some, here) refl
      | inr le ↦ let none : w.left ≡ 0 = omega (arith, le) in rw (size, none) refl
    ]

end_met : (w : OpenSpot) (u : Unit {0}) → end_openly w ≡ Ok u → w.left ≡ 0
unfolding end_openly
end_met w u e = elim (chosen (eqb w.left 0) _ _ _ e) [
  | inl h ↦ eqb-true w.left 0 h.0
  | inr h ↦ elim (chosen (eqb (length w.rest) 0) _ _ _ h.1) [
    | inl g ↦ absurd (let z = g.1 in cc)
    | inr g ↦ absurd (let z = g.1 in cc)
  ]
]

module _ {A : Type 0} (parts : Spot → Result (A × Spot) Fault) (parts' : OpenReader A)
    (law : IsOpenReader parts parts') where
  abbrev ends_read : A × Spot → Result A Fault
  ends_read x = end_at x.1 >>= λ u. Ok x.0

  abbrev ends_open : A × OpenSpot → Result A Fault
  ends_open x = end_openly x.1 >>= λ u. Ok x.0

  by_parts : (w : OpenSpot) (r : Result (A × OpenSpot) Fault) → parts' w ≡ r → IsMet w → IsBytes w.rest
      → ((r >>= seen) >>= ends_read) ≡ (r >>= ends_open)
  by_parts w (Err f) e met fits = refl
  by_parts w (Ok x) e met fits = rw (end_same x.1 (met_ahead w x.1 (law.went w x fits e) met)) refl

  pub whole_open : IsOpenBody (whole_of parts) (whole_openly parts')
  whole_open = record {
    same = λ w met fits. rw (law.same w met fits) (by_parts w (parts' w) refl met fits);
    met = λ w x fits e.
        let a = bind_ok (parts' w) ends_open x e in
        let b = bind_ok (end_openly a.0.1) (λ u. Ok a.0.0) x a.2 in
        let g = law.went w a.0 fits a.1 in
        let none = end_met a.0.1 b.0 b.1 in
        let there = g.there in
        let left : a.0.1.left ≡ w.left - g.count = ap (λ (v : OpenSpot). v.left) g.is in
        omega (arith, none, left, there);
  }

module _ {A B : Type 0} (to : A → B) (read : Spot → Result A Fault) (openly : OpenBody A)
    (law : IsOpenBody read openly) where
  pub made_open : IsOpenBody (made to read) (made_openly to openly)
  made_open = record {
    same = λ w met fits. ap (λ (r : Result A Fault). r >>= λ x. done (to x)) (law.same w met fits);
    met = λ w x fits e. let a = bind_ok (openly w) (λ y. done (to y)) x e in law.met w a.0 fits a.1;
  }

-- ---- a body that is kept

pub kept_open : {A : Type 0} (read : Spot → Result A Fault) → IsOpenBody read (kept read)
kept_open {A} read = record {
  same = λ w met fits. rw (le-ltb (length w.rest) w.left met) refl;
  met = λ w x fits e. elim (chosen (is_short w) (lost_of A) (read (closed w)) (Ok x) e) [
    | inl h ↦ absurd (let z = h.1 in cc)
    | inr h ↦ ltb-false _ _ h.0
  ];
}
