-- The fourth law of open readings: a fault that one gives is met at an open place of the body, or says that octets of
-- it are missing.
use Rattle.std.proofs.Common.{◌≡◌, ◌≢◌, ℕ, zero, suc, Bool, true, false, not, cond, eqb, List, [], ◌∷◌, ◌++◌, length}
use Rattle.std.proofs.Common.{take, Option, Some, None, Result, Ok}
use Rattle.std.proofs.Common.{Err}
use Rattle.std.proofs.Common.{refl, sym, ap, subst, ◌∙◌, inl, inr, ◌⊎◌}
use Rattle.std.proofs.lemmas.Bool.{ltb-false, eqb-false, eq-eqb, and_parts, not-true}
use Rattle.std.proofs.lemmas.List.{length-take-le}
use Rattle.der_core.specs.declared.fault.Fault.{Fault}
use Rattle.der_core.specs.declared.fault.Kind.TheVariants.{HighTag, Tag, Trailing}
use Rattle.der_core.specs.Element.{is_tag, IsBytes, has_tag}
use Rattle.der_core.specs.Lists.{is_same}
use Rattle.der_core.specs.Form.{Form, full, switch, takes, inside_of, behind, may_stand, Element}
use Rattle.der_core.specs.Form.{body_of as form_of}
use Rattle.der_core.specs.Faults.{Place, place, IsDue, IsDemanded, StandsNot, Fact}
use Rattle.der_core.specs.OpenFaults.{OpenPlace, ReachesOpenly, stays, drops}
use Rattle.der_core.specs.Grammar.{one, opt, list}
use Rattle.der_core.specs.Reading.{fault, Spot, is_other, none_in}
use Rattle.der_core.specs.Results.{◌>>=◌}
use Rattle.der_core.proofs.ReadLengths.{chosen, ok_is, IsBytes-take}
use Rattle.der_core.proofs.Headers.{fails, err_is, fact_is}
use Rattle.der_core.proofs.Results.{bind_ok, bind_err}
use Rattle.der_core.proofs.Readers.{IsBody, Anything, Nothing, swapped, took, last_refuses}
use Rattle.cms_stream_laws.specs.OpenReading.{OpenSpot, body_of, closed, is_short, lost, enter_openly, end_openly}
use Rattle.cms_stream_laws.specs.OpenReading.{OpenReader, OpenBody, within_openly}
use Rattle.cms_stream_laws.specs.OpenReading.{◌then_openly◌, whole_openly, made_openly, looked, maybe_openly}
use Rattle.cms_stream_laws.specs.OpenReading.{last_openly, switched_openly, kept}
use Rattle.cms_stream_laws.specs.OpenReading.{many_openly_from}
use Rattle.cms_stream_laws.specs.OpenReading.{many_openly, IsMet, Went}
use Rattle.cms_stream_laws.proofs.Switches.{Switched, left_of, right_of, rest_by}
use Rattle.cms_stream_laws.proofs.OpenLaws.{IsOpenReader, IsOpenBody, bytes_ahead, within_open, kept_open}
use Rattle.cms_stream_laws.proofs.OpenParts.{looked_ok}
use Rattle.cms_stream_laws.proofs.OpenSteps.{standing, Shown, due_fact, whole_openly_at, EntersOpenly, enters_openly}
use Rattle.cms_stream_laws.proofs.OpenSteps.{bytes_within, inside_reached}
use Rattle.cms_stream_laws.proofs.OpenSteps.{behind_reached}
use Rattle.cms_stream_laws.proofs.OpenSteps.{shown_back, entering_shown}

-- Each fault of a whole body is shown.
pub record ShowsInside {A : Type 0} (openly : OpenBody A) (form : Form) : Type 0 where
  pub faults : (w : OpenSpot) (f : Fault) → IsBytes w.rest → openly w ≡ Err f → Shown w (form_of form) [] f

-- Each fault of a part is shown, where what is due behind is as it must be; and what is reached behind it is reached
-- from its front.
pub record ShowsFaults {A : Type 0} (openly : OpenReader A) (due : Form → Form) (Before : Form → Type 0) : Type 0 where
  pub plain : (after : Form) → form_of (due after) ≡ due after
  pub faults : (w : OpenSpot) (f : Fault) → IsBytes w.rest → openly w ≡ Err f → (after : Form) → Before after
      → Shown w (due after) [] f
  pub goes : (w : OpenSpot) (y : A × OpenSpot) → IsBytes w.rest → openly w ≡ Ok y → (after : Form) (q : OpenPlace)
      → ReachesOpenly (standing y.1 after []) q
      → ReachesOpenly (standing w (due after) []) q

-- ---- a body that is kept

pub kept_shown : {A : Type 0} (read : Spot → Result A Fault) (enc : A → List ℕ) (Good : A → Type 0) (form : Form)
    → IsBody read enc Good form
    → ShowsInside (kept read) form
kept_shown {A} read enc Good form law = record {
  faults = λ w f fits e. elim (chosen (is_short w) (fails lost) (read (closed w)) (fails f) e) [
    | inl h ↦ inl (sym (err_is {A = A} lost f h.1))
    | inr h ↦ inr
        (whole_openly_at w.pos w.left (body_of w) (form_of form) [] f (length-take-le w.left w.rest (ltb-false _ _ h.0))
        (law.faults (closed w) f (IsBytes-take w.left w.rest fits) h.1))
  ];
}

-- ---- an element with one tag

-- where another stands than the one that is due
refused : (due : Form) (tag n : ℕ) (xs : List ℕ) (ps : List Element) → IsDue due
    → ((t : ℕ) → eqb t tag ≡ false → may_stand due t ≡ false)
    → is_other tag xs ≡ true → Fact Tag (place n xs due ps) n
refused due tag n [] ps d none h = absurd cc
refused due tag n (t ∷ xs) ps d none h =
    let p = and_parts (is_tag t) (not (eqb t tag)) h in
    (t, xs, ((d, refl), p.0), none t (not-true (eqb t tag) p.1), refl)

-- octets that stand
pub take_some : (n : ℕ) (xs : List ℕ) → n ≢ 0 → length xs ≢ 0 → take n xs ≡ [] → ⊥
take_some zero xs h g e = h refl
take_some (suc n) [] h g e = g refl
take_some (suc n) (x ∷ xs) h g e = cc

-- an octet that is due is missing, or the reading failed with it there
pub looked_err : {A : Type 0} (w : OpenSpot) (r : Result A Fault) (f : Fault) → looked w r ≡ Err f
    → (f ≡ lost) ⊎ (r ≡ Err f)
looked_err {A} w r f e = by_left (eqb w.left 0) (eqb (length w.rest) 0) refl e
  where
    by_left : (b c : Bool) → eqb w.left 0 ≡ b → cond b r (cond c (fails lost) r) ≡ Err f → (f ≡ lost) ⊎ (r ≡ Err f)
    by_left true c n h = inr h
    by_left false true n h = inl (sym (err_is {A = A} lost f h))
    by_left false false n h = inr h

-- ---- lists of any readings

module _ {A : Type 0} (openly : OpenReader A) (due : Form) (plain : form_of due ≡ due)
    (went : (w : OpenSpot) (y : A × OpenSpot) → IsBytes w.rest → openly w ≡ Ok y → Went w y.1)
    (item : (w : OpenSpot) (ps : List Element) (f : Fault) → IsBytes w.rest → w.left ≢ 0 → length w.rest ≢ 0
    → openly w ≡ Err f → Shown w due ps f)
    (goes : (w : OpenSpot) (y : A × OpenSpot) (ps : List Element) → IsBytes w.rest → openly w ≡ Ok y
    → (ps' : List Element)
    × ((q : OpenPlace) → ReachesOpenly (standing y.1 due ps') q → ReachesOpenly (standing w due ps) q)) where
  abbrev Listed : Type 0
  Listed = Result (List A) Fault

  abbrev ended : Listed
  ended = Ok []

  many_fault : (k : ℕ) (w : OpenSpot) (ps : List Element) (f : Fault) → IsBytes w.rest
      → many_openly_from openly k w ≡ Err f → Shown w due ps f
  unfolding many_openly_from
  many_fault zero w ps f fits e = elim (chosen (eqb w.left 0) ended (fails lost) (fails f) e) [
    | inl h ↦ absurd (let z = h.1 in cc)
    | inr h ↦ inl (sym (err_is {A = List A} lost f h.1))
  ]
  many_fault (suc k) w ps f fits e =
      let go : Listed = openly w >>= λ x. many_openly_from openly k x.1 >>= λ xs. Ok (x.0 ∷ xs) in
      elim (chosen (eqb w.left 0) ended (cond (eqb (length w.rest) 0) (fails lost) go) (fails f) e) [
        | inl h ↦ absurd (let z = h.1 in cc)
        | inr h ↦ elim (chosen (eqb (length w.rest) 0) (fails lost) go (fails f) h.1) [
          | inl g ↦ inl (sym (err_is {A = List A} lost f g.1))
          | inr g ↦ elim (bind_err (openly w) (λ x. many_openly_from openly k x.1 >>= λ xs. Ok (x.0 ∷ xs)) f g.1) [
            | inl a ↦ item w ps f fits (eqb-false _ _ h.0) (eqb-false _ _ g.0) a
            | inr a ↦ elim (bind_err (many_openly_from openly k a.0.1) (λ xs. Ok (a.0.0 ∷ xs)) f a.2) [
              | inr b ↦ absurd (let z = b.2 in cc)
              | inl b ↦
                  let t = goes w a.0 ps fits a.1 in
                  shown_back a.0.1 w due due t.0 ps f t.1
                  (many_fault k a.0.1 t.0 f (bytes_ahead w a.0.1 (went w a.0 fits a.1) fits) b)
            ]
          ]
        ]
      ]

  pub listed_shown : ShowsInside (many_openly openly) due
  listed_shown = record { faults = λ w f fits e. rw plain (many_fault w.left w [] f fits e) }

-- an element that was read
record Took {A : Type 0} (tag : ℕ) (openly : OpenBody A) (w : OpenSpot) (y : A × OpenSpot) : Type 0 where
  where_to : OpenSpot × OpenSpot
  enters : EntersOpenly tag w where_to
  met : IsMet where_to.0
  gave : openly where_to.0 ≡ Ok y.0
  next : where_to.1 ≡ y.1

module _ {A : Type 0} (tag : ℕ) (read : Spot → Result A Fault) (openly : OpenBody A)
    (law : IsOpenBody read openly) where
  took_it : (w : OpenSpot) (y : A × OpenSpot) → IsBytes w.rest → within_openly tag openly w ≡ Ok y → Took tag openly w y
  took_it w y fits e =
      let a = bind_ok (enter_openly tag w) (λ x. openly x.0 >>= λ v. Ok (v, x.1)) y e in
      let b = bind_ok (openly a.0.0) (λ v. Ok (v, a.0.1)) y a.2 in
      let k = enters_openly tag w a.0 fits a.1 in
      let is : (b.0, a.0.1) ≡ y = ok_is (b.0, a.0.1) y b.2 in
      subst (λ (z : A × OpenSpot). Took tag openly w z) is
      (record {
        where_to = a.0;
        enters = k;
        met = law.met a.0.0 b.0 (bytes_within tag w a.0 k fits) b.1;
        gave = b.1;
        next = refl;
      })

  module _ (due : Form) (w : OpenSpot) (ps : List Element) (f : Fault) where
    element_shown : IsBytes w.rest → IsDue due → takes due tag ≡ true
        → (is_other tag (body_of w) ≡ true → Fact Tag (place w.pos (body_of w) due ps) w.pos)
        → (body_of w ≡ [] → IsDemanded due) → ShowsInside openly (inside_of due tag)
        → within_openly tag openly w ≡ Err f → Shown w due ps f
    element_shown fits d took other must shows e =
        elim (bind_err (enter_openly tag w) (λ x. openly x.0 >>= λ v. Ok (v, x.1)) f e) [
          | inl a ↦ entering_shown due tag w ps f fits d other must a
          | inr a ↦
              let k = enters_openly tag w a.0 fits a.1 in
              elim (bind_err (openly a.0.0) (λ v. Ok (v, a.0.1)) f a.2) [
                | inl b ↦ shown_back a.0.0 w (form_of (inside_of due tag)) due [] ps f
                    (λ q h. inside_reached due tag w a.0 ps q took k h)
                    (shows.faults a.0.0 f (bytes_within tag w a.0 k fits) b)
                | inr b ↦ absurd (let z = b.2 in cc)
              ]
        ]

  module _ (form : Form) (shows : ShowsInside openly form) where
    pub within_shown : ShowsFaults (within_openly tag openly) (one tag form) Anything
    within_shown = record {
      plain = λ after. refl;
      faults = λ w f fits e after b.
          element_shown (one tag form after) w [] f fits tt (took tag form after)
          (refused (one tag form after) tag w.pos (body_of w) [] tt (λ t h. rw (swapped tag t h) refl))
          (λ none. (tt, refl)) shows e;
      goes = λ w y fits e after q h.
          let k = took_it w y fits e in
          behind_reached (one tag form after) tag w k.where_to [] q (took tag form after) k.enters k.met
          (subst (λ (v : OpenSpot). ReachesOpenly (standing v after []) q) (sym k.next) h);
    }

    abbrev Part : Type 0
    Part = Result (Option A × OpenSpot) Fault

    abbrev present : A × OpenSpot → Part
    present x = Ok (Some x.0, x.1)

    not_both : (xs : List ℕ) → has_tag tag xs ≡ true → is_other tag xs ≡ true → ⊥
    not_both [] h g = cc
    not_both (x ∷ xs) h g = let p = and_parts (is_tag x) (not (eqb x tag)) g in let q = not-true (eqb x tag) p.1 in cc

    not_nil : (xs : List ℕ) → has_tag tag xs ≡ true → xs ≡ [] → ⊥
    not_nil [] h g = cc
    not_nil (x ∷ xs) h g = cc

    none_stands : (xs : List ℕ) (after : Form) → has_tag tag xs ≡ false → StandsNot (opt tag form after) xs
    none_stands [] after h = tt
    none_stands (t ∷ xs) after h = rw (swapped tag t h) refl

    took_opt : (after : Form) → takes (opt tag form after) tag ≡ true
    took_opt after = rw (eq-eqb tag tag refl) refl

    -- an element that stands
    present_shown : (w : OpenSpot) (f : Fault) → IsBytes w.rest → has_tag tag (body_of w) ≡ true
        → (within_openly tag openly w >>= present) ≡ Err f
        → (after : Form) → Shown w (opt tag form after) [] f
    present_shown w f fits there e after =
        elim (bind_err (within_openly tag openly w) present f e) [
          | inr b ↦ absurd (let z = b.2 in cc)
          | inl b ↦ element_shown (opt tag form after) w [] f fits tt (took_opt after)
              (λ other. absurd (not_both (body_of w) there other))
              (λ none. absurd (not_nil (body_of w) there none)) shows b
        ]

    present_goes : (w : OpenSpot) (y : Option A × OpenSpot) → IsBytes w.rest
        → (within_openly tag openly w >>= present) ≡ Ok y → (after : Form) (q : OpenPlace)
        → ReachesOpenly (standing y.1 after []) q → ReachesOpenly (standing w (opt tag form after) []) q
    present_goes w y fits e after q h =
        let a = bind_ok (within_openly tag openly w) present y e in
        let k = took_it w a.0 fits a.1 in
        let next : k.where_to.1 ≡ y.1 = k.next
        ∙ ap (λ (z : Option A × OpenSpot). z.1) (ok_is (Some a.0.0, a.0.1) y a.2) in
        behind_reached (opt tag form after) tag w k.where_to [] q (took_opt after) k.enters k.met
        (subst (λ (v : OpenSpot). ReachesOpenly (standing v after []) q) (sym next) h)

    -- none stands
    absent_goes : (w : OpenSpot) (after : Form) (q : OpenPlace) → has_tag tag (body_of w) ≡ false
        → ReachesOpenly (standing w after []) q
        → ReachesOpenly (standing w (opt tag form after) []) q
    absent_goes w after q none h = drops {q = q} refl (none_stands (body_of w) after none) h

    pub maybe_shown : ShowsFaults (maybe_openly tag openly) (opt tag form) Anything
    maybe_shown = record {
      plain = λ after. refl;
      faults = λ w f fits e after b.
          elim (looked_err w
          (cond (has_tag tag (body_of w)) (within_openly tag openly w >>= present) (Ok (None, w))) f e) [
            | inl is ↦ inl is
            | inr r ↦ elim (chosen (has_tag tag (body_of w)) (within_openly tag openly w >>= present) (Ok (None, w))
                (fails f) r) [
                  | inl h ↦ present_shown w f fits h.0 h.1 after
                  | inr h ↦ absurd (let z = h.1 in cc)
                ]
          ];
      goes = λ w y fits e after q r.
          elim (chosen (has_tag tag (body_of w)) (within_openly tag openly w >>= present) (Ok (None, w)) (Ok y)
          (looked_ok w (cond (has_tag tag (body_of w)) (within_openly tag openly w >>= present) (Ok (None, w))) y e)) [
            | inl h ↦ present_goes w y fits h.1 after q r
            | inr h ↦ absent_goes w after q h.0 (subst
                (λ (z : Option A × OpenSpot). ReachesOpenly (standing z.1 after []) q) (sym (ok_is (None, w) y h.1)) r)
          ];
    }

    abbrev nothing : OpenSpot → Part
    nothing w = none_in (closed w) (body_of w) >>= λ u. Ok (None, w)

    none_shown : (w : OpenSpot) (xs : List ℕ) (f : Fault) → body_of w ≡ xs → has_tag tag xs ≡ false
        → none_in (closed w) xs ≡ Err f
        → Shown w (opt tag form full) [] f
    none_shown w [] f is h e = absurd cc
    none_shown w (t ∷ xs) f is h e =
        let p : Place = place w.pos (body_of w) (opt tag form full) [] in
        let other : Result (Unit {0}) Fault = Err (fault Tag w.pos) in
        let high : Result (Unit {0}) Fault = Err (fault HighTag w.pos) in
        elim (chosen (is_tag t) other high (fails f) e) [
          | inl g ↦ inr (
            standing w (opt tag form full) [],
            stays,
            due_fact f.kind w.pos f.at (body_of w) (Some w.left) (opt tag form full) [] tt
                (fact_is p (fault Tag w.pos) f (err_is _ _ g.1)
                (t, xs, ((tt, is), g.0), last_refuses tag t form h, refl)),
          )
          | inr g ↦ inr (
            standing w (opt tag form full) [],
            stays,
            due_fact f.kind w.pos f.at (body_of w) (Some w.left) (opt tag form full) [] tt
                (fact_is p (fault HighTag w.pos) f (err_is _ _ g.1) (t, xs, (tt, is), g.0, refl)),
          )
        ]

    last_fault : (w : OpenSpot) (f : Fault) → IsBytes w.rest → last_openly tag openly w ≡ Err f
        → Shown w (opt tag form full) [] f
    last_fault w f fits e =
        elim (looked_err w (cond (has_tag tag (body_of w)) (within_openly tag openly w >>= present) (nothing w)) f e) [
          | inl is ↦ inl is
          | inr r ↦
              elim (chosen (has_tag tag (body_of w)) (within_openly tag openly w >>= present) (nothing w) (fails f) r) [
                | inl h ↦ present_shown w f fits h.0 h.1 full
                | inr h ↦ elim (bind_err (none_in (closed w) (body_of w)) (λ u. Ok (None, w)) f h.1) [
                  | inl b ↦ none_shown w (body_of w) f refl h.0 b
                  | inr b ↦ absurd (let z = b.2 in cc)
                ]
              ]
        ]

    pub last_shown : ShowsFaults (last_openly tag openly) (opt tag form) Nothing
    last_shown = record {
      plain = λ after. refl;
      faults =
          λ w f fits e after b. subst (λ (g : Form). Shown w (opt tag form g) [] f) (sym b) (last_fault w f fits e);
      goes = λ w y fits e after q r.
          elim (chosen (has_tag tag (body_of w)) (within_openly tag openly w >>= present) (nothing w) (Ok y)
          (looked_ok w (cond (has_tag tag (body_of w)) (within_openly tag openly w >>= present) (nothing w)) y e)) [
            | inl h ↦ present_goes w y fits h.1 after q r
            | inr h ↦
                let b = bind_ok (none_in (closed w) (body_of w)) (λ u. Ok (None, w)) y h.1 in
                absent_goes w after q h.0 (subst (λ (z : Option A × OpenSpot). ReachesOpenly (standing z.1 after []) q)
                (sym (ok_is (None, w) y b.2)) r)
          ];
    }

    -- ---- lists

    took_list : takes (list tag form) tag ≡ true
    took_list = rw (eq-eqb tag tag refl) refl

    item_of : (w : OpenSpot) (ps : List Element) (f : Fault) → IsBytes w.rest → w.left ≢ 0 → length w.rest ≢ 0
        → within_openly tag openly w ≡ Err f
        → Shown w (list tag form) ps f
    item_of w ps f fits some here e =
        element_shown (list tag form) w ps f fits tt took_list
        (refused (list tag form) tag w.pos (body_of w) ps tt (λ t h. rw (swapped tag t h) refl))
        (λ none. absurd (take_some w.left w.rest some here none)) shows e

    item_goes : (w : OpenSpot) (y : A × OpenSpot) (ps : List Element) → IsBytes w.rest
        → within_openly tag openly w ≡ Ok y
        → (ps' : List Element) × ((q : OpenPlace) → ReachesOpenly (standing y.1 (list tag form) ps') q
        → ReachesOpenly (standing w (list tag form) ps) q)
    item_goes w y ps fits e =
        let t = took_it w y fits e in (
          ps ++ (tag, body_of t.where_to.0) ∷ [],
          λ q h. behind_reached (list tag form) tag w t.where_to ps q took_list t.enters t.met
              (subst (λ (v : OpenSpot). ReachesOpenly
              (standing v (list tag form) (ps ++ (tag, body_of t.where_to.0) ∷ [])) q) (sym t.next) h),
        )

    pub many_shown : ShowsInside (many_openly (within_openly tag openly)) (list tag form)
    many_shown = listed_shown (within_openly tag openly) (list tag form) refl
        (within_open tag read openly law).went item_of item_goes

-- ---- one part and then another

module _ {A B : Type 0} (first : Spot → Result (A × Spot) Fault) (first' : OpenReader A)
    (law : IsOpenReader first first') (due : Form → Form)
    (shows : ShowsFaults first' due Anything)
    (second' : OpenReader B) (due' : Form → Form) (Before : Form → Type 0)
    (shows' : ShowsFaults second' due' Before) where
  pub then_shown : ShowsFaults (first' then_openly second') (λ f. due (due' f)) Before
  then_shown = record {
    plain = λ after. shows.plain (due' after);
    faults = λ w f fits e after b.
        elim (bind_err (first' w) (λ x. second' x.1 >>= λ y. Ok ((x.0, y.0), y.1)) f e) [
          | inl a ↦ shows.faults w f fits a (due' after) tt
          | inr a ↦ elim (bind_err (second' a.0.1) (λ y. Ok ((a.0.0, y.0), y.1)) f a.2) [
            | inl c ↦ shown_back a.0.1 w (due' after) (due (due' after)) [] [] f
                (λ q h. shows.goes w a.0 fits a.1 (due' after) q h)
                (shows'.faults a.0.1 f (bytes_ahead w a.0.1 (law.went w a.0 fits a.1) fits) c after b)
            | inr c ↦ absurd (let z = c.2 in cc)
          ]
        ];
    goes = λ w y fits e after q h.
        let a = bind_ok (first' w) (λ x. second' x.1 >>= λ z. Ok ((x.0, z.0), z.1)) y e in
        let b = bind_ok (second' a.0.1) (λ z. Ok ((a.0.0, z.0), z.1)) y a.2 in
        let next : b.0.1 ≡ y.1 = ap (λ (z : (A × B) × OpenSpot). z.1) (ok_is ((a.0.0, b.0.0), b.0.1) y b.2) in
        shows.goes w a.0 fits a.1 (due' after) q
        (shows'.goes a.0.1 b.0 (bytes_ahead w a.0.1 (law.went w a.0 fits a.1) fits) b.1 after q
        (subst (λ (v : OpenSpot). ReachesOpenly (standing v after []) q) (sym next) h));
  }

-- ---- a whole body

end_shown : (w : OpenSpot) (f : Fault) → end_openly w ≡ Err f → Shown w full [] f
unfolding end_openly
end_shown w f e =
    let past : Result (Unit {0}) Fault = Err (fault Trailing w.pos) in
    elim (chosen (eqb w.left 0) (Ok tt) (cond (eqb (length w.rest) 0) (fails lost) past) (fails f) e) [
      | inl h ↦ absurd (let z = h.1 in cc)
      | inr h ↦ elim (chosen (eqb (length w.rest) 0) (fails lost) past (fails f) h.1) [
        | inl g ↦ inl (sym (err_is {A = Unit {0}} lost f g.1))
        | inr g ↦ inr (
          standing w full [],
          stays,
          fact_is (place w.pos (body_of w) full []) (fault Trailing w.pos) f (err_is _ _ g.1)
              (refl, take_some w.left w.rest (eqb-false _ _ h.0) (eqb-false _ _ g.0), refl),
        )
      ]
    ]

pub whole_shown : {A : Type 0} (parts' : OpenReader A) (due : Form → Form) (Before : Form → Type 0)
    → ShowsFaults parts' due Before → Before full
    → ShowsInside (whole_openly parts') (due full)
whole_shown {A} parts' due Before shows last_of = record {
  faults = λ w f fits e.
      rw shows.plain (elim (bind_err (parts' w) (λ x. end_openly x.1 >>= λ u. Ok x.0) f e) [
        | inl a ↦ shows.faults w f fits a full last_of
        | inr a ↦ elim (bind_err (end_openly a.0.1) (λ u. Ok a.0.0) f a.2) [
          | inl b ↦ shown_back a.0.1 w full (due full) [] [] f (λ q h. shows.goes w a.0 fits a.1 full q h)
              (end_shown a.0.1 f b)
          | inr b ↦ absurd (let z = b.2 in cc)
        ]
      ]);
}

pub made_shown : {A B : Type 0} (to : A → B) (openly : OpenBody A) (form : Form) → ShowsInside openly form
    → ShowsInside (made_openly to openly) form
made_shown {A} {B} to openly form shows = record {
  faults = λ w f fits e. elim (bind_err (openly w) (λ x. Ok (to x)) f e) [
    | inl a ↦ shows.faults w f fits a
    | inr a ↦ absurd (let z = a.2 in cc)
  ];
}

-- ---- a body whose rest depends on its first element, whose contents are kept

module _ {A B : Type 0} (tag : ℕ) (inside : Spot → Result (List ℕ) Fault) (Good : List ℕ → Type 0) (form : Form)
    (law : IsBody inside (λ b. b) Good form)
    (these : List ℕ)
    (same : OpenBody A) (form' : Form) (plain' : form_of form' ≡ form') (shows' : ShowsInside same form')
    (other : OpenBody B) (form'' : Form)
    (plain'' : form_of form'' ≡ form'') (shows'' : ShowsInside other form'') where
  abbrev due_switch : Form
  due_switch = switch tag form these form' form''

  abbrev rest_of : List ℕ × OpenSpot → Switched A B
  rest_of = rest_by A B these same other

  abbrev id_open : IsOpenBody inside (kept inside)
  id_open = kept_open inside

  took_switch : takes due_switch tag ≡ true
  took_switch = rw (eq-eqb tag tag refl) refl

  -- the contents of the first element are what it gave
  contents_are : (w : OpenSpot) (y : List ℕ × OpenSpot) → IsBytes w.rest → (t : Took tag (kept inside) w y)
      → body_of t.where_to.0 ≡ y.0
  contents_are w y fits t =
      elim (chosen (is_short t.where_to.0) (fails lost) (inside (closed t.where_to.0)) (Ok y.0) t.gave) [
        | inl h ↦ absurd (let z = h.1 in cc)
        | inr h ↦ (law.takes (closed t.where_to.0) y.0
            (IsBytes-take t.where_to.0.left t.where_to.0.rest (bytes_within tag w t.where_to t.enters fits)) h.1).1
      ]

  switched_fault : (w : OpenSpot) (f : Fault) → IsBytes w.rest
      → switched_openly tag (kept inside) these same other w ≡ Err f → Shown w due_switch [] f
  switched_fault w f fits e =
      elim (bind_err (within_openly tag (kept inside) w) rest_of f e) [
        | inl a ↦ element_shown tag inside (kept inside) id_open due_switch w [] f fits tt took_switch
            (refused due_switch tag w.pos (body_of w) [] tt (λ t h. swapped tag t h)) (λ none. (tt, refl))
            (kept_shown inside (λ b. b) Good form law) a
        | inr a ↦
            let t = took_it tag inside (kept inside) id_open w a.0 fits a.1 in
            let fits' : IsBytes a.0.1.rest =
            bytes_ahead w a.0.1 ((within_open tag inside (kept inside) id_open).went w a.0 fits a.1) fits in
            let id-is : body_of t.where_to.0 ≡ a.0.0 = contents_are w a.0 fits t in
            elim (chosen (is_same these a.0.0) (same a.0.1 >>= left_of A B) (other a.0.1 >>= right_of A B a.0.0)
            (fails f) a.2) [
              | inl h ↦ elim (bind_err (same a.0.1) (left_of A B) f h.1) [
                | inr b ↦ absurd (let z = b.2 in cc)
                | inl b ↦
                    let g : Shown a.0.1 form' [] f =
                    subst (λ (d : Form). Shown a.0.1 d [] f) plain' (shows'.faults a.0.1 f fits' b) in
                    let due-is : behind due_switch (body_of t.where_to.0) ≡ form' = rw (id-is, h.0) refl in
                    shown_back a.0.1 w form' due_switch [] [] f
                    (λ q r. behind_reached due_switch tag w t.where_to [] q took_switch t.enters t.met
                    (subst (λ (d : Form). ReachesOpenly (standing t.where_to.1 d []) q) (sym due-is)
                    (subst (λ (v : OpenSpot). ReachesOpenly (standing v form' []) q) (sym t.next) r))) g
              ]
              | inr h ↦ elim (bind_err (other a.0.1) (right_of A B a.0.0) f h.1) [
                | inr b ↦ absurd (let z = b.2 in cc)
                | inl b ↦
                    let g : Shown a.0.1 form'' [] f =
                    subst (λ (d : Form). Shown a.0.1 d [] f) plain'' (shows''.faults a.0.1 f fits' b) in
                    let due-is : behind due_switch (body_of t.where_to.0) ≡ form'' = rw (id-is, h.0) refl in
                    shown_back a.0.1 w form'' due_switch [] [] f
                    (λ q r. behind_reached due_switch tag w t.where_to [] q took_switch t.enters t.met
                    (subst (λ (d : Form). ReachesOpenly (standing t.where_to.1 d []) q) (sym due-is)
                    (subst (λ (v : OpenSpot). ReachesOpenly (standing v form'' []) q) (sym t.next) r))) g
              ]
            ]
      ]

  -- what is reached behind the first element, where these are its contents, is reached from its front
  pub switched_goes : (w : OpenSpot) (y : List ℕ × OpenSpot) → IsBytes w.rest → within_openly tag (kept inside) w ≡ Ok y
      → is_same these y.0 ≡ true
      → (q : OpenPlace) → ReachesOpenly (standing y.1 form' []) q → ReachesOpenly (standing w due_switch []) q
  switched_goes w y fits e found q r =
      let t = took_it tag inside (kept inside) id_open w y fits e in
      let due-is : behind due_switch (body_of t.where_to.0) ≡ form' = rw (contents_are w y fits t, found) refl in
      behind_reached due_switch tag w t.where_to [] q took_switch t.enters t.met
      (subst (λ (d : Form). ReachesOpenly (standing t.where_to.1 d []) q) (sym due-is)
      (subst (λ (v : OpenSpot). ReachesOpenly (standing v form' []) q) (sym t.next) r))

  pub switched_shown :
      ShowsInside (switched_openly tag (kept inside) these same other) (switch tag form these form' form'')
  switched_shown = record { faults = switched_fault }
