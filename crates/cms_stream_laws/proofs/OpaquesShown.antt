-- A fault of an element that is left whole is met at an open place, or says that octets of it are missing.
use Rattle.std.proofs.Common.{◌≡◌, ◌≢◌, ℕ, zero, suc, ◌-◌, Bool, true, false, not, ◌&&◌, cond, eqb, List, [], ◌∷◌, ◌++◌}
use Rattle.std.proofs.Common.{length, take, Option, Some, None}
use Rattle.std.proofs.Common.{Result, Ok, Err, refl, sym, ap, subst, ◌∙◌, inl, inr}
use Rattle.std.proofs.lemmas.Bool.{eqb-true, eqb-false, and_parts, not-true, not-false}
use Rattle.der_core.specs.declared.fault.Fault.{Fault}
use Rattle.der_core.specs.declared.fault.Kind.TheVariants.{Tag}
use Rattle.der_core.specs.Element.{is_tag, IsBytes}
use Rattle.der_core.specs.Lists.{some}
use Rattle.der_core.specs.Form.{Form, One, Optional, Many, opaque, full, part, opaques, takes, Element}
use Rattle.der_core.specs.Faults.{place, IsDue, IsDemanded, StandsNot, Fact}
use Rattle.der_core.specs.OpenFaults.{OpenPlace, ReachesOpenly, drops}
use Rattle.der_core.specs.Reading.{fault}
use Rattle.der_core.specs.Results.{◌>>=◌}
use Rattle.der_core.proofs.ReadLengths.{chosen, ok_is}
use Rattle.der_core.proofs.Headers.{fails, err_is, fact_is}
use Rattle.der_core.proofs.Results.{bind_ok, bind_err}
use Rattle.der_core.proofs.Readers.{Anything}
use Rattle.cms_stream_laws.specs.OpenReading.{OpenSpot, body_of, is_short, lost, next_openly, passed_whole}
use Rattle.cms_stream_laws.specs.OpenReading.{opaque_openly, optional_opaque_openly, is_none_of}
use Rattle.cms_stream_laws.specs.OpenReading.{tagged_openly, many_openly}
use Rattle.cms_stream_laws.proofs.Switches.{MaybeWhole, some_whole, none_whole}
use Rattle.cms_stream_laws.proofs.OpenParts.{looked_ok}
use Rattle.cms_stream_laws.proofs.OpenSteps.{standing, Shown, EntersOpenly, next_enters, behind_reached, next_shown}
use Rattle.cms_stream_laws.proofs.OpenSteps.{shown_here}
use Rattle.cms_stream_laws.proofs.FaultsShown.{ShowsInside, ShowsFaults, take_some, looked_err, listed_shown}
use Rattle.cms_stream_laws.proofs.Opaques.{TookWhole, took_whole, optional_here, tagged_here, tagged_open}

abbrev OpenWhole : Type 0
OpenWhole = Result (List ℕ × OpenSpot) Fault

-- ---- an element with any tag

opaque_fault : (due : Form) (w : OpenSpot) (ps : List Element) (f : Fault) → IsBytes w.rest → IsDue due
    → (body_of w ≡ [] → IsDemanded due)
    → opaque_openly w ≡ Err f → Shown w due ps f
unfolding opaque_openly
opaque_fault due w ps f fits d must e = elim (bind_err (next_openly w) (passed_whole w) f e) [
  | inl a ↦ next_shown due w ps f fits d must a
  | inr a ↦
      let good : OpenWhole = Ok (take (a.0.1.pos - w.pos) w.rest, a.0.1) in
      elim (chosen (is_short a.0.0) (fails lost) good (fails f) a.2) [
        | inl h ↦ inl (sym (err_is {A = List ℕ × OpenSpot} lost f h.1))
        | inr h ↦ absurd (let z = h.1 in cc)
      ]
]

-- its header, and what is behind it
abbrev pub TookIt : (w : OpenSpot) → List ℕ × OpenSpot → Type 0
TookIt w y = (t : TookWhole w y) × (tag : ℕ) × EntersOpenly tag w t.where_to

took_it : (w : OpenSpot) (y : List ℕ × OpenSpot) → IsBytes w.rest → opaque_openly w ≡ Ok y → TookIt w y
took_it w y fits e = let t = took_whole w y e in let n = next_enters w t.where_to fits t.enters in (t, n.0, n.1)

-- what is due behind one element
opaque_goes : (after : Form) (w : OpenSpot) (y : List ℕ × OpenSpot) (q : OpenPlace) → IsBytes w.rest
    → opaque_openly w ≡ Ok y
    → ReachesOpenly (standing y.1 after []) q → ReachesOpenly (standing w (opaques One after) []) q
opaque_goes after w y q fits e h =
    let k = took_it w y fits e in
    behind_reached (opaques One after) k.1 w k.0.where_to [] q k.2.identifier k.2 k.0.met
    (subst (λ (v : OpenSpot). ReachesOpenly (standing v after []) q) (sym k.0.next) h)

pub opaque_shown : ShowsFaults opaque_openly (opaques One) Anything
opaque_shown = record {
  plain = λ after. refl;
  faults = λ w f fits e after b. opaque_fault (opaques One after) w [] f fits tt (λ none. (tt, refl)) e;
  goes = λ w y fits e after q h. opaque_goes after w y q fits e h;
}

-- ---- the same, unless the body ends

take_zero : (n : ℕ) (xs : List ℕ) → n ≡ 0 → take n xs ≡ []
take_zero zero xs e = refl
take_zero (suc n) xs e = absurd cc

none_stands : (after : Form) (xs : List ℕ) → xs ≡ [] → StandsNot (opaques Optional after) xs
none_stands after [] e = tt
none_stands after (x ∷ xs) e = absurd cc

optional_fault : (after : Form) (w : OpenSpot) (f : Fault) → IsBytes w.rest → optional_opaque_openly w ≡ Err f
    → Shown w (opaques Optional after) [] f
unfolding optional_opaque_openly
optional_fault after w f fits e = by_left (eqb w.left 0) (eqb (length w.rest) 0) refl refl e
  where
    by_left : (b c : Bool) → eqb w.left 0 ≡ b → eqb (length w.rest) 0 ≡ c
        → cond {A = MaybeWhole} b (cond b (none_whole w) (opaque_openly w >>= some_whole))
        (cond c (fails lost) (cond b (none_whole w) (opaque_openly w >>= some_whole))) ≡ Err f
        → Shown w (opaques Optional after) [] f
    by_left true c n m h = absurd (let z = h in cc)
    by_left false true n m h = inl (sym (err_is {A = Option (List ℕ) × OpenSpot} lost f h))
    by_left false false n m h = elim (bind_err (opaque_openly w) some_whole f h) [
      | inl a ↦ opaque_fault (opaques Optional after) w [] f fits tt
          (λ none. absurd (take_some w.left w.rest (eqb-false _ _ n) (eqb-false _ _ m) none)) a
      | inr a ↦ absurd (let z = a.2 in cc)
    ]

optional_goes : (after : Form) (w : OpenSpot) (y : Option (List ℕ) × OpenSpot) (q : OpenPlace) → IsBytes w.rest
    → optional_opaque_openly w ≡ Ok y
    → ReachesOpenly (standing y.1 after []) q → ReachesOpenly (standing w (opaques Optional after) []) q
unfolding optional_opaque_openly
optional_goes after w y q fits e h =
    elim (chosen (eqb w.left 0) (none_whole w) (opaque_openly w >>= some_whole) (Ok y)
    (looked_ok w (optional_here w) y e)) [
      | inl a ↦
          let none : body_of w ≡ [] = take_zero w.left w.rest (eqb-true w.left 0 a.0) in
          drops {q = q} refl (none_stands after (body_of w) none)
          (subst (λ (z : Option (List ℕ) × OpenSpot). ReachesOpenly (standing z.1 after []) q)
          (sym (ok_is (None, w) y a.1)) h)
      | inr a ↦
          let b = bind_ok (opaque_openly w) some_whole y a.1 in
          let k = took_it w b.0 fits b.1 in
          let next : k.0.where_to.1 ≡ y.1 = k.0.next
          ∙ ap (λ (z : Option (List ℕ) × OpenSpot). z.1) (ok_is (Some b.0.0, b.0.1) y b.2) in
          behind_reached (opaques Optional after) k.1 w k.0.where_to [] q k.2.identifier k.2 k.0.met
          (subst (λ (v : OpenSpot). ReachesOpenly (standing v after []) q) (sym next) h)
    ]

pub optional_shown : ShowsFaults optional_opaque_openly (opaques Optional) Anything
optional_shown = record {
  plain = λ after. refl;
  faults = λ w f fits e after b. optional_fault after w f fits e;
  goes = λ w y fits e after q h. optional_goes after w y q fits e h;
}

-- ---- a list of elements with some tags

module _ (tags : List ℕ) where
  abbrev choices : Form
  choices = part Many tags (λ t. opaque) full

  -- a tag that isn't one of them
  refused_all : (n : ℕ) (xs : List ℕ) (ps : List Element) → is_none_of tags xs ≡ true
      → Fact Tag (place n xs choices ps) n
  refused_all n [] ps h = absurd cc
  refused_all n (t ∷ xs) ps h =
      let p = and_parts (is_tag t) (not (some (λ u. eqb u t) tags)) h in
      (t, xs, ((tt, refl), p.0), rw (not-true (some (λ u. eqb u t) tags) p.1) refl, refl)

  took_tag : (t : ℕ) (xs ys : List ℕ) → xs ≡ t ∷ ys → is_tag t ≡ true → is_none_of tags xs ≡ false
      → takes choices t ≡ true
  took_tag t xs ys is id none =
      let e : not (some (λ u. eqb u t) tags) ≡ false = sym (ap (λ (v : Bool). v && not (some (λ u. eqb u t) tags)) id)
      ∙ sym (ap (is_none_of tags) is) ∙ none in
      not-false (some (λ u. eqb u t) tags) e

  tagged_fault : (w : OpenSpot) (ps : List Element) (f : Fault) → IsBytes w.rest → w.left ≢ 0 → length w.rest ≢ 0
      → tagged_openly tags w ≡ Err f
      → Shown w choices ps f
  unfolding tagged_openly
  tagged_fault w ps f fits left here e = elim (looked_err w (tagged_here tags w) f e) [
    | inl is ↦ inl is
    | inr r ↦ elim (chosen (is_none_of tags (body_of w)) (fails (fault Tag w.pos)) (opaque_openly w) (fails f) r) [
      | inl h ↦ shown_here w choices ps f tt
          (fact_is (place w.pos (body_of w) choices ps) (fault Tag w.pos) f (err_is _ _ h.1)
          (refused_all w.pos (body_of w) ps h.0))
      | inr h ↦ opaque_fault choices w ps f fits tt (λ none. absurd (take_some w.left w.rest left here none)) h.1
    ]
  ]

  abbrev Goes : OpenSpot → List ℕ × OpenSpot → List Element → Type 0
  Goes w y ps = (ps' : List Element)
      × ((q : OpenPlace) → ReachesOpenly (standing y.1 choices ps') q → ReachesOpenly (standing w choices ps) q)

  tagged_goes : (w : OpenSpot) (y : List ℕ × OpenSpot) (ps : List Element) → IsBytes w.rest
      → tagged_openly tags w ≡ Ok y → Goes w y ps
  unfolding tagged_openly
  tagged_goes w y ps fits e =
      elim (chosen (is_none_of tags (body_of w)) (fails (fault Tag w.pos)) (opaque_openly w) (Ok y)
      (looked_ok w (tagged_here tags w) y e)) [
        | inl h ↦ absurd (let z = h.1 in cc)
        | inr h ↦
            let k = took_it w y fits h.1 in
            let ps' : List Element = ps ++ (k.1, body_of k.0.where_to.0) ∷ [] in (
              ps',
              λ q r. behind_reached choices k.1 w k.0.where_to ps q
                  (took_tag k.1 (body_of w) _ k.2.spelled k.2.identifier h.0) k.2 k.0.met
                  (subst (λ (v : OpenSpot). ReachesOpenly (standing v choices ps') q) (sym k.0.next) r),
            )
      ]

  pub tagged_list_shown : ShowsInside (many_openly (tagged_openly tags)) choices
  tagged_list_shown = listed_shown (tagged_openly tags) choices refl (tagged_open tags).went tagged_fault tagged_goes
