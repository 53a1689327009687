-- Open readings of elements that are left whole: what they owe to those of slices, and that they are steady.
use Rattle.std.proofs.Common.{◌≡◌, ℕ, zero, suc, ◌+◌, ◌-◌, ◌<◌, ◌≤◌, Bool, true, false, not, ◌&&◌, cond, ltb, eqb, List}
use Rattle.std.proofs.Common.{[], ◌∷◌, length, take, drop, Option}
use Rattle.std.proofs.Common.{Some, None, Result, Ok, Err, refl, sym, ap, subst, ◌∙◌, arith, inl, inr}
use Rattle.std.proofs.lemmas.Bool.{le-ltb, ltb-false, eqb-true, eqb-false}
use Rattle.std.proofs.lemmas.List.{length-take-le, length-drop, take-take, take-append-le}
use Rattle.der_core.specs.declared.fault.Fault.{Fault}
use Rattle.der_core.specs.declared.fault.Kind.TheVariants.{HighTag, Overrun, Tag}
use Rattle.der_core.specs.Element.{is_tag, IsBytes}
use Rattle.der_core.specs.Lists.{some}
use Rattle.der_core.specs.Reading.{fault, Spot, Taken, taken, before, body_at, element_in, next_at, length_at}
use Rattle.der_core.specs.Reading.{opaque_in, opaque_at, many_from, many_in}
use Rattle.der_core.specs.Results.{◌>>=◌}
use Rattle.der_core.proofs.ReadLengths.{chosen, ok_is}
use Rattle.der_core.proofs.Results.{bind_ok}
use Rattle.der_lists.specs.Checked.{checked_from, checked_in, tag_in, tag_at, tagged_in}
use Rattle.der_lists.specs.Items.{opaque_item}
use Rattle.cms_stream_laws.specs.OpenReading.{OpenSpot, body_of, closed, is_short, grown, lost, heading, next_openly}
use Rattle.cms_stream_laws.specs.OpenReading.{passed_whole, opaque_openly}
use Rattle.cms_stream_laws.specs.OpenReading.{optional_opaque_openly, is_none_of, tagged_openly, many_openly, Went}
use Rattle.cms_stream_laws.specs.OpenReading.{IsMet, Stays}
use Rattle.cms_stream_laws.proofs.OpenReaders.{inner, both, next_same}
use Rattle.cms_stream_laws.proofs.Switches.{MaybeWhole, some_whole, none_whole}
use Rattle.cms_stream_laws.proofs.OpenLaws.{seen, IsOpenReader, IsOpenBody, went_nowhere, Entering, next_went}
use Rattle.cms_stream_laws.proofs.OpenLaws.{inside_met, behind_went}
use Rattle.cms_stream_laws.proofs.OpenParts.{looked_met, looked_ok, GoesOn, many_open}
use Rattle.cms_stream_laws.proofs.Steady.{EntersAlike, EnterStays, next_stays, grown_long}
use Rattle.cms_stream_laws.proofs.SteadyParts.{IsSteady, IsSteadyBody, front_stays, many_steady}

-- ---- an element with any tag

abbrev Whole : Type 0
Whole = Result (List ℕ × Spot) Fault

abbrev OpenWhole : Type 0
OpenWhole = Result (List ℕ × OpenSpot) Fault

abbrev Both : Type 0
Both = Result (OpenSpot × OpenSpot) Fault

abbrev item : Taken × Spot → Whole
item x = Ok (x.0.whole, x.1)

abbrev whole_from : Spot → Spot × Spot → Whole
whole_from s x = Ok (before s.rest x.1.rest, x.1)

abbrev fits_at : Spot → ℕ → ℕ × List ℕ → Bool → Result (Taken × Spot) Fault
fits_at s t l b = cond b (Err (fault Overrun s.pos)) (Ok (taken s t (take l.0 l.1) (drop l.0 l.1)))

abbrev begun : Spot → ℕ → List ℕ → Bool → Result (Taken × Spot) Fault
begun s t xs b = cond b (length_at (s.pos + 1) xs >>= body_at s t) (Err (fault HighTag s.pos))

-- the octets of a slice's element are those before what is behind it
whole_is : (s : Spot) (xs : List ℕ) → (element_in s xs >>= item) ≡ ((element_in s xs >>= inner) >>= whole_from s)
whole_is s [] = refl
whole_is s (t ∷ xs) = by_tag (is_tag t)
  where
    by_fit : (l : ℕ × List ℕ) (b : Bool) → (fits_at s t l b >>= item) ≡ ((fits_at s t l b >>= inner) >>= whole_from s)
    by_fit l true = refl
    by_fit l false = refl

    by_length : (r : Result (ℕ × List ℕ) Fault)
        → ((r >>= body_at s t) >>= item) ≡ (((r >>= body_at s t) >>= inner) >>= whole_from s)
    by_length (Err f) = refl
    by_length (Ok l) = by_fit l (ltb (length l.1) l.0)

    by_tag : (b : Bool) → (begun s t xs b >>= item) ≡ ((begun s t xs b >>= inner) >>= whole_from s)
    by_tag true = by_length (length_at (s.pos + 1) xs)
    by_tag false = refl

item_is : (s : Spot) → opaque_item s ≡ ((next_at s >>= inner) >>= whole_from s)
unfolding opaque_item next_at
item_is s = whole_is s s.rest

-- the same octets of a body
same_octets : (w : OpenSpot) (x : OpenSpot × OpenSpot) → Entering w x → IsMet w
    → take (length (body_of w) - length (body_of x.1)) (body_of w) ≡ take (x.1.pos - w.pos) w.rest
same_octets w x k met =
    let c : ℕ = heading k.size + k.size in
    let le : c ≤ w.left = k.inside in
    let all : length (body_of w) ≡ w.left = length-take-le w.left w.rest met in
    let back : length (body_of x.1) ≡ w.left - c = ap (λ (v : OpenSpot). length (body_of v)) k.behind
    ∙ length-take-le (w.left - c) (drop c w.rest) (omega (arith, length-drop c w.rest, met, le)) in
    let at : x.1.pos ≡ w.pos + c = ap (λ (v : OpenSpot). v.pos) k.behind in
    let count : length (body_of w) - length (body_of x.1) ≡ c = omega (arith, all, back, le) in
    let count' : x.1.pos - w.pos ≡ c = omega (arith, at) in
    ap (λ (n : ℕ). take n (body_of w)) count ∙ take-take c w.left w.rest le ∙ ap (λ (n : ℕ). take n w.rest) (sym count')

abbrev whole_at : Spot → List ℕ → Whole
whole_at s xs = Ok (xs, s)

by_header : (w : OpenSpot) (r : Both) → next_openly w ≡ r → IsMet w → IsBytes w.rest
    → ((r >>= both) >>= whole_from (closed w)) ≡ ((r >>= passed_whole w) >>= seen)
by_header w (Err f) e met fits = refl
by_header w (Ok x) e met fits =
    let k = next_went w x fits e in
    let m : IsMet x.0 = inside_met w x k met in
    rw (le-ltb (length x.0.rest) x.0.left m) (ap (whole_at (closed x.1)) (same_octets w x k met))

-- what was read was whole
pub record TookWhole (w : OpenSpot) (y : List ℕ × OpenSpot) : Type 0 where
  pub where_to : OpenSpot × OpenSpot
  pub enters : next_openly w ≡ Ok where_to
  pub met : IsMet where_to.0
  pub next : where_to.1 ≡ y.1

pub took_whole : (w : OpenSpot) (y : List ℕ × OpenSpot) → opaque_openly w ≡ Ok y → TookWhole w y
unfolding opaque_openly
took_whole w y e =
    let a = bind_ok (next_openly w) (passed_whole w) y e in
    let short : OpenWhole = Err lost in
    let good : OpenWhole = Ok (take (a.0.1.pos - w.pos) w.rest, a.0.1) in
    elim (chosen (is_short a.0.0) short good (Ok y) a.2) [
      | inl h ↦ absurd (let z = h.1 in cc)
      | inr h ↦ record {
        where_to = a.0;
        enters = a.1;
        met = ltb-false _ _ h.0;
        next = ap (λ (z : List ℕ × OpenSpot). z.1)
            (ok_is (take (a.0.1.pos - w.pos) w.rest, a.0.1) y h.1);
      }
    ]

pub opaque_open : IsOpenReader opaque_item opaque_openly
unfolding opaque_openly
opaque_open = record {
  same =
      λ w met fits. item_is (closed w)
      ∙ ap (λ (r : Result (Spot × Spot) Fault). r >>= whole_from (closed w)) (next_same w met fits)
      ∙ by_header w (next_openly w) refl met fits;
  went = λ w y fits e.
      let t = took_whole w y e in
      subst (Went w) t.next (behind_went w t.where_to (next_went w t.where_to fits t.enters) t.met);
}

pub opaque_goes_on : GoesOn opaque_openly
opaque_goes_on w y fits e =
    let t = took_whole w y e in
    let k = next_went w t.where_to fits t.enters in
    let i = k.inside in
    let left : t.where_to.1.left ≡ w.left - (heading k.size + k.size) = ap (λ (v : OpenSpot). v.left) k.behind in
    subst (λ (v : OpenSpot). v.left < w.left) t.next (omega (arith, left, i))

abbrev at_spot : OpenSpot → List ℕ → OpenWhole
at_spot v xs = Ok (xs, v)

pub opaque_steady : IsSteady opaque_openly
unfolding opaque_openly
opaque_steady w more fits = by_both (next_openly w) (next_openly (grown w more)) refl (next_stays w more fits)
  where
    by_short : (x y : OpenSpot × OpenSpot) → Entering w x → EntersAlike x y more → (b : Bool) → is_short x.0 ≡ b
        → Stays (passed_whole w x) (passed_whole (grown w more) y) more
    by_short x y k a true h = rw h (inl refl)
    by_short x y k a false h =
        let m : IsMet x.0 = ltb-false _ _ h in
        let g = behind_went w x k m in
        let at : x.1.pos ≡ w.pos + g.count = ap (λ (v : OpenSpot). v.pos) g.is in
        let there = g.there in
        rw (h, a.contents, grown_long x.0 more h, a.behind m)
        (ap (at_spot (grown x.1 more)) (take-append-le (x.1.pos - w.pos) w.rest more (omega (arith, at, there))))

    by_both : (r s : Both) → next_openly w ≡ r → EnterStays r s more
        → Stays (r >>= passed_whole w) (s >>= passed_whole (grown w more)) more
    by_both (Ok x) s e (y, is, a) = rw is (by_short x y (next_went w x fits e) a (is_short x.0) refl)
    by_both (Err f) s e (inl h) = inl h
    by_both (Err f) s e (inr h) = rw h (inr refl)

-- ---- the same, unless the body ends

abbrev pub optional_here : OpenSpot → MaybeWhole
optional_here w = cond (eqb w.left 0) (none_whole w) (opaque_openly w >>= some_whole)

abbrev some_read : List ℕ × Spot → Result (Option (List ℕ) × Spot) Fault
some_read x = Ok (Some x.0, x.1)

optional_same : (w : OpenSpot) → IsMet w → IsBytes w.rest → (b : Bool) → eqb w.left 0 ≡ b → (xs : List ℕ)
    → body_of w ≡ xs
    → opaque_in (closed w) xs ≡ (cond b (none_whole w) (opaque_openly w >>= some_whole) >>= seen)
unfolding opaque_item
optional_same w met fits b e [] is = by_left b e
  where
    by_left : (b : Bool) → eqb w.left 0 ≡ b
        → opaque_in (closed w) [] ≡ (cond b (none_whole w) (opaque_openly w >>= some_whole) >>= seen)
    by_left true h = refl
    by_left false h = absurd
        (let n = eqb-false w.left 0 h in let z = ap length is in n (omega (arith, z, length-take-le w.left w.rest met)))
optional_same w met fits b e (t ∷ xs) is = by_left b e
  where
    again : (r : Result (Taken × Spot) Fault)
        → (r >>= λ x. Ok (Some x.0.whole, x.1)) ≡ ((r >>= λ x. Ok (x.0.whole, x.1)) >>= some_read)
    again (Ok x) = refl
    again (Err f) = refl

    swapped : (r : OpenWhole) → ((r >>= seen) >>= some_read) ≡ ((r >>= some_whole) >>= seen)
    swapped (Ok x) = refl
    swapped (Err f) = refl

    by_left : (b : Bool) → eqb w.left 0 ≡ b
        → opaque_in (closed w) (t ∷ xs) ≡ (cond b (none_whole w) (opaque_openly w >>= some_whole) >>= seen)
    by_left true h = absurd
        (let n = eqb-true w.left 0 h in let z = ap length is in omega (arith, z, n, length-take-le w.left w.rest met))
    by_left false h = again (next_at (closed w)) ∙ ap (λ (r : Whole). r >>= some_read) (opaque_open.same w met fits)
        ∙ swapped (opaque_openly w)

pub optional_open : IsOpenReader opaque_at optional_opaque_openly
unfolding opaque_at optional_opaque_openly
optional_open = record {
  same = λ w met fits.
      rw (looked_met w (optional_here w) met) (optional_same w met fits (eqb w.left 0) refl (body_of w) refl);
  went = λ w y fits e. elim (chosen (eqb w.left 0) (none_whole w) (opaque_openly w >>= some_whole) (Ok y)
      (looked_ok w (optional_here w) y e)) [
        | inl h ↦ subst (λ (z : Option (List ℕ) × OpenSpot). Went w z.1) (ok_is (None, w) y h.1) (went_nowhere w)
        | inr h ↦ let a =
            bind_ok (opaque_openly w) some_whole y h.1 in
            subst (λ (z : Option (List ℕ) × OpenSpot). Went w z.1) (ok_is (Some a.0.0, a.0.1) y a.2)
            (opaque_open.went w a.0 fits a.1)
      ];
}

pub optional_steady : IsSteady optional_opaque_openly
unfolding optional_opaque_openly
optional_steady w more fits =
    front_stays w more (optional_here w) (optional_here (grown w more)) (λ same. by_left (eqb w.left 0))
    (λ x xs ys e h. by_left (eqb w.left 0))
  where
    some_by : (r s : OpenWhole) → Stays r s more → Stays (r >>= some_whole) (s >>= some_whole) more
    some_by (Ok x) s h = rw h refl
    some_by (Err f) s (inl h) = inl h
    some_by (Err f) s (inr h) = rw h (inr refl)

    by_left : (b : Bool) → Stays (cond b (none_whole w) (opaque_openly w >>= some_whole))
        (cond b (none_whole (grown w more)) (opaque_openly (grown w more) >>= some_whole)) more
    by_left true = refl
    by_left false = some_by (opaque_openly w) (opaque_openly (grown w more)) (opaque_steady w more fits)

-- ---- elements with some tags

module _ (tags : List ℕ) where
  abbrev pub tagged_item : Spot → Whole
  tagged_item s = tag_at tags s >>= λ u. opaque_item s

  abbrev others : ℕ → List ℕ × Spot → Result (List (List ℕ)) Fault
  others k x = many_from tagged_item k x.1 >>= λ xs. Ok (x.0 ∷ xs)

  many_checked : (k : ℕ) (last : List ℕ) (s : Spot)
      → checked_from (λ v. tag_at tags) opaque_item k last s ≡ many_from tagged_item k s
  unfolding checked_from many_from
  many_checked zero last s = refl
  many_checked (suc k) last s =
      ap (λ (r : Result (List (List ℕ)) Fault). cond (eqb (length s.rest) 0) (Ok []) r)
      (by_check (λ v t. many_checked k v t) (tag_at tags s))
    where
      by_item : ((u : List ℕ) (t : Spot)
          → checked_from (λ z. tag_at tags) opaque_item k u t ≡ many_from tagged_item k t) → (v : List ℕ) (r : Whole)
          → (r >>= λ x. checked_from (λ u. tag_at tags) opaque_item k v x.1 >>= λ xs. Ok (x.0 ∷ xs)) ≡ (r >>= others k)
      by_item same v (Err f) = refl
      by_item same v (Ok x) = ap (λ (r : Result (List (List ℕ)) Fault). r >>= λ xs. Ok (x.0 ∷ xs)) (same v x.1)

      by_check : ((u : List ℕ) (t : Spot)
          → checked_from (λ z. tag_at tags) opaque_item k u t ≡ many_from tagged_item k t) → (r : Result (List ℕ) Fault)
          → (r >>= λ v. opaque_item s >>= λ x. checked_from (λ u. tag_at tags) opaque_item k v x.1
          >>= λ xs. Ok (x.0 ∷ xs))
          ≡ ((r >>= λ u. opaque_item s) >>= others k)
      by_check same (Err f) = refl
      by_check same (Ok v) = by_item same v (opaque_item s)

  tagged_many : (s : Spot) → tagged_in tags s ≡ many_in tagged_item s
  unfolding checked_in many_in
  tagged_many s = many_checked (length s.rest) [] s

  abbrev pub tagged_here : OpenSpot → OpenWhole
  tagged_here w = cond (is_none_of tags (body_of w)) (Err (fault Tag w.pos)) (opaque_openly w)

  pub tagged_open : IsOpenReader tagged_item (tagged_openly tags)
  unfolding tag_at tagged_openly
  tagged_open = record {
    same = λ w met fits. rw (looked_met w (tagged_here w) met) (by_body w met fits (body_of w));
    went = λ w y fits e. elim (chosen (is_none_of tags (body_of w)) (Err (fault Tag w.pos)) (opaque_openly w) (Ok y)
        (looked_ok w (tagged_here w) y e)) [
          | inl h ↦ absurd (let z = h.1 in cc)
          | inr h ↦ opaque_open.went w y fits h.1
        ];
  }
    where
      by_none : (w : OpenSpot) → IsMet w → IsBytes w.rest → (b : Bool)
          → (cond {A = Result (List ℕ) Fault} b (Err (fault Tag w.pos)) (Ok []) >>= λ u. opaque_item (closed w))
          ≡ (cond {A = OpenWhole} b (Err (fault Tag w.pos)) (opaque_openly w) >>= seen)
      by_none w met fits true = refl
      by_none w met fits false = opaque_open.same w met fits

      by_body : (w : OpenSpot) → IsMet w → IsBytes w.rest → (xs : List ℕ)
          → (tag_in tags (closed w) xs >>= λ u. opaque_item (closed w))
          ≡ (cond {A = OpenWhole} (is_none_of tags xs) (Err (fault Tag w.pos)) (opaque_openly w) >>= seen)
      by_body w met fits [] = opaque_open.same w met fits
      by_body w met fits (t ∷ xs) = by_none w met fits (is_tag t && not (some (λ u. eqb u t) tags))

  pub tagged_goes_on : GoesOn (tagged_openly tags)
  unfolding tagged_openly
  tagged_goes_on w y fits e = elim (chosen (is_none_of tags (body_of w)) (Err (fault Tag w.pos)) (opaque_openly w)
      (Ok y) (looked_ok w (tagged_here w) y e)) [
        | inl h ↦ absurd (let z = h.1 in cc)
        | inr h ↦ opaque_goes_on w y fits h.1
      ]

  pub tagged_steady : IsSteady (tagged_openly tags)
  unfolding tagged_openly
  tagged_steady w more fits = front_stays w more (tagged_here w) (tagged_here (grown w more))
      (λ same. by_none (is_none_of tags (body_of w)) (is_none_of tags (body_of (grown w more)))
      (ap (is_none_of tags) (sym same)))
      (λ x xs ys e h. by_none (is_none_of tags (body_of w)) (is_none_of tags (body_of (grown w more)))
      (ap (is_none_of tags) e ∙ sym (ap (is_none_of tags) h)))
    where
      by_none : (b c : Bool) → b ≡ c
          → Stays (cond b (Err (fault Tag w.pos)) (opaque_openly w))
          (cond c (Err (fault Tag w.pos)) (opaque_openly (grown w more))) more
      by_none true true e = inr refl
      by_none true false e = absurd cc
      by_none false true e = absurd cc
      by_none false false e = opaque_steady w more fits

  -- a list of them
  pub tagged_list_open : IsOpenBody (tagged_in tags) (many_openly (tagged_openly tags))
  tagged_list_open =
      let law = many_open tagged_item (tagged_openly tags) tagged_open tagged_goes_on in
      record { same = λ w met fits. tagged_many (closed w) ∙ law.same w met fits; met = law.met }

  pub tagged_list_steady : IsSteadyBody (many_openly (tagged_openly tags))
  tagged_list_steady = many_steady tagged_item (tagged_openly tags) tagged_open tagged_steady
