-- The header of an element, by the first octets of all that is to come.
use Rattle.std.proofs.Common.{◌≡◌, ℕ, zero, suc, ◌+◌, ◌-◌, ◌<◌, ◌≤◌, ◌^◌, Bool, true, false, cond, ltb, List, [], ◌∷◌}
use Rattle.std.proofs.Common.{◌++◌, length, take, drop, Result, Ok}
use Rattle.std.proofs.Common.{Err, refl, sym, ap, subst, ◌∙◌, arith, inl, inr, append-nil}
use Rattle.std.proofs.lemmas.Bool.{cases_lt, lt-ltb, le-ltb, ltb-true}
use Rattle.std.proofs.lemmas.List.{length-take, length-append, take-append-le, drop-append-le, drop-drop, take-take}
use Rattle.der_core.specs.declared.fault.Fault.{Fault}
use Rattle.der_core.specs.declared.fault.Kind.TheVariants.{Tag, Overrun}
use Rattle.der_core.specs.Element.{IsBytes}
use Rattle.der_core.specs.Reading.{fault, Spot, spot, is_other}
use Rattle.der_core.specs.Results.{◌>>=◌}
use Rattle.devices.specs.declared.source.Source.{Ghosts}
use Rattle.cms_stream_laws.specs.OpenReading.{OpenSpot, open_spot, is_short, ahead, lost, is_end, judged, length_in}
use Rattle.cms_stream_laws.specs.OpenReading.{heading, entered, next_openly}
use Rattle.cms_stream_laws.specs.OpenReading.{enter_openly}
use Rattle.cms_stream_laws.proofs.OpenLaws.{length_there}
use Rattle.cms_stream_laws.proofs.OpenSteps.{headed}
use Rattle.cms_stream_laws.proofs.Windows.{EndsOf, size_ends, six_octets}
use Rattle.cms_stream.specs.Passing.{IsAtHand, body_to, past, heard, is_missing, next_header_in, header_in, outer_size}
use Rattle.cms_stream.specs.Passing.{outer_in}
use Rattle.cms_stream.specs.declared.reader.Reader.{Reader}
use Rattle.cms_stream.specs.declared.stream_fault.StreamFault.TheVariants.{Malformed}
use Rattle.cms_stream.specs.Calls.{Moment, moment, Asks, Enters, Begins}

abbrev ok_spot : OpenSpot → Result OpenSpot Fault
ok_spot w = Ok w

pub stated_there : (at : ℕ) (xs : List ℕ) (l : ℕ) → IsBytes xs → length_in (open_spot 0 at []) xs ≡ Ok l
    → (heading l ≤ length xs) × (l < 2 ^ 32)
stated_there at xs l fits e =
    (length_there (open_spot 0 at []) xs l fits e, (headed (open_spot 0 at []) xs l fits e).fits)

-- a header is read by its position alone
at_position : (w : OpenSpot) (xs : List ℕ) → length_in w xs ≡ length_in (open_spot 0 w.pos []) xs
at_position w [] = refl
at_position w (x ∷ xs) = refl

-- what is looked at: six octets, or all
abbrev pub Looked : List ℕ → List ℕ → Type 0
Looked v rest = IsAtHand 6 v rest

-- a pass looked at these octets, so many or all, of those that are to come there
pub record IsLooked (count at : ℕ) (v octets rest : List ℕ) (s : Spot) : Type 0 where
  pub looked : IsAtHand count v rest
  pub is : spot at (v ++ rest) ≡ s
  pub same : octets ≡ v

-- and passed the header of an element with so many octets of contents
pub record IsHeaded (l count : ℕ) (v octets left : List ℕ) : Type 0 where
  pub there : heading l ≤ length octets
  pub size : count ≡ heading l
  pub gone : left ≡ drop count v

other_same : (tag left : ℕ) (v rest : List ℕ) → Looked v rest
    → is_other tag (take left (v ++ rest)) ≡ is_other tag (take left v)
other_same tag left v rest (inr e) = rw (e, append-nil v) refl
other_same tag left [] rest (inl h) = absurd (omega (arith, h))
other_same tag zero (x ∷ v) rest (inl h) = refl
other_same tag (suc n) (x ∷ v) rest (inl h) = refl

abbrev Sized : Type 0
Sized = Result ℕ Fault

judged_is : (w : OpenSpot) (r : Sized) → judged w r ≡ heard (is_short w) r
judged_is w (Ok l) = refl
judged_is w (Err f) = refl

heard_false : (r : Sized) → heard false r ≡ r
heard_false (Ok l) = refl
heard_false (Err f) = refl

first_six : (left : ℕ) (v rest : List ℕ) → 6 ≤ length v → take 6 (take left (v ++ rest)) ≡ take 6 (take left v)
first_six left v rest h = elim (cases_lt left 6) [
  | inl lt ↦ ap (take 6) (take-append-le left v rest (omega (arith, lt, h)))
  | inr le ↦ take-take 6 left (v ++ rest) le ∙ take-append-le 6 v rest h ∙ sym (take-take 6 left v le)
]

-- six octets are no end
no_end : (b : Bool) (w : OpenSpot) (xs : List ℕ) (r : Sized) → length_in w xs ≡ r → (b ≡ true → 6 ≤ length xs)
    → heard b r ≡ r
no_end b w xs (Ok l) e h = refl
no_end false w xs (Err f) e h = refl
no_end true w xs (Err f) e h = by_end (is_end f.kind) refl
  where
    by_end : (c : Bool) → is_end f.kind ≡ c → cond {A = Sized} c (Err lost) (Err f) ≡ Err f
    by_end true is = let s = size_ends w xs (subst EndsOf (sym e) is) in let m = h refl in absurd (omega (arith, s, m))
    by_end false is = refl

missing_is : (left : ℕ) (v : List ℕ) → length v < 6 → is_missing left v ≡ ltb (length v) left
missing_is left v h = rw (lt-ltb (length v) 6 h) refl

-- all that is to come of a body
abbrev all_of : ℕ → ℕ → List ℕ → List ℕ → OpenSpot
all_of left at v rest = open_spot left at (v ++ rest)

judged_same : (left at : ℕ) (v rest : List ℕ) → Looked v rest
    → judged (open_spot left at (v ++ rest)) (length_in (open_spot left at (v ++ rest)) (take left (v ++ rest)))
    ≡ heard (is_missing left v) (length_in (open_spot 0 at []) (take left v))
judged_same left at v rest looked = elim (cases_lt (length v) 6) [
  | inl few ↦ few_same few looked
  | inr six ↦ six_same six
]
  where
    few_same : length v < 6 → Looked v rest
        → judged (all_of left at v rest) (length_in (all_of left at v rest) (take left (v ++ rest)))
        ≡ heard (is_missing left v) (length_in (open_spot 0 at []) (take left v))
    few_same few (inl six) = absurd (omega (arith, few, six))
    few_same few (inr none) =
        let all : v ++ rest ≡ v = ap (λ (ys : List ℕ). v ++ ys) none ∙ append-nil v in
        judged_is (all_of left at v rest) (length_in (all_of left at v rest) (take left (v ++ rest)))
        ∙ rw (at_position (all_of left at v rest) (take left (v ++ rest)), all, missing_is left v few) refl

    six_same : 6 ≤ length v
        → judged (all_of left at v rest) (length_in (all_of left at v rest) (take left (v ++ rest)))
        ≡ heard (is_missing left v) (length_in (open_spot 0 at []) (take left v))
    six_same six =
        let one : judged (all_of left at v rest) (length_in (all_of left at v rest) (take left (v ++ rest)))
        ≡ length_in (all_of left at v rest) (take left (v ++ rest)) =
        judged_is (all_of left at v rest) (length_in (all_of left at v rest) (take left (v ++ rest)))
        ∙ no_end (is_short (all_of left at v rest)) (all_of left at v rest) (take left (v ++ rest))
        (length_in (all_of left at v rest) (take left (v ++ rest))) refl
        (λ short. let far = ltb-true (length (v ++ rest)) left short in
        omega (arith, far, six, length-append v rest, length-take left (v ++ rest))) in
        let two : length_in (all_of left at v rest) (take left (v ++ rest))
        ≡ length_in (all_of left at v rest) (take left v) =
        sym (six_octets (all_of left at v rest) (take left (v ++ rest)))
        ∙ ap (length_in (all_of left at v rest)) (first_six left v rest six)
        ∙ six_octets (all_of left at v rest) (take left v) in
        let three : is_missing left v ≡ false = rw (le-ltb (length v) 6 six) refl in
        one ∙ two ∙ at_position (all_of left at v rest) (take left v)
        ∙ sym (ap (λ (b : Bool). heard b (length_in (open_spot 0 at []) (take left v))) three
        ∙ heard_false (length_in (open_spot 0 at []) (take left v)))

abbrev Both : Type 0
Both = Result (OpenSpot × OpenSpot) Fault

abbrev both_at : OpenSpot → ℕ → Both
both_at w l = Ok (open_spot l (w.pos + heading l) (drop (heading l) w.rest), ahead (heading l + l) w)

-- what is stated, within the body
abbrev fits_in : ℕ → ℕ → ℕ → Sized
fits_in left at l = cond (ltb left (heading l + l)) (Err (fault Overrun at)) (Ok l)

-- the header of all that is to come is the one of what is looked at
pub next_header_is : (left at : ℕ) (v rest : List ℕ) → Looked v rest
    → next_openly (open_spot left at (v ++ rest))
    ≡ (next_header_in left at v >>= both_at (open_spot left at (v ++ rest)))
unfolding next_header_in
next_header_is left at v rest looked =
    rw (judged_same left at v rest looked)
    (by_size (heard (is_missing left v) (length_in (open_spot 0 at []) (take left v))))
  where
    by_fit : (l : ℕ) (b : Bool)
        → cond b (Err (fault Overrun at)) (both_at (all_of left at v rest) l)
        ≡ (cond b (Err (fault Overrun at)) (Ok l) >>= both_at (all_of left at v rest))
    by_fit l true = refl
    by_fit l false = refl

    by_size : (r : Sized)
        → (r >>= entered (all_of left at v rest)) ≡ ((r >>= fits_in left at) >>= both_at (all_of left at v rest))
    by_size (Err f) = refl
    by_size (Ok l) = by_fit l (ltb left (heading l + l))

pub header_is : (tag left at : ℕ) (v rest : List ℕ) → Looked v rest
    → enter_openly tag (open_spot left at (v ++ rest))
    ≡ (header_in tag left at v >>= both_at (open_spot left at (v ++ rest)))
unfolding enter_openly header_in
header_is tag left at v rest looked =
    rw (other_same tag left v rest looked, next_header_is left at v rest looked)
    (by_tag (is_other tag (take left v)) (next_header_in left at v))
  where
    by_tag : (b : Bool) (r : Sized)
        → cond b (Err (fault Tag at)) (r >>= both_at (all_of left at v rest))
        ≡ (cond b (Err (fault Tag at)) r >>= both_at (all_of left at v rest))
    by_tag true r = refl
    by_tag false r = refl

-- ---- the header at the front of a pass

open_is : (l m n k : ℕ) (xs ys : List ℕ) → l ≡ m → n ≡ k → xs ≡ ys → open_spot l n xs ≡ open_spot m k ys
open_is l m n k xs ys e f g =
    ap (λ (j : ℕ). open_spot j n xs) e ∙ ap (λ (j : ℕ). open_spot m j xs) f ∙ ap (open_spot m k) g

abbrev pair_of : OpenSpot → OpenSpot → Both
pair_of a b = Ok (a, b)

-- what is entered, in one way or another, by a header
module _ (entering : OpenSpot → Both) (header : (left at : ℕ) → List ℕ → Sized)
    (header_read : (left at : ℕ) (v rest : List ℕ) → Looked v rest
    → entering (open_spot left at (v ++ rest)) ≡ (header left at v >>= both_at (open_spot left at (v ++ rest)))) where
  enters_at : {at l : ℕ} {v rest : List ℕ} {s : Spot} (end : ℕ) → IsLooked 6 at v v rest s
      → header (end - at) at v ≡ Ok l → heading l ≤ length v
      → at ≤ end → heading l + l ≤ end - at
      → entering (body_to end s)
      ≡ Ok (
        body_to (at + heading l + l) (spot (at + heading l) (drop (heading l) v ++ rest)),
        body_to end
            (past (at + heading l + l) (spot (at + heading l) (drop (heading l) v ++ rest))),
      )
  enters_at {at} {l} {v} {rest} {s} end front e there inside fits =
      let h : ℕ = heading l in
      let dropped : drop h (v ++ rest) ≡ drop h v ++ rest = drop-append-le h v rest there in
      let contents : open_spot l (at + h) (drop h (v ++ rest))
      ≡ body_to (at + h + l) (spot (at + h) (drop h v ++ rest)) = open_is _ _ _ _ _ _ (omega arith) refl dropped in
      let count : at + h + l - (at + h) ≡ l = omega arith in
      let further : drop (h + l) (v ++ rest) ≡ drop (at + h + l - (at + h)) (drop h v ++ rest) =
      sym (drop-drop l h (v ++ rest)) ∙ ap (drop l) dropped ∙ ap (λ (m : ℕ). drop m (drop h v ++ rest)) (sym count) in
      let behind : ahead (h + l) (open_spot (end - at) at (v ++ rest))
      ≡ body_to end (past (at + h + l) (spot (at + h) (drop h v ++ rest))) =
      open_is _ _ _ _ _ _ (omega arith) (omega arith) further in
      ap (λ (z : Spot). entering (body_to end z)) (sym front.is) ∙ header_read (end - at) at v rest front.looked
      ∙ rw e (ap (λ (z : OpenSpot). pair_of z (ahead (h + l) (open_spot (end - at) at (v ++ rest)))) contents
      ∙ ap (pair_of (body_to (at + h + l) (spot (at + h) (drop h v ++ rest)))) behind)

  -- the same, as a pass finds it that looked at these octets
  module _ {at : ℕ} {v octets rest : List ℕ} {s : Spot} (end : ℕ) (front : IsLooked 6 at v octets rest s) where
    pub enters_now : {l count : ℕ} {left : List ℕ} → header (end - at) at octets ≡ Ok l → IsHeaded l count v octets left
        → at ≤ end
        → heading l + l ≤ end - at
        → entering (body_to end s)
        ≡ Ok (
          body_to (at + count + l) (spot (at + count) (left ++ rest)),
          body_to end (past (at + count + l) (spot (at + count) (left ++ rest))),
        )
    enters_now {l} {count} {left} e header_there inside fits =
        let read : header (end - at) at v ≡ Ok l =
        subst (λ (xs : List ℕ). header (end - at) at xs ≡ Ok l) front.same e in
        let here : heading l ≤ length v =
        subst (λ (xs : List ℕ). heading l ≤ length xs) front.same header_there.there in
        let all : IsLooked 6 at v v rest s = record { looked = front.looked; is = front.is; same = refl } in
        rw (header_there.gone, header_there.size) (enters_at end all read here inside fits)

    pub enters_not : (f : Fault) → header (end - at) at octets ≡ Err f → entering (body_to end s) ≡ Err f
    enters_not f e =
        ap (λ (z : Spot). entering (body_to end z)) (sym front.is) ∙ header_read (end - at) at v rest front.looked
        ∙ rw (subst (λ (xs : List ℕ). header (end - at) at xs ≡ Err f) front.same e) refl

  -- the same, from the call that looked at them
  module _ {S : Type 0} (g : Ghosts S) (r : Reader) (s : S) (a : Moment) (end : ℕ) {u : Unit {0}} {octets : List ℕ}
      (asks : Asks a (Ok u) (moment g r s)) (looks : a.tells → IsAtHand 6 r.window (g.rest s))
      (same : octets ≡ r.window) where
    front_at : a.tells → IsLooked 6 r.at r.window octets (g.rest s) a.place
    front_at t = record { looked = looks t; is = asks.moved t; same = same }

    pub enter_fails : (f : Fault) → header (end - r.at) r.at octets ≡ Err f
        → Enters entering end a (Err (Malformed f)) (moment g r s)
    enter_fails f e = record {
      exact = (asks.exact, λ t. enters_not end (front_at t) f e);
      telling = asks.telling;
      at = tt;
      moved = λ t. tt;
    }

    pub enter_gives : {l count : ℕ} {left : List ℕ} → header (end - r.at) r.at octets ≡ Ok l
        → (heading l ≤ length octets) × (heading l + l ≤ end - r.at) × (l < 2 ^ 32) → count ≡ heading l
        → left ≡ drop count r.window → a.place.pos ≤ end
        → Enters entering end a (Ok (r.at + count + l))
        (record { tells = g.tells s; failures = g.failures s; place = spot (r.at + count) (left ++ g.rest s) })
    enter_gives {l} {count} {left} e there size gone inside =
        let front : a.place.pos ≡ r.at = sym asks.at in
        let here : count ≤ length r.window = omega (arith, there.0, size, ap length same) in
        let passed : r.at + count - r.at ≡ count = omega arith in
        record {
          exact = (
            asks.exact,
            λ t. enters_now end (front_at t) e (record { there = there.0; size = size; gone = gone })
                (omega (arith, inside, front)) there.1,
          );
          telling = asks.telling;
          at = (
            omega (arith, front, size),
            omega arith,
            omega (arith, there.1, size, inside, front),
            omega (arith, there.2),
          );
          moved = λ t. ap (spot (r.at + count)) (ap (λ (xs : List ℕ). xs ++ g.rest s) gone
              ∙ sym (drop-append-le count r.window (g.rest s) here)
              ∙ ap (λ (n : ℕ). drop n (r.window ++ g.rest s)) (sym passed))
              ∙ ap (past (r.at + count)) (asks.moved t);
        }

-- ---- the outermost header

outer_same : (v rest : List ℕ) → Looked v rest → outer_size (v ++ rest) ≡ outer_size v
unfolding outer_size
outer_same v rest (inr e) = rw (e, append-nil v) refl
outer_same [] rest (inl h) = absurd (omega (arith, h))
outer_same (x ∷ v) rest (inl h) = rw (sized (x ∷ v) rest h) refl
  where
    sized : (ys zs : List ℕ) → 6 ≤ length ys → length_in (open_spot 0 0 []) (ys ++ zs) ≡ length_in (open_spot 0 0 []) ys
    sized ys zs le =
        sym (six_octets (open_spot 0 0 []) (ys ++ zs)) ∙ ap (length_in (open_spot 0 0 [])) (take-append-le 6 ys zs le)
        ∙ six_octets (open_spot 0 0 []) ys

pub begins_not : {at : ℕ} {v octets rest : List ℕ} {s : Spot} (f : Fault) → IsLooked 6 at v octets rest s
    → outer_size octets ≡ Err f → outer_in s.rest ≡ Err f
unfolding outer_in
begins_not {at} {v} {octets} {rest} {s} f front e =
    let all : v ++ rest ≡ s.rest = ap (λ (z : Spot). z.rest) front.is in
    rw (← all, outer_same v rest front.looked, ← front.same, e) refl

pub begins_at : {l count at : ℕ} {v octets left rest : List ℕ} {s : Spot} → IsLooked 6 at v octets rest s → at ≡ 0
    → outer_size octets ≡ Ok l
    → IsHeaded l count v octets left
    → outer_in s.rest ≡ Ok (body_to (at + count + l) (spot (at + count) (left ++ rest)))
unfolding outer_in
begins_at {l} {count} {at} {v} {octets} {left} {rest} {s} front first e header_there =
    let size : count ≡ heading l = header_there.size in
    let all : v ++ rest ≡ s.rest = ap (λ (z : Spot). z.rest) front.is in
    let h : ℕ = heading l in
    let here : h ≤ length v = subst (λ (xs : List ℕ). h ≤ length xs) front.same header_there.there in
    let dropped : drop h (v ++ rest) ≡ left ++ rest = drop-append-le h v rest here
    ∙ ap (λ (xs : List ℕ). xs ++ rest) (ap (λ (n : ℕ). drop n v) (sym size) ∙ sym header_there.gone) in
    rw (← all, outer_same v rest front.looked, ← front.same, e)
    (ap ok_spot (open_is _ _ _ _ _ _ (omega (arith, size)) (omega (arith, first, size))
    (ap (λ (xs : List ℕ). drop h (xs ++ rest)) front.same ∙ dropped)))

-- the same, from the call that looked at them
module _ {S : Type 0} (g : Ghosts S) (r : Reader) (s : S) (a : Moment) {u : Unit {0}} {octets : List ℕ}
    (asks : Asks a (Ok u) (moment g r s)) (looks : a.tells → IsAtHand 6 r.window (g.rest s)) (same : octets ≡ r.window)
  where
    first_at : a.tells → IsLooked 6 r.at r.window octets (g.rest s) a.place
    first_at t = record { looked = looks t; is = asks.moved t; same = same }

    pub begin_fails : (f : Fault) → outer_size octets ≡ Err f → Begins outer_in a (Err (Malformed f)) (moment g r s)
    begin_fails f e = record {
      exact = (asks.exact, λ t. begins_not f (first_at t) e);
      telling = asks.telling;
      at = tt;
      moved = λ t. tt;
    }
