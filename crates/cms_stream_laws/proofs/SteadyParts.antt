-- Open readings made of open readings give the same with more octets behind.
use Rattle.std.proofs.Common.{◌≡◌, ℕ, zero, suc, Bool, true, false, cond, eqb, List, [], ◌∷◌, ◌++◌, length, take}
use Rattle.std.proofs.Common.{Option, Some, None, Result, Ok, Err, refl}
use Rattle.std.proofs.Common.{sym, ap, ◌∙◌, arith, inl, inr}
use Rattle.std.proofs.lemmas.Bool.{cases_lt, lt-ltb, le-ltb, ne_eqb}
use Rattle.std.proofs.lemmas.List.{length-append, take-append-le}
use Rattle.der_core.specs.declared.fault.Fault.{Fault}
use Rattle.der_core.specs.declared.fault.Kind.TheVariants.{Trailing}
use Rattle.der_core.specs.Element.{IsBytes, has_tag}
use Rattle.der_core.specs.Lists.{is_same}
use Rattle.der_core.specs.Reading.{fault, Spot, none_in}
use Rattle.der_core.specs.Results.{◌>>=◌}
use Rattle.cms_stream_laws.specs.OpenReading.{OpenSpot, body_of, closed, grown, lost, enter_openly, end_openly}
use Rattle.cms_stream_laws.specs.OpenReading.{OpenReader, OpenBody, within_openly}
use Rattle.cms_stream_laws.specs.OpenReading.{◌then_openly◌}
use Rattle.cms_stream_laws.specs.OpenReading.{whole_openly, made_openly, maybe_openly, last_openly, looked}
use Rattle.cms_stream_laws.specs.OpenReading.{switched_openly, kept, many_openly_from}
use Rattle.cms_stream_laws.specs.OpenReading.{many_openly}
use Rattle.cms_stream_laws.specs.OpenReading.{Stays, StaysBody}
use Rattle.cms_stream_laws.proofs.Switches.{Switched, left_of, right_of, rest_by}
use Rattle.cms_stream_laws.proofs.OpenLaws.{done, IsOpenReader, IsOpenBody, bytes_ahead, enter_went, inside_bytes}
use Rattle.cms_stream_laws.proofs.OpenLaws.{within_open}
use Rattle.cms_stream_laws.proofs.Steady.{EntersAlike, EnterStays, enter_stays}

abbrev pub IsSteady : {A : Type 0} → OpenReader A → Type 0
IsSteady openly = (w : OpenSpot) (more : List ℕ) → IsBytes w.rest → Stays (openly w) (openly (grown w more)) more

abbrev pub IsSteadyBody : {A : Type 0} → OpenBody A → Type 0
IsSteadyBody openly = (w : OpenSpot) (more : List ℕ) → IsBytes w.rest → StaysBody (openly w) (openly (grown w more))

abbrev Both : Type 0
Both = Result (OpenSpot × OpenSpot) Fault

module _ {A : Type 0} (tag : ℕ) (read : Spot → Result A Fault) (openly : OpenBody A) (law : IsOpenBody read openly)
    (steady : IsSteadyBody openly) where
  abbrev Got : Type 0
  Got = Result (A × OpenSpot) Fault

  abbrev inside : OpenSpot × OpenSpot → Got
  inside x = openly x.0 >>= λ a. Ok (a, x.1)

  -- the contents were read, or not
  by_contents : (more : List ℕ) (x y : OpenSpot × OpenSpot) → EntersAlike x y more → IsBytes x.0.rest
      → (r : Result A Fault) → openly x.0 ≡ r
      → StaysBody r (openly (grown x.0 more)) → Stays (r >>= λ a. Ok (a, x.1)) (inside y) more
  by_contents more x y k fits (Ok a) e h = rw (k.contents, h, k.behind (law.met x.0 a fits e)) refl
  by_contents more x y k fits (Err f) e (inl h) = inl h
  by_contents more x y k fits (Err f) e (inr h) = rw (k.contents, h) (inr refl)

  by_header : (w : OpenSpot) (more : List ℕ) → IsBytes w.rest → (r s : Both) → enter_openly tag w ≡ r
      → EnterStays r s more
      → Stays (r >>= inside) (s >>= inside) more
  by_header w more fits (Ok x) s e (y, is, k) =
      let b = inside_bytes w x (enter_went tag w x fits e) fits in
      rw is (by_contents more x y k b (openly x.0) refl (steady x.0 more b))
  by_header w more fits (Err f) s e (inl h) = inl h
  by_header w more fits (Err f) s e (inr h) = rw h (inr refl)

  pub within_steady : IsSteady (within_openly tag openly)
  within_steady w more fits =
      by_header w more fits (enter_openly tag w) (enter_openly tag (grown w more)) refl (enter_stays tag w more fits)

module _ {A B : Type 0} (first : Spot → Result (A × Spot) Fault) (first' : OpenReader A)
    (law : IsOpenReader first first') (steady : IsSteady first')
    (second' : OpenReader B) (steady' : IsSteady second') where
  abbrev Joined : Type 0
  Joined = Result ((A × B) × OpenSpot) Fault

  abbrev next : A × OpenSpot → Joined
  next x = second' x.1 >>= λ y. Ok ((x.0, y.0), y.1)

  abbrev pair_with : A → B × OpenSpot → Joined
  pair_with a y = Ok ((a, y.0), y.1)

  by_second : (a : A) (more : List ℕ) (r s : Result (B × OpenSpot) Fault) → Stays r s more
      → Stays (r >>= pair_with a) (s >>= pair_with a) more
  by_second a more (Ok y) s h = rw h refl
  by_second a more (Err f) s (inl h) = inl h
  by_second a more (Err f) s (inr h) = rw h (inr refl)

  by_first : (w : OpenSpot) (more : List ℕ) → IsBytes w.rest → (r s : Result (A × OpenSpot) Fault) → first' w ≡ r
      → Stays r s more
      → Stays (r >>= next) (s >>= next) more
  by_first w more fits (Ok x) s e h =
      rw h (by_second x.0 more (second' x.1) (second' (grown x.1 more))
      (steady' x.1 more (bytes_ahead w x.1 (law.went w x fits e) fits)))
  by_first w more fits (Err f) s e (inl h) = inl h
  by_first w more fits (Err f) s e (inr h) = rw h (inr refl)

  pub then_steady : IsSteady (first' then_openly second')
  then_steady w more fits = by_first w more fits (first' w) (first' (grown w more)) refl (steady w more fits)

abbrev ended : {A : Type 0} → A → Unit {0} → Result A Fault
ended a u = Ok a

end_stays : {A : Type 0} (a : A) (w : OpenSpot) (more : List ℕ)
    → StaysBody (end_openly w >>= ended a) (end_openly (grown w more) >>= ended a)
unfolding end_openly
end_stays a w more = by_left (eqb w.left 0) (w.rest) refl
  where
    by_left : (b : Bool) (xs : List ℕ) → w.rest ≡ xs
        → StaysBody (cond b (Ok tt) (cond (eqb (length w.rest) 0) (Err lost) (Err (fault Trailing w.pos))) >>= ended a)
        (cond b (Ok tt) (cond (eqb (length (w.rest ++ more)) 0) (Err lost) (Err (fault Trailing w.pos))) >>= ended a)
    by_left true xs e = refl
    by_left false [] e = rw e (inl refl)
    by_left false (x ∷ xs) e = rw (
      e,
      ne_eqb (length (x ∷ xs)) 0 (λ z. omega (arith, z)),
      ne_eqb (length (x ∷ xs ++ more)) 0 (λ z. omega (arith, z)),
    ) (inr refl)

module _ {A : Type 0} (parts' : OpenReader A) (steady : IsSteady parts') where
  by_parts : (more : List ℕ) (r s : Result (A × OpenSpot) Fault) → Stays r s more
      → StaysBody (r >>= λ x. end_openly x.1 >>= ended x.0) (s >>= λ x. end_openly x.1 >>= ended x.0)
  by_parts more (Ok x) s h = rw h (end_stays x.0 x.1 more)
  by_parts more (Err f) s (inl h) = inl h
  by_parts more (Err f) s (inr h) = rw h (inr refl)

  pub whole_steady : IsSteadyBody (whole_openly parts')
  whole_steady w more fits = by_parts more (parts' w) (parts' (grown w more)) (steady w more fits)

module _ {A B : Type 0} (to : A → B) (openly : OpenBody A) (steady : IsSteadyBody openly) where
  made_by : (r s : Result A Fault) → StaysBody r s → StaysBody (r >>= λ x. done (to x)) (s >>= λ x. done (to x))
  made_by (Ok x) s h = rw h refl
  made_by (Err f) s (inl h) = inl h
  made_by (Err f) s (inr h) = rw h (inr refl)

  pub made_steady : IsSteadyBody (made_openly to openly)
  made_steady w more fits = made_by (openly w) (openly (grown w more)) (steady w more fits)

pub kept_steady : {A : Type 0} (read : Spot → Result A Fault) → IsSteadyBody (kept read)
kept_steady {A} read w more fits = elim (cases_lt (length w.rest) w.left) [
  | inl lt ↦ rw (lt-ltb (length w.rest) w.left lt) (inl refl)
  | inr le ↦ rw (
    le-ltb (length w.rest) w.left le,
    le-ltb (length (w.rest ++ more)) w.left (omega (arith, le, length-append w.rest more)),
    take-append-le
        w.left w.rest more le,
  ) (alike (read (closed w)))
]
  where
    alike : (r : Result A Fault) → StaysBody r r
    alike (Ok x) = refl
    alike (Err f) = inr refl

-- ---- parts that may be absent

take_zero : (xs : List ℕ) → take 0 xs ≡ []
take_zero xs = refl

abbrev looked_stays : (A : Type 0) → OpenSpot → List ℕ → Result (A × OpenSpot) Fault → Result (A × OpenSpot) Fault
    → Type 0
looked_stays A w more r s = Stays (looked w r) (looked (grown w more) s) more

-- where an octet of the body is there, or none is left, the tag at the front is the same
pub front_stays : {A : Type 0} (w : OpenSpot) (more : List ℕ) (r s : Result (A × OpenSpot) Fault)
    → (body_of (grown w more) ≡ body_of w → Stays r s more)
    → ((x : ℕ) (xs ys : List ℕ) → body_of w ≡ x ∷ xs → body_of (grown w more) ≡ x ∷ ys → Stays r s more)
    → Stays (looked w r) (looked (grown w more) s) more
front_stays {A} w more r s none some = by_left (w.left) refl
  where
    by_rest : (n : ℕ) (xs : List ℕ) → w.left ≡ suc n → w.rest ≡ xs → Stays (looked w r) (looked (grown w more) s) more
    by_rest n [] e h = rw (e, h, ne_eqb (suc n) 0 (λ z. omega (arith, z))) (inl refl)
    by_rest n (x ∷ xs) e h =
        rw (
          e,
          h,
          ne_eqb (suc n) 0 (λ z. omega (arith, z)),
          ne_eqb (length (x ∷ xs)) 0 (λ z. omega (arith, z)),
          ne_eqb (length (x ∷ xs ++ more)) 0
              (λ z. omega (arith, z)),
        )
        (some x (take n xs) (take n (xs ++ more)) (ap (λ (k : ℕ). take k w.rest) e ∙ ap (take (suc n)) h)
        (ap (λ (k : ℕ). take k (w.rest ++ more)) e ∙ ap (λ (zs : List ℕ). take (suc n) (zs ++ more)) h))

    by_left : (n : ℕ) → w.left ≡ n → Stays (looked w r) (looked (grown w more) s) more
    by_left zero e =
        rw e (none (ap (λ (k : ℕ). take k (w.rest ++ more)) e ∙ take_zero (w.rest ++ more) ∙ sym (take_zero w.rest)
        ∙ sym (ap (λ (k : ℕ). take k w.rest) e)))
    by_left (suc n) e = by_rest n w.rest e refl

module _ {A : Type 0} (tag : ℕ) (read : Spot → Result A Fault) (openly : OpenBody A) (law : IsOpenBody read openly)
    (steady : IsSteadyBody openly) where
  abbrev Parted : Type 0
  Parted = Result (Option A × OpenSpot) Fault

  abbrev some_of : A × OpenSpot → Parted
  some_of x = Ok (Some x.0, x.1)

  abbrev none_of : OpenSpot → Parted
  none_of w = Ok (None, w)

  some_by : (more : List ℕ) (r s : Result (A × OpenSpot) Fault) → Stays r s more
      → Stays (r >>= some_of) (s >>= some_of) more
  some_by more (Ok x) s h = rw h refl
  some_by more (Err f) s (inl h) = inl h
  some_by more (Err f) s (inr h) = rw h (inr refl)

  present : (w : OpenSpot) (more : List ℕ) → IsBytes w.rest
      → Stays (within_openly tag openly w >>= some_of) (within_openly tag openly (grown w more) >>= some_of) more
  present w more fits = some_by more _ _ (within_steady tag read openly law steady w more fits)

  by_stands : (w : OpenSpot) (more : List ℕ) (b c : Bool) → b ≡ c → IsBytes w.rest → (r s : Parted) → Stays r s more
      → Stays (cond b (within_openly tag openly w >>= some_of) r)
      (cond c (within_openly tag openly (grown w more) >>= some_of) s) more
  by_stands w more true true e fits r s h = present w more fits
  by_stands w more true false e fits r s h = absurd cc
  by_stands w more false true e fits r s h = absurd cc
  by_stands w more false false e fits r s h = h

  pub maybe_steady : IsSteady (maybe_openly tag openly)
  maybe_steady w more fits =
      front_stays w more (cond (has_tag tag (body_of w)) (within_openly tag openly w >>= some_of) (none_of w))
      (cond (has_tag tag (body_of (grown w more))) (within_openly tag openly (grown w more) >>= some_of)
      (none_of (grown w more)))
      (λ same. by_stands w more (has_tag tag (body_of w)) (has_tag tag (body_of (grown w more)))
      (ap (has_tag tag) (sym same)) fits (none_of w)
      (none_of (grown w more)) refl)
      (λ x xs ys e h. by_stands w more (has_tag tag (body_of w)) (has_tag tag (body_of (grown w more)))
      (ap (has_tag tag) e ∙ sym (ap (has_tag tag) h)) fits
      (none_of w) (none_of (grown w more)) refl)

  abbrev nothing_more : OpenSpot → Parted
  nothing_more w = none_in (closed w) (body_of w) >>= λ u. none_of w

  alike : (r : Result (Unit {0}) Fault) (w : OpenSpot) (more : List ℕ)
      → Stays (r >>= λ u. none_of w) (r >>= λ u. none_of (grown w more)) more
  alike (Ok u) w more = refl
  alike (Err f) w more = inr refl

  at_front : (w : OpenSpot) (more : List ℕ) (xs ys : List ℕ) → body_of w ≡ xs → body_of (grown w more) ≡ ys
      → none_in (closed w) xs ≡ none_in (closed w) ys
      → Stays (nothing_more w) (nothing_more (grown w more)) more
  at_front w more xs ys e h same = rw (e, h, ← same) (alike (none_in (closed w) xs) w more)

  pub last_steady : IsSteady (last_openly tag openly)
  last_steady w more fits =
      front_stays w more (cond (has_tag tag (body_of w)) (within_openly tag openly w >>= some_of) (nothing_more w))
      (cond (has_tag tag (body_of (grown w more))) (within_openly tag openly (grown w more) >>= some_of)
      (nothing_more (grown w more)))
      (λ same. by_stands w more (has_tag tag (body_of w)) (has_tag tag (body_of (grown w more)))
      (ap (has_tag tag) (sym same)) fits (nothing_more w)
      (nothing_more (grown w more)) (at_front w more (body_of w) (body_of w) refl same refl))
      (λ x xs ys e h. by_stands w more (has_tag tag (body_of w)) (has_tag tag (body_of (grown w more)))
      (ap (has_tag tag) e ∙ sym (ap (has_tag tag) h)) fits
      (nothing_more w) (nothing_more (grown w more)) (at_front w more (x ∷ xs) (x ∷ ys) e h refl))

-- ---- lists

module _ {A : Type 0} (read : Spot → Result (A × Spot) Fault) (openly : OpenReader A) (law : IsOpenReader read openly)
    (steady : IsSteady openly) where
  abbrev Listed : Type 0
  Listed = Result (List A) Fault

  abbrev others : ℕ → A × OpenSpot → Listed
  others k x = many_openly_from openly k x.1 >>= λ xs. Ok (x.0 ∷ xs)

  abbrev with_first : A → List A → Listed
  with_first a xs = Ok (a ∷ xs)

  by_others : (a : A) (r s : Listed) → StaysBody r s → StaysBody (r >>= with_first a) (s >>= with_first a)
  by_others a (Ok xs) s h = rw h refl
  by_others a (Err f) s (inl h) = inl h
  by_others a (Err f) s (inr h) = rw h (inr refl)

  by_item : (k : ℕ) (w : OpenSpot) (more : List ℕ) → IsBytes w.rest
      → ((v : OpenSpot) → IsBytes v.rest
      → StaysBody (many_openly_from openly k v) (many_openly_from openly k (grown v more)))
      → (r s : Result (A × OpenSpot) Fault) → openly w ≡ r → Stays r s more
      → StaysBody (r >>= others k) (s >>= others k)
  by_item k w more fits same (Ok x) s e h =
      rw h (by_others x.0 (many_openly_from openly k x.1) (many_openly_from openly k (grown x.1 more))
      (same x.1 (bytes_ahead w x.1 (law.went w x fits e) fits)))
  by_item k w more fits same (Err f) s e (inl h) = inl h
  by_item k w more fits same (Err f) s e (inr h) = rw h (inr refl)

  by_left : (b : Bool) (w : OpenSpot) (more xs : List ℕ) → w.rest ≡ xs → (r s : Listed) → StaysBody r s
      → StaysBody (cond b (Ok []) (cond (eqb (length w.rest) 0) (Err lost) r))
      (cond b (Ok []) (cond (eqb (length (w.rest ++ more)) 0) (Err lost) s))
  by_left true w more xs e r s h = refl
  by_left false w more [] e r s h = rw e (inl refl)
  by_left false w more (x ∷ xs) e r s h =
      rw (
        e,
        ne_eqb (length (x ∷ xs)) 0 (λ z. omega (arith, z)),
        ne_eqb (length (x ∷ xs ++ more)) 0 (λ z. omega (arith, z)),
      ) h

  abbrev empty : Bool → Listed
  empty b = cond b (Ok []) (Err lost)

  none_left : (b : Bool) → StaysBody (empty b) (empty b)
  none_left true = refl
  none_left false = inl refl

  many_stays : (k : ℕ) (w : OpenSpot) (more : List ℕ) → IsBytes w.rest
      → StaysBody (many_openly_from openly k w) (many_openly_from openly k (grown w more))
  unfolding many_openly_from
  many_stays zero w more fits = none_left (eqb w.left 0)
  many_stays (suc k) w more fits =
      by_left (eqb w.left 0) w more w.rest refl (openly w >>= others k) (openly (grown w more) >>= others k)
      (by_item k w more fits (λ v f. many_stays k v more f) (openly w) (openly (grown w more)) refl
      (steady w more fits))

  pub many_steady : IsSteadyBody (many_openly openly)
  many_steady w more fits = many_stays w.left w more fits

-- ---- a body whose rest depends on its first element

module _ {A B : Type 0} (tag : ℕ) (inside : Spot → Result (List ℕ) Fault) (inside' : OpenBody (List ℕ))
    (law : IsOpenBody inside inside')
    (steady : IsSteadyBody inside')
    (these : List ℕ) (same' : OpenBody A) (steady-same : IsSteadyBody same') (other' : OpenBody B)
    (steady-other : IsSteadyBody other') where
  left_by : (r s : Result A Fault) → StaysBody r s → StaysBody (r >>= left_of A B) (s >>= left_of A B)
  left_by (Ok x) s h = rw h refl
  left_by (Err f) s (inl h) = inl h
  left_by (Err f) s (inr h) = rw h (inr refl)

  right_by : (id : List ℕ) (r s : Result B Fault) → StaysBody r s
      → StaysBody (r >>= right_of A B id) (s >>= right_of A B id)
  right_by id (Ok x) s h = rw h refl
  right_by id (Err f) s (inl h) = inl h
  right_by id (Err f) s (inr h) = rw h (inr refl)

  abbrev others_of : List ℕ × OpenSpot → Switched A B
  others_of = rest_by A B these same' other'

  by_which : (b : Bool) (id : List ℕ) (w : OpenSpot) (more : List ℕ) → IsBytes w.rest
      → StaysBody (cond b (same' w >>= left_of A B) (other' w >>= right_of A B id))
      (cond b (same' (grown w more) >>= left_of A B) (other' (grown w more) >>= right_of A B id))
  by_which true id w more fits = left_by (same' w) (same' (grown w more)) (steady-same w more fits)
  by_which false id w more fits = right_by id (other' w) (other' (grown w more)) (steady-other w more fits)

  by_id : (w : OpenSpot) (more : List ℕ) → IsBytes w.rest → (r s : Result (List ℕ × OpenSpot) Fault)
      → within_openly tag inside' w ≡ r → Stays r s more
      → StaysBody (r >>= others_of) (s >>= others_of)
  by_id w more fits (Ok x) s e h =
      rw h (by_which (is_same these x.0) x.0 x.1 more
      (bytes_ahead w x.1 ((within_open tag inside inside' law).went w x fits e) fits))
  by_id w more fits (Err f) s e (inl h) = inl h
  by_id w more fits (Err f) s e (inr h) = rw h (inr refl)

  pub switched_steady : IsSteadyBody (switched_openly tag inside' these same' other')
  switched_steady w more fits =
      by_id w more fits (within_openly tag inside' w) (within_openly tag inside' (grown w more)) refl
      (within_steady tag inside inside' law steady w more fits)
