-- What an open reading gives it gives whatever more octets come, unless it says that octets are missing.
use Rattle.std.proofs.Common.{◌≡◌, ℕ, zero, suc, ◌+◌, ◌-◌, ◌<◌, ◌≤◌, Bool, true, false, cond, ltb, eqb, List, [], ◌∷◌}
use Rattle.std.proofs.Common.{◌++◌, length, take, drop, Result, Ok}
use Rattle.std.proofs.Common.{Err, refl, sym, ap, subst, ◌∙◌, arith, inl, inr, ◌⊎◌}
use Rattle.std.proofs.lemmas.Bool.{cases_lt, ltb-false, lt-ltb, le-ltb, eqb-false}
use Rattle.std.proofs.lemmas.List.{length-append, length-take, length-drop, take-append-le, drop-append-le, append-nil}
use Rattle.std.proofs.Math.Seq.{take-append-add}
use Rattle.der_core.specs.declared.fault.Fault.{Fault}
use Rattle.der_core.specs.declared.fault.Kind.TheVariants.{End, HighTag, Indefinite, LengthForm, Tag}
use Rattle.der_core.specs.Element.{is_tag, IsBytes}
use Rattle.der_core.specs.Reading.{fault, number_from, begins_short, further_at, length_at, is_other}
use Rattle.der_core.specs.Results.{◌>>=◌}
use Rattle.der_core.proofs.ReadLengths.{IsBytes-take}
use Rattle.cms_stream_laws.specs.OpenReading.{OpenSpot, open_spot, body_of, is_short, grown, lost, is_end, judged}
use Rattle.cms_stream_laws.specs.OpenReading.{length_in, heading, entered, next_openly}
use Rattle.cms_stream_laws.specs.OpenReading.{enter_openly, IsMet}
use Rattle.cms_stream_laws.proofs.OpenLaws.{length_there, judged_ok}

-- a length, and the octets behind it, of more octets: the same, unless the octets ended
abbrev Length : Type 0
Length = Result (ℕ × List ℕ) Fault

abbrev pub LengthStays : Length → Length → List ℕ → Type 0
LengthStays (Ok l) r more = r ≡ Ok (l.0, l.1 ++ more)
LengthStays (Err f) r more = (is_end f.kind ≡ true) ⊎ (r ≡ Err f)

short_stays : (k x : ℕ) (xs more : List ℕ) → begins_short k (x ∷ xs ++ more) ≡ begins_short k (x ∷ xs)
short_stays k x xs more = refl

further_stays : (k n : ℕ) (xs more : List ℕ) → 0 < k
    → LengthStays (further_at k n xs) (further_at k n (xs ++ more)) more
unfolding further_at
further_stays k n [] more h = rw (lt-ltb 0 k h) (inl refl)
further_stays k n (x ∷ xs) more h = by_short (begins_short k (x ∷ xs)) refl
  where
    by_count : ((suc (length xs) < k) ⊎ (k ≤ suc (length xs)))
        → LengthStays (cond (ltb (suc (length xs)) k) (Err (fault End (n + 1 + suc (length xs))))
        (Ok (number_from 0 (take k (x ∷ xs)), drop k (x ∷ xs))))
        (cond (ltb (suc (length (xs ++ more))) k) (Err (fault End (n + 1 + suc (length (xs ++ more)))))
        (Ok (number_from 0 (take k (x ∷ xs ++ more)), drop k (x ∷ xs ++ more)))) more
    by_count (inl lt) = rw (lt-ltb _ k lt) (inl refl)
    by_count (inr le) =
        rw (
          le-ltb (suc (length xs)) k le,
          le-ltb (suc (length (xs ++ more))) k (omega (arith, le, length-append xs more)),
          take-append-le k (x ∷ xs) more le,
          drop-append-le k (x ∷ xs) more le,
        ) refl

    by_short : (b : Bool) → begins_short k (x ∷ xs) ≡ b
        → LengthStays (cond (begins_short k (x ∷ xs)) (Err (fault LengthForm n))
        (cond (ltb (suc (length xs)) k) (Err (fault End (n + 1 + suc (length xs))))
        (Ok (number_from 0 (take k (x ∷ xs)), drop k (x ∷ xs)))))
        (cond (begins_short k (x ∷ xs ++ more)) (Err (fault LengthForm n))
        (cond (ltb (suc (length (xs ++ more))) k) (Err (fault End (n + 1 + suc (length (xs ++ more)))))
        (Ok (number_from 0 (take k (x ∷ xs ++ more)), drop k (x ∷ xs ++ more))))) more
    by_short true e = rw (short_stays k x xs more, e) (inr refl)
    by_short false e = rw (short_stays k x xs more, e) (by_count (cases_lt (suc (length xs)) k))

length_stays : (n : ℕ) (xs more : List ℕ) → LengthStays (length_at n xs) (length_at n (xs ++ more)) more
unfolding length_at
length_stays n [] more = inl refl
length_stays n (x ∷ xs) more = by_first (ltb x 128) (eqb x 128) (ltb 132 x) refl refl
  where
    abbrev_read : Length
    abbrev_read = further_at (x - 128) n xs

    by_first : (a b c : Bool) → ltb x 128 ≡ a → eqb x 128 ≡ b
        → LengthStays (cond a (Ok (x, xs))
        (cond b (Err (fault Indefinite n)) (cond c (Err (fault LengthForm n)) (further_at (x - 128) n xs))))
        (cond a (Ok (x, xs ++ more)) (cond b (Err (fault Indefinite n))
        (cond c (Err (fault LengthForm n)) (further_at (x - 128) n (xs ++ more))))) more
    by_first true b c e h = refl
    by_first false true c e h = inr refl
    by_first false false true e h = inr refl
    by_first false false false e h = further_stays (x - 128) n xs more
        (let p = ltb-false x 128 e in let q = eqb-false x 128 h in omega (arith, p, q))

-- the length that an element at the front states
abbrev pub SizeStays : Result ℕ Fault → Result ℕ Fault → Type 0
SizeStays (Ok l) r = r ≡ Ok l
SizeStays (Err f) r = (is_end f.kind ≡ true) ⊎ (r ≡ Err f)

pub size_stays : (w : OpenSpot) (xs more : List ℕ) (v : OpenSpot) → v.pos ≡ w.pos
    → SizeStays (length_in w xs) (length_in v (xs ++ more))
size_stays w [] more v e = inl refl
size_stays w (t ∷ xs) more v e = rw e (by_identifier (is_tag t))
  where
    first_of : (r s : Length) → LengthStays r s more → SizeStays (r >>= λ l. Ok l.0) (s >>= λ l. Ok l.0)
    first_of (Ok l) s h = rw h refl
    first_of (Err f) s (inl h) = inl h
    first_of (Err f) s (inr h) = rw h (inr refl)

    by_identifier : (b : Bool)
        → SizeStays (cond b (length_at (w.pos + 1) xs >>= λ l. Ok l.0) (Err (fault HighTag w.pos)))
        (cond b (length_at (w.pos + 1) (xs ++ more) >>= λ l. Ok l.0) (Err (fault HighTag w.pos)))
    by_identifier true =
        first_of (length_at (w.pos + 1) xs) (length_at (w.pos + 1) (xs ++ more)) (length_stays (w.pos + 1) xs more)
    by_identifier false = inr refl

-- ---- the body with more octets behind

pub record Grows (w : OpenSpot) (more : List ℕ) : Type 0 where
  pub added : List ℕ
  pub is : body_of (grown w more) ≡ body_of w ++ added
  pub whole : is_short w ≡ false → added ≡ []

abbrev nothing : List ℕ
nothing = []

take_none : (n : ℕ) → take n nothing ≡ nothing
take_none zero = refl
take_none (suc n) = refl

pub grows : (w : OpenSpot) (more : List ℕ) → Grows w more
grows w more = elim (cases_lt (length w.rest) w.left) [
  | inr le ↦
      record { added = []; is = take-append-le w.left w.rest more le ∙ sym (append-nil (body_of w)); whole = λ h. refl }
  | inl lt ↦
      let k : ℕ = w.left - length w.rest in
      let is : length w.rest + k ≡ w.left = omega (arith, lt) in
      let all : take w.left w.rest
      ≡ w.rest = subst (λ (n : ℕ). take n w.rest ≡ w.rest) is
      (ap (take (length w.rest + k)) (sym (append-nil w.rest)) ∙ take-append-add w.rest [] k
      ∙ ap (λ (xs : List ℕ). w.rest ++ xs) (take_none k)
      ∙ append-nil w.rest) in
      let longer : take w.left (w.rest ++ more)
      ≡ w.rest ++ take k more =
      subst (λ (n : ℕ). take n (w.rest ++ more) ≡ w.rest ++ take k more) is (take-append-add w.rest more k) in
      record {
        added = take k more;
        is = longer
            ∙ ap (λ (xs : List ℕ). xs ++ take k more) (sym all);
        whole = λ h. absurd (let z = ltb-false (length w.rest) w.left h in omega (arith, z, lt));
      }
]

-- ---- the header of an element

abbrev Both : Type 0
Both = Result (OpenSpot × OpenSpot) Fault

-- the header is the same with more octets behind: the contents too, and what is behind where the element is whole
pub record EntersAlike (x y : OpenSpot × OpenSpot) (more : List ℕ) : Type 0 where
  pub contents : y.0 ≡ grown x.0 more
  pub behind : IsMet x.0 → y.1 ≡ grown x.1 more

abbrev pub EnterStays : Both → Both → List ℕ → Type 0
EnterStays (Ok x) r more = (y : OpenSpot × OpenSpot) × (r ≡ Ok y) × EntersAlike x y more
EnterStays (Err f) r more = (f ≡ lost) ⊎ (r ≡ Err f)

-- the header is there whole
entered_stays : (w : OpenSpot) (more : List ℕ) (l : ℕ) → heading l ≤ length w.rest
    → EnterStays (entered w l) (entered (grown w more) l) more
entered_stays w more l there = elim (cases_lt w.left (heading l + l)) [
  | inl lt ↦ rw (lt-ltb w.left (heading l + l) lt) (inr refl)
  | inr le ↦ rw (le-ltb w.left (heading l + l) le) (
    _,
    refl,
    record {
      contents = ap (open_spot l (w.pos + heading l)) (drop-append-le (heading l) w.rest more there);
      behind =
          λ met. ap (open_spot (w.left - (heading l + l)) (w.pos + (heading l + l)))
          (drop-append-le (heading l + l) w.rest more (omega (arith, there, met, length-drop (heading l) w.rest)));
    },
  )
]

abbrev pub JudgedStays : Result ℕ Fault → Result ℕ Fault → Type 0
JudgedStays (Ok l) r = r ≡ Ok l
JudgedStays (Err f) r = (f ≡ lost) ⊎ (r ≡ Err f)

abbrev no_size : Fault → Result ℕ Fault
no_size f = Err f

judged_stays : (w v : OpenSpot) (r s : Result ℕ Fault) → SizeStays r s → (is_short w ≡ false → s ≡ r)
    → (is_short w ≡ false → is_short v ≡ false)
    → JudgedStays (judged w r) (judged v s)
judged_stays w v (Ok l) s h same long = rw h refl
judged_stays w v (Err f) s h same long = by_short (is_short w) refl
  where
    by_v : is_end f.kind ≡ false → (b : Bool)
        → cond b (cond (is_end f.kind) (no_size lost) (no_size f)) (no_size f) ≡ no_size f
    by_v e true = rw e refl
    by_v e false = refl

    by_kind : (e : Bool) → is_end f.kind ≡ e → JudgedStays (cond e (Err lost) (Err f)) (judged v s)
    by_kind true is = inl refl
    by_kind false is = elim h [
      | inl g ↦ absurd (let a = sym is in let b = g in cc)
      | inr g ↦ rw g (inr (by_v is (is_short v)))
    ]

    by_short : (b : Bool) → is_short w ≡ b
        → JudgedStays (cond b (cond (is_end f.kind) (Err lost) (Err f)) (Err f)) (judged v s)
    by_short true is = by_kind (is_end f.kind) refl
    by_short false is = rw (same is) (inr (rw (long is) refl))

pub grown_long : (w : OpenSpot) (more : List ℕ) → is_short w ≡ false → is_short (grown w more) ≡ false
grown_long w more h = let le = ltb-false (length w.rest) w.left h in
    le-ltb (length (w.rest ++ more)) w.left (omega (arith, le, length-append w.rest more))

heading_there : (w : OpenSpot) (xs : List ℕ) (l : ℕ) → IsBytes w.rest → judged w (length_in w (body_of w)) ≡ Ok l
    → heading l ≤ length w.rest
heading_there w xs l fits e =
    let h = length_there w (body_of w) l (IsBytes-take w.left w.rest fits) (judged_ok w _ l e) in
    omega (arith, h, length-take w.left w.rest)

-- of whatever tag
pub next_stays : (w : OpenSpot) (more : List ℕ) → IsBytes w.rest
    → EnterStays (next_openly w) (next_openly (grown w more)) more
next_stays w more fits = sized (judged w (length_in w (body_of w))) _ refl judgment
  where
    sized : (r s : Result ℕ Fault) → judged w (length_in w (body_of w)) ≡ r → JudgedStays r s
        → EnterStays (r >>= entered w) (s >>= entered (grown w more)) more
    sized (Ok l) s e h = rw h (entered_stays w more l (heading_there w (body_of w) l fits e))
    sized (Err f) s e (inl h) = inl h
    sized (Err f) s e (inr h) = rw h (inr refl)

    same_size : is_short w ≡ false → length_in (grown w more) (body_of (grown w more)) ≡ length_in w (body_of w)
    same_size h =
        let g = grows w more in
        let is : body_of (grown w more) ≡ body_of w = g.is ∙ ap (λ (xs : List ℕ). body_of w ++ xs) (g.whole h)
        ∙ append-nil (body_of w) in
        ap (length_in (grown w more)) is ∙ at_pos (body_of w)
      where
        at_pos : (xs : List ℕ) → length_in (grown w more) xs ≡ length_in w xs
        at_pos [] = refl
        at_pos (x ∷ xs) = refl

    judgment : JudgedStays (judged w (length_in w (body_of w)))
        (judged (grown w more) (length_in (grown w more) (body_of (grown w more))))
    judgment =
        let g = grows w more in
        judged_stays w (grown w more) (length_in w (body_of w)) (length_in (grown w more) (body_of (grown w more)))
        (subst (λ (xs : List ℕ). SizeStays (length_in w (body_of w)) (length_in (grown w more) xs)) (sym g.is)
        (size_stays w (body_of w) g.added (grown w more) refl))
        same_size (grown_long w more)

pub enter_stays : (tag : ℕ) (w : OpenSpot) (more : List ℕ) → IsBytes w.rest
    → EnterStays (enter_openly tag w) (enter_openly tag (grown w more)) more
unfolding enter_openly
enter_stays tag w more fits = by_body (body_of w) refl
  where
    by_tag : (a b : Bool) → a ≡ b
        → EnterStays (cond a (Err (fault Tag w.pos)) (next_openly w))
        (cond b (Err (fault Tag w.pos)) (next_openly (grown w more))) more
    by_tag true true e = inr refl
    by_tag true false e = absurd cc
    by_tag false true e = absurd cc
    by_tag false false e = next_stays w more fits

    same_body : is_short w ≡ false → body_of w ≡ body_of (grown w more)
    same_body h =
        let g = grows w more in sym (g.is ∙ ap (λ (xs : List ℕ). body_of w ++ xs) (g.whole h) ∙ append-nil (body_of w))

    by_missing : (b : Bool) → is_short w ≡ b → body_of w ≡ []
        → EnterStays
        (cond (is_other tag (body_of w)) (Err (fault Tag w.pos)) (judged w (length_in w (body_of w)) >>= entered w))
        (cond (is_other tag (body_of (grown w more))) (Err (fault Tag w.pos))
        (judged (grown w more) (length_in (grown w more) (body_of (grown w more))) >>= entered (grown w more))) more
    by_missing true s e = rw (e, s) (inl refl)
    by_missing false s e =
        by_tag (is_other tag (body_of w)) (is_other tag (body_of (grown w more))) (ap (is_other tag) (same_body s))

    by_body : (xs : List ℕ) → body_of w ≡ xs
        → EnterStays
        (cond (is_other tag (body_of w)) (Err (fault Tag w.pos)) (judged w (length_in w (body_of w)) >>= entered w))
        (cond (is_other tag (body_of (grown w more))) (Err (fault Tag w.pos))
        (judged (grown w more) (length_in (grown w more) (body_of (grown w more))) >>= entered (grown w more))) more
    by_body [] e = by_missing (is_short w) refl e
    by_body (x ∷ xs) e =
        by_tag (is_other tag (body_of w)) (is_other tag (body_of (grown w more)))
        (ap (is_other tag) e
        ∙ sym (ap (is_other tag) ((grows w more).is ∙ ap (λ (zs : List ℕ). zs ++ (grows w more).added) e)))
