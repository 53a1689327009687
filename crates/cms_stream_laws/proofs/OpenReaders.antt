-- Open readings give what the readings of slices give, where the body is whole.
use Rattle.std.proofs.Common.{◌≡◌, ℕ, ◌+◌, ◌-◌, ◌≤◌, Bool, true, false, cond, List, [], ◌∷◌, ◌++◌, length, take, drop}
use Rattle.std.proofs.Common.{Result, Ok, Err, refl, sym, ap, subst}
use Rattle.std.proofs.Common.{◌∙◌, arith, inl, inr}
use Rattle.std.proofs.lemmas.Bool.{cases_lt, lt-ltb, le-ltb}
use Rattle.std.proofs.lemmas.List.{drop_at, length-take-le, length-append, length-drop, take-take, drop-drop, drop-take}
use Rattle.der_core.specs.declared.fault.Fault.{Fault}
use Rattle.der_core.specs.declared.fault.Kind.TheVariants.{Tag}
use Rattle.der_core.specs.Element.{is_tag, len, IsBytes}
use Rattle.der_core.specs.Reading.{fault, Spot, spot, Taken, body_at, element_in, next_at, expect_at, enter_at}
use Rattle.der_core.specs.Reading.{length_at, is_other}
use Rattle.der_core.specs.Results.{◌>>=◌}
use Rattle.der_core.proofs.ReadLengths.{IsBytes-tail, IsBytes-take, length_takes}
use Rattle.cms_stream_laws.specs.OpenReading.{OpenSpot, body_of, closed, is_short, judged, length_in, heading, entered}
use Rattle.cms_stream_laws.specs.OpenReading.{next_openly, enter_openly, IsMet}

-- ---- the contents of a body that is whole

-- a result seen otherwise
abbrev pub both : OpenSpot × OpenSpot → Result (Spot × Spot) Fault
both x = Ok (closed x.0, closed x.1)

abbrev pub inner : Taken × Spot → Result (Spot × Spot) Fault
inner x = Ok (spot (x.1.pos - length x.0.body) x.0.body, x.1)

-- spots are the same by their parts
spot_is : (m n : ℕ) (xs ys : List ℕ) → m ≡ n → xs ≡ ys → spot m xs ≡ spot n ys
spot_is m n xs ys e h = ap (λ (k : ℕ). spot k xs) e ∙ ap (spot n) h

abbrev inner_ok : Spot → Spot → Result (Spot × Spot) Fault
inner_ok a b = Ok (a, b)

pair_is : (a b c d : Spot) → a ≡ c → b ≡ d → inner_ok a b ≡ inner_ok c d
pair_is a b c d e h = ap (λ (z : Spot). inner_ok z b) e ∙ ap (inner_ok c) h

-- of a whole body: its first octets, and those behind them
pub take_body : (n m left : ℕ) (xs : List ℕ) → n + m ≤ left → take m (drop n (take left xs)) ≡ take m (drop n xs)
take_body n m left xs h =
    let k : ℕ = left - n in
    let is : n + k ≡ left = omega arith in
    let e : drop n (take left xs) ≡ take k (drop n xs) =
    subst (λ (j : ℕ). drop n (take j xs) ≡ take k (drop n xs)) is (drop-take n k xs) in
    ap (take m) e ∙ take-take m k (drop n xs) (omega arith)

pub drop_body : (n left : ℕ) (xs : List ℕ) → n ≤ left → drop n (take left xs) ≡ take (left - n) (drop n xs)
drop_body n left xs h =
    let k : ℕ = left - n in
    let is : n + k ≡ left = omega arith in
    subst (λ (j : ℕ). drop n (take j xs) ≡ take k (drop n xs)) is (drop-take n k xs)

-- the header stands, and states l
entered_same : (w : OpenSpot) (t l : ℕ) (r : List ℕ) → IsMet w → body_of w ≡ t ∷ (len l ++ r)
    → (body_at (closed w) t (l, r) >>= inner) ≡ (entered w l >>= both)
entered_same w t l r met is =
    let c : ℕ = heading l in
    let all : List ℕ = body_of w in
    let whole : length all ≡ w.left = length-take-le w.left w.rest met in
    let size : length all ≡ c + length r = ap length is ∙ omega (arith, length-append (len l) r) in
    let tail : drop c all ≡ r = ap (drop c) is ∙ drop_at (t ∷ len l) r c (omega arith) in
    elim (cases_lt w.left (c + l)) [
      | inl lt ↦ rw (lt-ltb w.left (c + l) lt, lt-ltb (length r) l (omega (arith, whole, size))) refl
      | inr le ↦
          let enough : l ≤ length r = omega (arith, whole, size) in
          let dropped : length (drop l r) ≡ length r - l = length-drop l r in
          let took : length (take l r) ≡ l = length-take-le l r enough in
          let front : take l r ≡ take l (drop c w.rest) = ap (take l) (sym tail) ∙ take_body c l w.left w.rest le in
          let back : drop l r ≡ take (w.left - (c + l)) (drop (c + l) w.rest) =
          ap (drop l) (sym tail) ∙ drop-drop l c all ∙ drop_body (c + l) w.left w.rest le in
          let at : w.pos + (length all - length (drop l r)) ≡ w.pos + (c + l) = omega (arith, size, dropped, enough) in
          let at-inner : w.pos + (length all - length (drop l r)) - length (take l r) ≡ w.pos + c =
          omega (arith, size, dropped, enough, took) in
          rw (le-ltb w.left (c + l) le, le-ltb (length r) l enough)
          (pair_is _ _ _ _ (spot_is _ _ _ _ at-inner front) (spot_is _ _ _ _ at back))
    ]

not_short : (w : OpenSpot) → IsMet w → is_short w ≡ false
not_short w met = le-ltb (length w.rest) w.left met

judged_met : {A : Type 0} (w : OpenSpot) (r : Result A Fault) → IsMet w → judged w r ≡ r
judged_met w (Ok x) met = refl
judged_met w (Err f) met = rw (not_short w met) refl

abbrev Length : Type 0
Length = Result (ℕ × List ℕ) Fault

-- a length that is read, seen apart
read_same : (w : OpenSpot) (t : ℕ) (ys : List ℕ) (read : Length) → IsMet w → IsBytes ys → body_of w ≡ t ∷ ys
    → length_at (w.pos + 1) ys ≡ read
    → ((read >>= body_at (closed w) t) >>= inner) ≡ (((read >>= λ l. Ok l.0) >>= entered w) >>= both)
read_same w t ys (Err f) met fits is e = refl
read_same w t ys (Ok l) met fits is e =
    entered_same w t l.0 l.1 met (is ∙ ap (λ (zs : List ℕ). t ∷ zs) (length_takes (w.pos + 1) ys l.0 l.1 fits e).0)

element_same : (w : OpenSpot) (xs : List ℕ) → IsMet w → IsBytes xs → body_of w ≡ xs
    → (element_in (closed w) xs >>= inner) ≡ ((length_in w xs >>= entered w) >>= both)
element_same w [] met fits is = refl
element_same w (t ∷ ys) met fits is = by_identifier (is_tag t) refl
  where
    by_identifier : (b : Bool) → is_tag t ≡ b
        → (element_in (closed w) (t ∷ ys) >>= inner) ≡ ((length_in w (t ∷ ys) >>= entered w) >>= both)
    by_identifier true id = rw id (read_same w t ys (length_at (w.pos + 1) ys) met (IsBytes-tail t ys fits) is refl)
    by_identifier false id = rw id refl

-- whatever its tag
pub next_same : (w : OpenSpot) → IsMet w → IsBytes w.rest → (next_at (closed w) >>= inner) ≡ (next_openly w >>= both)
unfolding next_at
next_same w met fits = rw (judged_met w (length_in w (body_of w)) met)
    (element_same w (body_of w) met (IsBytes-take w.left w.rest fits) refl)

pub enter_same : (tag : ℕ) (w : OpenSpot) → IsMet w → IsBytes w.rest
    → enter_at tag (closed w) ≡ (enter_openly tag w >>= both)
unfolding enter_at expect_at next_at enter_openly
enter_same tag w met fits = by_tag (is_other tag (body_of w)) refl
  where
    by_tag : (b : Bool) → is_other tag (body_of w) ≡ b
        → (cond b (Err (fault Tag w.pos)) (element_in (closed w) (body_of w)) >>= inner)
        ≡ (cond b (Err (fault Tag w.pos)) (judged w (length_in w (body_of w)) >>= entered w) >>= both)
    by_tag true e = refl
    by_tag false e = rw (judged_met w (length_in w (body_of w)) met)
        (element_same w (body_of w) met (IsBytes-take w.left w.rest fits) refl)
