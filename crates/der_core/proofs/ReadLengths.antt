-- A length that is read is the length that is there, and a length that is there is read.
use Rattle.std.proofs.Common.{◌≡◌, ℕ, zero, suc, ◌+◌, ◌*◌, ◌-◌, ◌/◌, ◌%◌, ◌^◌, ◌<◌, ◌≤◌, Bool, true, false, cond, ltb}
use Rattle.std.proofs.Common.{eqb, List, [], ◌∷◌, ◌++◌, length, take}
use Rattle.std.proofs.Common.{drop, Result, Ok, Err, refl, sym, ap, subst, ◌∙◌, arith, inl, inr, ◌⊎◌}
use Rattle.std.proofs.lemmas.Bool.{cases_lt, ltb-true, ltb-false, lt-ltb, le-ltb, eqb-false, ne_eqb}
use Rattle.std.proofs.lemmas.List.{take_at, drop_at, take-append-drop, length-take, length-take-le, length-append}
use Rattle.std.proofs.lemmas.List.{get_or-drop, get_or-take, get_or_past}
use Rattle.der_core.specs.declared.fault.Fault.{Fault}
use Rattle.der_core.specs.declared.fault.Kind.TheVariants.{End, Indefinite, LengthForm}
use Rattle.der_core.specs.Element.{len, IsBytes}
use Rattle.der_core.specs.Reading.{fault, number_from, begins_short, further_at, length_at}

pub len_0 : (a : ℕ) → a < 128 → len a ≡ a ∷ []
unfolding len
len_0 a h = rw (lt-ltb a 128 h) refl

pub len_1 : (a : ℕ) → 128 ≤ a → a < 256 → len a ≡ 129 ∷ a ∷ []
unfolding len
len_1 a h k = let e : a % 256 ≡ a = omega arith in rw (le-ltb a 128 h, lt-ltb a 256 k, e) refl

pub len_2 : (a b : ℕ) → 0 < a → a < 256 → b < 256 → len (256 * a + b) ≡ 130 ∷ a ∷ b ∷ []
unfolding len
len_2 a b p h k =
    let n : ℕ = 256 * a + b in
    let e : n / 256 % 256 ≡ a = omega arith in
    let f : n % 256 ≡ b = omega arith in
    rw (le-ltb n 128 (omega arith), le-ltb n 256 (omega arith), lt-ltb n 65536 (omega arith), e, f) refl

pub len_3 : (a b c : ℕ) → 0 < a → a < 256 → b < 256 → c < 256 → len (256 * (256 * a + b) + c) ≡ 131 ∷ a ∷ b ∷ c ∷ []
unfolding len
len_3 a b c p h k m =
    let n : ℕ = 256 * (256 * a + b) + c in
    let e : n / 256 / 256 % 256 ≡ a = omega arith in
    let f : n / 256 % 256 ≡ b = omega arith in
    let g : n % 256 ≡ c = omega arith in
    rw (
      le-ltb n 128 (omega arith),
      le-ltb n 256 (omega arith),
      le-ltb n 65536 (omega arith),
      lt-ltb n 16777216 (omega arith),
      e,
      f,
      g,
    ) refl

pub len_4 : (a b c d : ℕ) → 0 < a → a < 256 → b < 256 → c < 256 → d < 256
    → len (256 * (256 * (256 * a + b) + c) + d) ≡ 132 ∷ a ∷ b ∷ c ∷ d ∷ []
unfolding len
len_4 a b c d p h k m q =
    let n : ℕ = 256 * (256 * (256 * a + b) + c) + d in
    let e : n / 256 / 256 / 256 % 256 ≡ a = omega arith in
    let f : n / 256 / 256 % 256 ≡ b = omega arith in
    let g : n / 256 % 256 ≡ c = omega arith in
    let i : n % 256 ≡ d = omega arith in
    rw (
      le-ltb n 128 (omega arith),
      le-ltb n 256 (omega arith),
      le-ltb n 65536 (omega arith),
      le-ltb n 16777216 (omega arith),
      e,
      f,
      g,
      i,
    ) refl

-- ---- results

pub guard_ok : {A : Type 0} (b : Bool) (d : Fault) (x y : A) → cond b (Err d) (Ok x) ≡ Ok y → (b ≡ false) × (x ≡ y)
guard_ok true d x y e = absurd cc
guard_ok false d x y e = (refl, cc)

-- which way a test went
pub chosen : {A : Type 0} (b : Bool) (x y z : A) → cond b x y ≡ z → ((b ≡ true) × (x ≡ z)) ⊎ ((b ≡ false) × (y ≡ z))
chosen true x y z e = inl (refl, e)
chosen false x y z e = inr (refl, e)

abbrev Read : Type 0
Read = Result (ℕ × List ℕ) Fault

abbrev ok : ℕ → List ℕ → Read
ok l r = Ok (l, r)

abbrev pub done : {A : Type 0} → A → Result A Fault
done x = Ok x

pub ok_is : {A : Type 0} (x y : A) → done x ≡ done y → x ≡ y
ok_is x y e = cc

pub ok_fst : {A B : Type 0} (x y : A × B) → done x ≡ done y → x.0 ≡ y.0
ok_fst {A} {B} x y e = ap (λ (p : A × B). p.0) (ok_is x y e)

pub ok_snd : {A B : Type 0} (x y : A × B) → done x ≡ done y → x.1 ≡ y.1
ok_snd {A} {B} x y e = ap (λ (p : A × B). p.1) (ok_is x y e)

further_ok : (k n : ℕ) (xs : List ℕ) (l : ℕ) (r : List ℕ) → further_at k n xs ≡ Ok (l, r)
    → (k ≤ length xs) × (begins_short k xs ≡ false) × (number_from 0 (take k xs) ≡ l) × (drop k xs ≡ r)
unfolding further_at
further_ok k n xs l r e =
    let rest : Read =
    cond (ltb (length xs) k) (Err (fault End (n + 1 + length xs))) (ok (number_from 0 (take k xs)) (drop k xs)) in
    elim (chosen (begins_short k xs) (Err (fault LengthForm n)) rest (ok l r) e) [
      | inl h ↦ absurd cc
      | inr h ↦ elim (chosen (ltb (length xs) k) (Err (fault End (n + 1 + length xs)))
          (ok (number_from 0 (take k xs)) (drop k xs)) (ok l r) h.1) [
            | inl g ↦ absurd cc
            | inr g ↦ (
              ltb-false _ _ g.0,
              h.0,
              ok_fst (number_from 0 (take k xs), drop k xs) (l, r) g.1,
              ok_snd (number_from 0 (take k xs), drop k xs) (l, r) g.1,
            )
          ]
    ]

-- whether k octets begin short depends on the first of them only
short_front : (k : ℕ) (xs : List ℕ) → 0 < k → begins_short k (take k xs) ≡ begins_short k xs
short_front zero xs h = absurd (omega arith)
short_front (suc k) [] h = refl
short_front (suc k) (x ∷ xs) h = refl

-- further octets that don't begin short are the length octets of their number
not_zero : (a : ℕ) → (a ≡ 0 → ⊥) → 0 < a
not_zero zero h = absurd (h refl)
not_zero (suc a) h = omega arith

front_len : (k : ℕ) (front : List ℕ) → length front ≡ k → k ≤ 4 → 0 < k → IsBytes front → begins_short k front ≡ false
    → (len (number_from 0 front) ≡ (128 + k) ∷ front) × (number_from 0 front < 2 ^ 32)
front_len k [] e le pos fits h = absurd (omega arith)
front_len k (a ∷ []) e le pos fits h =
    let k-is : k ≡ 1 = sym e in
    let least : 128 ≤ a = ltb-false a 128 (subst (λ (m : ℕ). begins_short m (a ∷ []) ≡ false) k-is h) in
    let f0 = fits 0 in
    let n-is : number_from 0 (a ∷ []) ≡ a = omega arith in
    (rw (k-is, n-is) (len_1 a least f0), omega arith)
front_len k (a ∷ b ∷ []) e le pos fits h =
    let k-is : k ≡ 2 = sym e in
    let least : 0 < a = not_zero a (eqb-false a 0 (subst (λ (m : ℕ). begins_short m (a ∷ b ∷ []) ≡ false) k-is h)) in
    let f0 = fits 0 in let f1 = fits 1 in
    let n-is : number_from 0 (a ∷ b ∷ []) ≡ 256 * a + b = omega arith in
    (rw (k-is, n-is) (len_2 a b least f0 f1), omega arith)
front_len k (a ∷ b ∷ c ∷ []) e le pos fits h =
    let k-is : k ≡ 3 = sym e in
    let least : 0 < a =
    not_zero a (eqb-false a 0 (subst (λ (m : ℕ). begins_short m (a ∷ b ∷ c ∷ []) ≡ false) k-is h)) in
    let f0 = fits 0 in let f1 = fits 1 in let f2 = fits 2 in
    let n-is : number_from 0 (a ∷ b ∷ c ∷ []) ≡ 256 * (256 * a + b) + c = omega arith in
    (rw (k-is, n-is) (len_3 a b c least f0 f1 f2), omega arith)
front_len k (a ∷ b ∷ c ∷ d ∷ []) e le pos fits h =
    let k-is : k ≡ 4 = sym e in
    let least : 0 < a =
    not_zero a (eqb-false a 0 (subst (λ (m : ℕ). begins_short m (a ∷ b ∷ c ∷ d ∷ []) ≡ false) k-is h)) in
    let f0 = fits 0 in let f1 = fits 1 in let f2 = fits 2 in let f3 = fits 3 in
    let n-is : number_from 0 (a ∷ b ∷ c ∷ d ∷ []) ≡ 256 * (256 * (256 * a + b) + c) + d = omega arith in
    (rw (k-is, n-is) (len_4 a b c d least f0 f1 f2 f3), omega arith)
front_len k (a ∷ b ∷ c ∷ d ∷ x ∷ xs) e le pos fits h = absurd (omega arith)

pub IsBytes-drop : (n : ℕ) (bytes : List ℕ) → IsBytes bytes → IsBytes (drop n bytes)
IsBytes-drop n bytes h i = rw get_or-drop (h (n + i))

pub IsBytes-take : (n : ℕ) (bytes : List ℕ) → IsBytes bytes → IsBytes (take n bytes)
IsBytes-take n bytes h i =
    elim (cases_lt i n) [
      | inl lt ↦ rw (get_or-take n bytes i 0 lt) (h i)
      | inr le ↦ rw (get_or_past (take n bytes) i 0 (omega (arith, length-take n bytes))) (omega arith)
    ]

pub IsBytes-tail : (x : ℕ) (xs : List ℕ) → IsBytes (x ∷ xs) → IsBytes xs
IsBytes-tail x xs h i = h (suc i)

-- what is read as a length is one
pub length_takes : (n : ℕ) (xs : List ℕ) (l : ℕ) (r : List ℕ) → IsBytes xs → length_at n xs ≡ Ok (l, r)
    → (xs ≡ len l ++ r) × (l < 2 ^ 32)
unfolding length_at
length_takes n [] l r fits e = absurd cc
length_takes n (x ∷ xs) l r fits e =
    let rest : Read = cond (eqb x 128) (Err (fault Indefinite n))
    (cond (ltb 132 x) (Err (fault LengthForm n)) (further_at (x - 128) n xs)) in
    elim (chosen (ltb x 128) (ok x xs) rest (ok l r) e) [
      | inl h ↦
          let lt : x < 128 = ltb-true _ _ h.0 in
          let l-is : x ≡ l = ok_fst (x, xs) (l, r) h.1 in
          let r-is : xs ≡ r = ok_snd (x, xs) (l, r) h.1 in
          (rw (← l-is, ← r-is, len_0 x lt) refl, omega arith)
      | inr h ↦ elim (chosen (eqb x 128) (Err (fault Indefinite n))
          (cond (ltb 132 x) (Err (fault LengthForm n)) (further_at (x - 128) n xs)) (ok l r) h.1) [
            | inl g ↦ absurd cc
            | inr g ↦ elim (chosen (ltb 132 x) (Err (fault LengthForm n)) (further_at (x - 128) n xs) (ok l r) g.1) [
              | inl m ↦ absurd cc
              | inr m ↦
                  let low : 128 ≤ x = ltb-false _ _ h.0 in
                  let high : x ≤ 132 = ltb-false _ _ m.0 in
                  let k : ℕ = x - 128 in
                  let p = further_ok k n xs l r m.1 in
                  let some : 0 < k = omega (arith, eqb-false _ _ g.0) in
                  let q = front_len k (take k xs) (length-take-le k xs p.0) (omega arith) some
                  (IsBytes-take k xs (IsBytes-tail x xs fits))
                  (short_front k xs some ∙ p.1) in
                  let x-is : 128 + k ≡ x = omega arith in
                  let whole : len l ≡ x ∷ take k xs = ap len (sym p.2) ∙ q.0 ∙ ap (λ (m : ℕ). m ∷ take k xs) x-is in (
                    rw (whole, ← p.3) (ap (λ (ys : List ℕ). x ∷ ys) (sym (take-append-drop k xs))),
                    subst (λ (m : ℕ). m < 2 ^ 32) p.2 q.1,
                  )
            ]
          ]
    ]

-- ---- a length that is there is read

short_more : (k : ℕ) (front r : List ℕ) → 0 < length front → begins_short k (front ++ r) ≡ begins_short k front
short_more k [] r h = absurd (omega arith)
short_more k (x ∷ xs) r h = refl

further_again : (k n : ℕ) (front r : List ℕ) (l : ℕ) → length front ≡ k → 0 < k → begins_short k front ≡ false
    → number_from 0 front ≡ l
    → further_at k n (front ++ r) ≡ Ok (l, r)
unfolding further_at
further_again k n front r l e pos least is =
    let shown : begins_short k (front ++ r) ≡ false = short_more k front r (omega arith) ∙ least in
    rw (
      shown,
      le-ltb (length (front ++ r)) k (omega (arith, length-append front r)),
      take_at front r k e,
      drop_at front r k e,
      is,
    ) refl

again_1 : (n a : ℕ) (r : List ℕ) → 128 ≤ a → a < 256 → length_at n (len a ++ r) ≡ Ok (a, r)
unfolding length_at
again_1 n a r h k = rw (len_1 a h k) (further_again 1 n (a ∷ []) r a refl (omega arith) (le-ltb a 128 h) (omega arith))

again_2 : (n a b : ℕ) (r : List ℕ) → 0 < a → a < 256 → b < 256
    → length_at n (len (256 * a + b) ++ r) ≡ Ok (256 * a + b, r)
unfolding length_at
again_2 n a b r p h k = rw (len_2 a b p h k) (further_again 2 n (a ∷ b ∷ []) r (256 * a + b) refl (omega arith)
    (ne_eqb a 0 (λ z. omega (arith, z, p))) (omega arith))

again_3 : (n a b c : ℕ) (r : List ℕ) → 0 < a → a < 256 → b < 256 → c < 256
    → length_at n (len (256 * (256 * a + b) + c) ++ r) ≡ Ok (256 * (256 * a + b) + c, r)
unfolding length_at
again_3 n a b c r p h k m =
    rw (len_3 a b c p h k m) (further_again 3 n (a ∷ b ∷ c ∷ []) r (256 * (256 * a + b) + c) refl (omega arith)
    (ne_eqb a 0 (λ z. omega (arith, z, p))) (omega arith))

again_4 : (n a b c d : ℕ) (r : List ℕ) → 0 < a → a < 256 → b < 256 → c < 256 → d < 256
    → length_at n (len (256 * (256 * (256 * a + b) + c) + d) ++ r) ≡ Ok (256 * (256 * (256 * a + b) + c) + d, r)
unfolding length_at
again_4 n a b c d r p h k m q =
    rw (len_4 a b c d p h k m q) (further_again 4 n (a ∷ b ∷ c ∷ d ∷ []) r (256 * (256 * (256 * a + b) + c) + d) refl
    (omega arith) (ne_eqb a 0 (λ z. omega (arith, z, p))) (omega arith))

again_0 : (n a : ℕ) (r : List ℕ) → a < 128 → length_at n (len a ++ r) ≡ Ok (a, r)
unfolding length_at
again_0 n a r h = rw (len_0 a h, lt-ltb a 128 h) refl

Again : ℕ → List ℕ → ℕ → Type 0
Again n r l = length_at n (len l ++ r) ≡ Ok (l, r)

-- a length that is there is read
pub length_again : (n l : ℕ) (r : List ℕ) → l < 2 ^ 32 → length_at n (len l ++ r) ≡ Ok (l, r)
unfolding Again
length_again n l r h =
    elim (cases_lt l 128) [
      | inl a ↦ again_0 n l r a
      | inr a ↦ elim (cases_lt l 256) [
        | inl b ↦ again_1 n l r a b
        | inr b ↦ elim (cases_lt l 65536) [
          | inl c ↦ let e : 256 * (l / 256) + l % 256 ≡ l = omega arith in
              subst (Again n r) e (again_2 n (l / 256) (l % 256) r (omega arith) (omega arith) (omega arith))
          | inr c ↦ elim (cases_lt l 16777216) [
            | inl d ↦ let e : 256 * (256 * (l / 65536) + l / 256 % 256) + l % 256 ≡ l = omega arith in
                subst (Again n r) e (again_3 n (l / 65536) (l / 256 % 256) (l % 256) r (omega arith) (omega arith)
                (omega arith) (omega arith))
            | inr d ↦ let e : 256 * (256 * (256 * (l / 16777216) + l / 65536 % 256) + l / 256 % 256) + l % 256 ≡ l =
                omega arith in
                subst (Again n r) e (again_4 n (l / 16777216) (l / 65536 % 256) (l / 256 % 256) (l % 256) r
                (omega arith) (omega arith) (omega arith)
                (omega arith) (omega arith))
          ]
        ]
      ]
    ]
