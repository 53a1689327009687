-- The first six octets of a body say what the header of its first element says.
use Rattle.std.proofs.Common.{◌≡◌, ℕ, suc, ◌+◌, ◌-◌, ◌<◌, ◌≤◌, Bool, true, false, cond, ltb, eqb, List, [], ◌∷◌, length}
use Rattle.std.proofs.Common.{take, drop, Result, Ok, Err, refl, sym}
use Rattle.std.proofs.Common.{ap, subst, arith, inl, inr}
use Rattle.std.proofs.lemmas.Bool.{cases_lt, ltb-true, ltb-false}
use Rattle.std.proofs.lemmas.List.{take-append-drop, length-take-le, take_all}
use Rattle.der_core.specs.declared.fault.Fault.{Fault}
use Rattle.der_core.specs.declared.fault.Kind.TheVariants.{End, HighTag, Indefinite, LengthForm}
use Rattle.der_core.specs.Element.{is_tag}
use Rattle.der_core.specs.Reading.{fault, number_from, begins_short, further_at, length_at}
use Rattle.der_core.specs.Results.{◌>>=◌}
use Rattle.cms_stream_laws.specs.OpenReading.{OpenSpot, length_in, is_end}
use Rattle.cms_stream_laws.proofs.Steady.{SizeStays, size_stays}

abbrev Length : Type 0
Length = Result (ℕ × List ℕ) Fault

abbrev pub EndsOf : {A : Type 0} → Result A Fault → Type 0
EndsOf (Ok x) = ⊥
EndsOf (Err f) = is_end f.kind ≡ true

further_ends : (k n : ℕ) (xs : List ℕ) → EndsOf (further_at k n xs) → length xs < k
unfolding further_at
further_ends k n xs h = by_short (begins_short k xs) (ltb (length xs) k) refl h
  where
    by_short : (b c : Bool) → ltb (length xs) k ≡ c
        → EndsOf {A = ℕ × List ℕ}
        (cond b (Err (fault LengthForm n))
        (cond c (Err (fault End (n + 1 + length xs))) (Ok (number_from 0 (take k xs), drop k xs)))) → length xs < k
    by_short true c e h = absurd cc
    by_short false true e h = ltb-true (length xs) k e
    by_short false false e h = absurd h

length_ends : (n : ℕ) (xs : List ℕ) → EndsOf (length_at n xs) → length xs < 5
unfolding length_at
length_ends n [] h = omega arith
length_ends n (x ∷ xs) h = by_first (ltb x 128) (eqb x 128) (ltb 132 x) refl h
  where
    by_first : (a b c : Bool) → ltb 132 x ≡ c
        → EndsOf {A = ℕ × List ℕ} (cond a (Ok (x, xs))
        (cond b (Err (fault Indefinite n)) (cond c (Err (fault LengthForm n)) (further_at (x - 128) n xs))))
        → suc (length xs) < 5
    by_first true b c e h = absurd h
    by_first false true c e h = absurd cc
    by_first false false true e h = absurd cc
    by_first false false false e h =
        let s = further_ends (x - 128) n xs h in let m = ltb-false 132 x e in omega (arith, s, m)

pub size_ends : (w : OpenSpot) (xs : List ℕ) → EndsOf (length_in w xs) → length xs < 6
size_ends w [] h = omega arith
size_ends w (t ∷ xs) h = by_identifier (is_tag t) h
  where
    by_length : (r : Length) → (EndsOf r → length xs < 5) → EndsOf {A = ℕ} (r >>= λ l. Ok l.0) → suc (length xs) < 6
    by_length (Ok l) f h = absurd h
    by_length (Err e) f h = let s = f h in omega (arith, s)

    by_identifier : (b : Bool) → EndsOf {A = ℕ}
        (cond b (length_at (w.pos + 1) xs >>= λ l. Ok l.0) (Err (fault HighTag w.pos))) → suc (length xs) < 6
    by_identifier true h = by_length (length_at (w.pos + 1) xs) (length_ends (w.pos + 1) xs) h
    by_identifier false h = absurd cc

-- a window of six octets decides
pub six_octets : (w : OpenSpot) (xs : List ℕ) → length_in w (take 6 xs) ≡ length_in w xs
six_octets w xs = elim (cases_lt (length xs) 6) [
  | inl lt ↦ ap (length_in w) (take_all 6 xs (omega (arith, lt)))
  | inr le ↦ by_size (length_in w (take 6 xs)) refl le
      (subst (λ (ys : List ℕ). SizeStays (length_in w (take 6 xs)) (length_in w ys)) (take-append-drop 6 xs)
      (size_stays w (take 6 xs) (drop 6 xs) w refl))
]
  where
    by_size : (r : Result ℕ Fault) → length_in w (take 6 xs) ≡ r → 6 ≤ length xs → SizeStays r (length_in w xs)
        → r ≡ length_in w xs
    by_size (Ok l) e le h = sym h
    by_size (Err f) e le (inr h) = sym h
    by_size (Err f) e le (inl h) =
        let s = size_ends w (take 6 xs) (subst EndsOf (sym e) h) in
        absurd (omega (arith, s, length-take-le 6 xs le))
