-- Where octets are cut at the first of a value.
use Rattle.std.proofs.Common.{◌≡◌, ℕ, ◌+◌, ◌-◌, ◌<◌, ◌≤◌, Bool, true, false, List, [], ◌∷◌, length, take, drop, get_or}
use Rattle.std.proofs.Common.{Option, Some, None, refl, sym}
use Rattle.std.proofs.Common.{ap, ◌∙◌, arith, inl, inr}
use Rattle.std.specs.Prelude.{◌==◌}
use Rattle.std.specs.List.{slice_split, position, position_or_len}
use Rattle.std.proofs.lemmas.Bool.{cases_lt, lt-ltb, le-ltb, false_from_ne_true}
use Rattle.std.proofs.lemmas.List.{take_rest}
use Rattle.std.proofs.lemmas.List.Sums.{position_or_len_is}
use Rattle.memchr.specs.Find.{IsFirstByte, is_byte}
use Rattle.std.proofs.lemmas.List.Splits.{slice_split_first}
use Rattle.list_answers.specs.Texts.{parts}

-- there is always a part
pub some_part : (p : ℕ → Bool) (xs : List ℕ) → (q : List ℕ) × (qs : List (List ℕ)) × (slice_split p xs ≡ q ∷ qs)
some_part p [] = ([], [], refl)
some_part p (x ∷ xs) = by_case (p x) refl (some_part p xs)
  where
    by_case : (b : Bool) → p x ≡ b → ((q : List ℕ) × (qs : List (List ℕ)) × (slice_split p xs ≡ q ∷ qs))
        → (q : List ℕ) × (qs : List (List ℕ)) × (slice_split p (x ∷ xs) ≡ q ∷ qs)
    by_case true e (q, qs, is) = ([], slice_split p xs, rw e refl)
    by_case false e (q, qs, is) = (x ∷ q, qs, rw (e, is) refl)

none_passes : (p : ℕ → Bool) (xs : List ℕ) → length xs ≤ position_or_len p xs → slice_split p xs ≡ xs ∷ []
none_passes p [] h = refl
none_passes p (x ∷ xs) h = by_case (p x) refl (none_passes p xs)
  where
    by_case : (b : Bool) → p x ≡ b → (length xs ≤ position_or_len p xs → slice_split p xs ≡ xs ∷ [])
        → slice_split p (x ∷ xs) ≡ (x ∷ xs) ∷ []
    by_case true e others = absurd (let k = rw e at h in omega arith)
    by_case false e others =
        let k = rw e at h in let o : slice_split p xs ≡ xs ∷ [] = others (omega arith) in rw (e, o) refl

-- where the octet is nowhere, all stands before it
pub uncut : (octets : List ℕ) (at : ℕ) (r : Option ℕ) → r ≡ position (λ b. b == at) octets → r ≡ None
    → parts at octets ≡ octets ∷ []
uncut octets at r e n = elim (cases_lt (position_or_len (λ b. b == at) octets) (length octets)) [
  | inl l ↦ absurd (let k : None ≡ Some (position_or_len (λ b. b == at) octets) = sym n
      ∙ e ∙ rw (lt-ltb (position_or_len (λ b. b == at) octets) (length octets) l) refl in cc)
  | inr g ↦ none_passes (λ b. b == at) octets g
]

-- what stands before the place, and what stands behind it
pub cut_there : (octets : List ℕ) (at i : ℕ) (r : Option ℕ) → r ≡ position (λ b. b == at) octets → r ≡ Some i
    → (i < length octets)
    × (parts at octets ≡ take i octets ∷ parts at (take (length octets - (i + 1)) (drop (i + 1) octets)))
cut_there octets at i r e n = elim (cases_lt (position_or_len (λ b. b == at) octets) (length octets)) [
  | inl l ↦
      let k : Some i ≡ Some (position_or_len (λ b. b == at) octets) = sym n ∙ e
      ∙ rw (lt-ltb (position_or_len (λ b. b == at) octets) (length octets) l) refl in
      let same : position_or_len (λ b. b == at) octets ≡ i = cc in (
        omega (arith, same, l),
        slice_split_first (λ b. b == at) octets 0 l
            ∙ rw same (ap (λ x. take i octets ∷ parts at x) (sym (take_rest octets (i + 1)))),
      )
  | inr g ↦ absurd (let k : Some i ≡ None = sym n ∙ e
      ∙ rw (le-ltb (position_or_len (λ b. b == at) octets) (length octets) g) refl in cc)
]

-- where the first octet of a value is, by either word
pub first_place : (octets : List ℕ) (at : ℕ) (r : Option ℕ) → IsFirstByte (is_byte at) octets r
    → r ≡ position (λ b. b == at) octets
first_place octets at None h =
    let n : position_or_len (λ b. b == at) octets ≡ length octets
    = position_or_len_is (λ b. b == at) octets (length octets) 0 (omega arith)
    (λ k lt. false_from_ne_true (get_or octets k 0 == at) (h k (omega arith) lt))
    (λ lt. absurd (omega arith)) in
    rw (n, le-ltb (length octets) (length octets) (omega arith)) refl
first_place octets at (Some k) h =
    let n : position_or_len (λ b. b == at) octets ≡ k
    = position_or_len_is (λ b. b == at) octets k 0 (let high = h.0.high in omega arith)
    (λ j lt. false_from_ne_true (get_or octets j 0 == at) (h.0.before j (omega arith) lt)) (λ _. h.1) in
    rw (n, lt-ltb k (length octets) h.0.high) refl
