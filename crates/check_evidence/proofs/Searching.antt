-- Searching among values in ascending order.
use Rattle.std.proofs.Common.{◌≡◌, ℕ, zero, suc, ◌+◌, ◌<◌, ◌≤◌, Bool, true, false, List, [], ◌∷◌, length, get_or}
use Rattle.std.proofs.Common.{refl, sym, ap, ◌∙◌, arith, subst, Contains, true≢false, ◌⊎◌, inl, inr}
use Rattle.std.proofs.lemmas.Bool.{cases_lt}
use Rattle.std.proofs.lemmas.List.{get_or_default}
use Rattle.der_core.specs.Lists.{is_less, is_same}
use Rattle.der_core.proofs.Encoded.{same}
use Rattle.der_core.proofs.SameOctets.{is_then_same}
use Rattle.check_evidence.specs.ListTests.{is_among}
use Rattle.check_evidence.specs.Roots.{IsAscending}
use Rattle.check_evidence.proofs.Ascending.{tail_ascends}
use Rattle.check_evidence.proofs.Orders.{never_less, not_less, same_unless_less}
use Rattle.check_evidence.proofs.Tests.{among_says}

abbrev Values : Type 0
Values = List (List ℕ)

-- none is before the first
first_up : (v : List ℕ) (values : Values) (k : ℕ) (d : List ℕ) → IsAscending (v ∷ values) → k < length values
    → is_less (get_or values k d) v ≡ false
first_up v [] k d up lt = absurd (omega (arith, lt))
first_up v (w ∷ values) zero d up lt = up.0
first_up v (w ∷ values) (suc k) d up lt =
    not_less v w (get_or values k d) up.0 (first_up w values k d up.1 (omega (arith, lt)))

-- nor before any at a place no later than its own
pub up_to : (values : Values) (j k : ℕ) (d : List ℕ) → IsAscending values → j ≤ k → k < length values
    → is_less (get_or values k d) (get_or values j d) ≡ false
up_to [] j k d up le below = absurd (omega (arith, below))
up_to (v ∷ values) zero zero d up le below = never_less v
up_to (v ∷ values) (suc j) zero d up le below = absurd (omega (arith, le))
up_to (v ∷ values) zero (suc k) d up le below = first_up v values k d up (omega (arith, below))
up_to (v ∷ values) (suc j) (suc k) d up le below =
    up_to values j k d (tail_ascends v values up) (omega (arith, le)) (omega (arith, below))

module _ (values : Values) (wanted : List ℕ) (up : IsAscending values) where
  abbrev IsBefore : ℕ → Bool → Type 0
  IsBefore k b = is_less (get_or values k []) wanted ≡ b

  -- all up to one that is before the wanted value are before it
  pub before_more : (middle : ℕ) → middle < length values → IsBefore middle true → (k : ℕ) → k < middle + 1
      → IsBefore k true
  before_more middle below less k lt = go (is_less (get_or values k []) wanted) refl
    where
      go : (b : Bool) → IsBefore k b → IsBefore k true
      go true is = is
      go false is = absurd (true≢false (sym less ∙ not_less wanted (get_or values k []) (get_or values middle []) is
          (up_to values k middle [] up (omega (arith, lt)) below)))

  -- none from one on that isn't before it is before it
  pub after_more : (middle : ℕ) → IsBefore middle false → (k : ℕ) → middle ≤ k → k < length values
      → IsBefore k false
  after_more middle less k from below = not_less wanted (get_or values middle []) (get_or values k []) less
      (up_to values middle k [] up from below)

  -- one that stands there stands at the first place that isn't before it
  pub stands_there : (low : ℕ) → ((k : ℕ) → k < low → IsBefore k true)
      → ((k : ℕ) → low ≤ k → k < length values → IsBefore k false) → Contains values wanted
      → (low < length values) × (get_or values low [] ≡ wanted)
  stands_there low before after (k, lt, is) = go (cases_lt k low)
    where
      there : get_or values k [] ≡ wanted
      there = get_or_default values k [] wanted lt ∙ is

      go : (k < low) ⊎ (low ≤ k) → (low < length values) × (get_or values low [] ≡ wanted)
      go (inl first) = absurd (true≢false (sym (before k first)
          ∙ ap (λ (v : List ℕ). is_less v wanted) there ∙ never_less wanted))
      go (inr from) =
          let below : low < length values = omega (arith, from, lt) in
          let least : is_less wanted (get_or values low []) ≡ false =
          subst (λ (v : List ℕ). is_less v (get_or values low []) ≡ false) there
          (up_to values low k [] up from lt) in
          (below, same_unless_less (get_or values low []) wanted (after low (omega arith) below) least)

  found_there : (low : ℕ) → low < length values → is_same (get_or values low []) wanted ≡ true
      → is_among values wanted ≡ true
  found_there low below is = (among_says values wanted).1
      (low, below, get_or_default values low wanted [] below ∙ same (get_or values low []) wanted is)

  pub never_there : (low : ℕ) → ((k : ℕ) → k < low → IsBefore k true)
      → ((k : ℕ) → low ≤ k → k < length values → IsBefore k false)
      → (low < length values → get_or values low [] ≡ wanted → ⊥) → is_among values wanted ≡ false
  never_there low before after other = go (is_among values wanted) refl
    where
      go : (b : Bool) → is_among values wanted ≡ b → b ≡ false
      go true is =
          let h = stands_there low before after ((among_says values wanted).0 is) in
          absurd (other h.0 h.1)
      go false is = refl

  -- so it is among them exactly if it stands at that place
  pub found_if : (low : ℕ) → low < length values → ((k : ℕ) → k < low → IsBefore k true)
      → ((k : ℕ) → low ≤ k → k < length values → IsBefore k false) → (r : Bool)
      → r ≡ is_same (get_or values low []) wanted → r ≡ is_among values wanted
  found_if low below before after true e = sym (found_there low below (sym e))
  found_if low below before after false e = sym (never_there low before after
      (λ lt is. true≢false (sym (is_then_same (get_or values low []) wanted is) ∙ sym e)))
