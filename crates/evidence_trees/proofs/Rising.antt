-- Values in ascending order of which none stands twice.
use Rattle.std.proofs.Common.{◌≡◌, ℕ, ◌+◌, ◌<◌, zero, suc, Bool, true, false, List, [], ◌∷◌, length, get_or, refl, sym}
use Rattle.std.proofs.Common.{ap, ◌∙◌}
use Rattle.std.proofs.Common.{arith, subst, Contains, true≢false, ◌⊎◌, inl, inr}
use Rattle.std.proofs.Common.{◌≤◌, take}
use Rattle.std.proofs.lemmas.Bool.{cases_lt}
use Rattle.std.proofs.lemmas.List.{get_or-take, get_or_default, length-take-le}
use Rattle.der_core.specs.Lists.{is_less}
use Rattle.evidence_trees.specs.HashTrees.{IsRising}
use Rattle.evidence_trees.proofs.Orders.{less_trans, never_less}

abbrev Values : Type 0
Values = List (List ℕ)

pub here : (v : List ℕ) (values : Values) → Contains (v ∷ values) v
here v values = (0, omega arith, refl)

pub there : (v w : List ℕ) (values : Values) → Contains values w → Contains (v ∷ values) w
there v w values (k, lt, is) = (suc k, omega (arith, lt), is)

pub rising_tail : (v : List ℕ) (values : Values) → IsRising (v ∷ values) → IsRising values
rising_tail v [] up = tt
rising_tail v (w ∷ values) up = up.1

-- the first is before each other one
pub first_is_before : (v : List ℕ) (values : Values) (k : ℕ) (d : List ℕ) → IsRising (v ∷ values) → k < length values
    → is_less v (get_or values k d) ≡ true
first_is_before v [] k d up lt = absurd (omega (arith, lt))
first_is_before v (w ∷ values) zero d up lt = up.0
first_is_before v (w ∷ values) (suc k) d up lt =
    less_trans v w (get_or values k d) up.0 (first_is_before w values k d up.1 (omega (arith, lt)))

-- and so is each before those after it
pub is_before : (values : Values) (j k : ℕ) (d : List ℕ) → IsRising values → j < k → k < length values
    → is_less (get_or values j d) (get_or values k d) ≡ true
is_before [] j k d up lt below = absurd (omega (arith, below))
is_before (v ∷ values) j zero d up lt below = absurd (omega (arith, lt))
is_before (v ∷ values) zero (suc k) d up lt below = first_is_before v values k d up (omega (arith, below))
is_before (v ∷ values) (suc j) (suc k) d up lt below =
    is_before values j k d (rising_tail v values up) (omega (arith, lt)) (omega (arith, below))

-- a member is the first, or after it
first_or_after : (v w : List ℕ) (values : Values) → IsRising (v ∷ values) → Contains (v ∷ values) w
    → (v ≡ w) ⊎ (is_less v w ≡ true)
first_or_after v w values up (zero, lt, is) = inl is
first_or_after v w values up (suc k, lt, is) = inr (subst (λ (x : List ℕ). is_less v x ≡ true) is
    (first_is_before v values k w up (omega (arith, lt))))

not_both : (v w : List ℕ) → is_less v w ≡ true → is_less w v ≡ true → ⊥
not_both v w h k = true≢false (sym (less_trans v w v h k) ∙ never_less v)

-- the first ones of two lists with the same members are the same
one_first : (v w : List ℕ) (values others : Values) → IsRising (v ∷ values) → IsRising (w ∷ others)
    → Contains (v ∷ values) w → Contains (w ∷ others) v → v ≡ w
one_first v w values others up up' c c' = go (first_or_after v w values up c) (first_or_after w v others up' c')
  where
    go : (v ≡ w) ⊎ (is_less v w ≡ true) → (w ≡ v) ⊎ (is_less w v ≡ true) → v ≡ w
    go (inl is) h = is
    go (inr lt) (inl is) = sym is
    go (inr lt) (inr lt') = absurd (not_both v w lt lt')

-- a member of the others isn't the first
among_others : (v u w : List ℕ) (values others : Values) → IsRising (v ∷ values) → Contains values u → w ≡ v
    → Contains (w ∷ others) u → Contains others u
among_others v u w values others up (k, lt, is) same (zero, lt', is') =
    let after : is_less v u ≡ true =
    subst (λ (x : List ℕ). is_less v x ≡ true) is (first_is_before v values k u up lt) in
    let itself : v ≡ u = sym same ∙ is' in
    absurd (true≢false (sym after ∙ ap (λ (x : List ℕ). is_less x u) itself ∙ never_less u))
among_others v u w values others up c same (suc k, lt, is) = (k, omega (arith, lt), is)

-- rising lists with the same members are one list
pub one_rising : (values others : Values) → IsRising values → IsRising others
    → ((v : List ℕ) → Contains values v → Contains others v) → ((v : List ℕ) → Contains others v → Contains values v)
    → values ≡ others
one_rising [] [] up up' h k = refl
one_rising [] (w ∷ others) up up' h k = let c = k w (here w others) in absurd (omega (arith, c.1))
one_rising (v ∷ values) [] up up' h k = let c = h v (here v values) in absurd (omega (arith, c.1))
one_rising (v ∷ values) (w ∷ others) up up' h k =
    let is : v ≡ w = one_first v w values others up up' (k w (here w others)) (h v (here v values)) in
    let rest : values ≡ others = one_rising values others (rising_tail v values up) (rising_tail w others up')
    (λ u c. among_others v u w values others up c (sym is) (h u (there v u values c)))
    (λ u c. among_others w u v others values up' c is (k u (there w u others c))) in
    λ i. is i ∷ rest i

-- ---- searching among the first of some values

is_before_taken : (values : Values) (count j k : ℕ) → IsRising (take count values) → count ≤ length values → j < k
    → k < count → is_less (get_or values j []) (get_or values k []) ≡ true
is_before_taken values count j k up fits lt below =
    let long : length (take count values) ≡ count = length-take-le count values fits in
    let j-below : j < count = omega arith in
    subst (λ (v : List ℕ). is_less v (get_or values k []) ≡ true) (get_or-take count values j [] j-below)
    (subst (λ (v : List ℕ). is_less (get_or (take count values) j []) v ≡ true) (get_or-take count values k [] below)
    (is_before (take count values) j k [] up lt (omega (arith, long, below))))

-- all up to one that is before the wanted value are before it
pub before_more : (values : Values) (count middle : ℕ) (wanted : List ℕ) → IsRising (take count values)
    → count ≤ length values → middle < count → is_less (get_or values middle []) wanted ≡ true → (k : ℕ)
    → k < middle + 1 → is_less (get_or values k []) wanted ≡ true
before_more values count middle wanted up fits below less k lt = go (cases_lt k middle)
  where
    go : (k < middle) ⊎ (middle ≤ k) → is_less (get_or values k []) wanted ≡ true
    go (inl before) = less_trans (get_or values k []) (get_or values middle []) wanted
        (is_before_taken values count k middle up fits before below) less
    go (inr from) =
        let same : middle ≡ k = omega arith in
        subst (λ (n : ℕ). is_less (get_or values n []) wanted ≡ true) same less

-- none from one on that isn't before it is before it
pub after_more : (values : Values) (count middle : ℕ) (wanted : List ℕ) → IsRising (take count values)
    → count ≤ length values → is_less (get_or values middle []) wanted ≡ false → (k : ℕ) → middle ≤ k → k < count
    → is_less (get_or values k []) wanted ≡ false
after_more values count middle wanted up fits less k from below =
    go (cases_lt middle k) (is_less (get_or values k []) wanted) refl
  where
    go : (middle < k) ⊎ (k ≤ middle) → (b : Bool) → is_less (get_or values k []) wanted ≡ b → b ≡ false
    go h false is = refl
    go (inl before) true is = absurd (true≢false (sym (less_trans (get_or values middle []) (get_or values k []) wanted
        (is_before_taken values count middle k up fits before below) is) ∙ less))
    go (inr upto) true is =
        let same : middle ≡ k = omega arith in
        sym is ∙ subst (λ (n : ℕ). is_less (get_or values n []) wanted ≡ false) same less

pub not_there : (values : Values) (count low : ℕ) (wanted : List ℕ) → IsRising (take count values)
    → count ≤ length values → ((k : ℕ) → k < low → is_less (get_or values k []) wanted ≡ true)
    → (low < count → (is_less (get_or values low []) wanted ≡ false) × (get_or values low [] ≡ wanted → ⊥))
    → Contains (take count values) wanted → ⊥
not_there values count low wanted up fits before other (k, lt, is) =
    let long : length (take count values) ≡ count = length-take-le count values fits in
    let below : k < count = omega (arith, lt, long) in
    let there : get_or values k [] ≡ wanted = sym (get_or-take count values k [] below)
    ∙ (get_or_default (take count values) k [] wanted lt ∙ is) in
    go (cases_lt k low) (cases_lt low k) below there
  where
    go : (k < low) ⊎ (low ≤ k) → (low < k) ⊎ (k ≤ low) → k < count → get_or values k [] ≡ wanted → ⊥
    go (inl first) h below there =
        true≢false (sym (before k first) ∙ ap (λ (v : List ℕ). is_less v wanted) there ∙ never_less wanted)
    go (inr from) (inl after) below there =
        true≢false (sym (is_before_taken values count low k up fits after below)
        ∙ (ap (λ (v : List ℕ). is_less (get_or values low []) v) there ∙ (other (omega arith)).0))
    go (inr from) (inr upto) below there =
        let same : k ≡ low = omega arith in
        (other (omega arith)).1 (ap (λ (n : ℕ). get_or values n []) (sym same) ∙ there)
