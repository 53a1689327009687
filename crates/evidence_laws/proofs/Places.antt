-- Each of the places in the same chains passes, or there is a first that doesn't.
use Rattle.std.proofs.Common.{◌≡◌, ◌⊎◌, ℕ, ◌+◌, ◌<◌, ◌≤◌, List, [], ◌∷◌, ◌++◌, length, refl, sym, ap, ◌∙◌}
use Rattle.std.proofs.Common.{subst, arith, inl, inr, append_assoc, append-nil}
use Rattle.std.proofs.lemmas.Bool.{cases_lt}
use Rattle.std.proofs.lemmas.List.{length-append}
use Rattle.evidence_types.specs.StampValue.{StampValue}
use Rattle.check_evidence.specs.Places.{Place, IsIn, IsBefore, chain_of, chain_number, stamp_number}
use Rattle.check_evidence.proofs.Places.{same_split, same_place}

abbrev Stamps : Type 0
Stamps = List StampValue

abbrev Chains : Type 0
Chains = List (List StampValue)

-- the numbers of a place are below these
abbrev IsBelow : Place → (chain stamp : ℕ) → Type 0
IsBelow q chain stamp = (chain_number q < chain) ⊎ ((chain_number q ≡ chain) × (stamp_number q < stamp))

-- a place that fails, and all those before it pass
pub record FirstFails (chains : Chains) (Passes Fails : Place → Type 0) : Type 0 where
  pub place : Place
  pub is_in : IsIn chains place
  pub before : (q : Place) → IsIn chains q → IsBefore q place → Passes q
  pub fails : Fails place

-- those below these numbers pass
abbrev PassBelow : Chains → (Place → Type 0) → (chain stamp : ℕ) → Type 0
PassBelow chains Passes chain stamp = (q : Place) → IsIn chains q → IsBelow q chain stamp → Passes q

abbrev place_at : Chains → Stamps → StampValue → Stamps → Chains → Place
place_at earlier before stamp after later =
    record { earlier = earlier; before = before; stamp = stamp; after = after; later = later }

length_end : {A : Type 0} (xs : List A) (x : A) → length (xs ++ x ∷ []) ≡ length xs + 1
length_end xs x = length-append xs (x ∷ []) ∙ refl

longer : (before : Stamps) (s : StampValue) → length (before ++ s ∷ []) + 1 ≡ length before + 1 + 1
longer before s = ap (λ (n : ℕ). n + 1) (length_end before s)

one_chain_more : (earlier : Chains) (c : Stamps) → length (earlier ++ c ∷ []) + 1 ≡ length earlier + 2
one_chain_more earlier c = let e = length_end earlier c in omega (arith, e)

module _ (chains : Chains) (Passes Fails : Place → Type 0)
    (judge : (p : Place) → IsIn chains p → Passes p ⊎ Fails p) where
  -- all those up to the end of a chain
  chain_ends : (earlier : Chains) (stamps : Stamps) (later : Chains) → chains ≡ earlier ++ stamps ∷ later
      → PassBelow chains Passes (length earlier + 1) (length stamps + 1)
      → PassBelow chains Passes (length earlier + 2) 1
  chain_ends earlier stamps later there below q k (inr (e, lt)) = absurd (omega (arith, lt))
  chain_ends earlier stamps later there below q k (inl lt) = by (cases_lt (chain_number q) (length earlier + 1))
    where
      last : chain_number q ≡ length earlier + 1 → stamp_number q < length stamps + 1
      last e =
          let same = same_split q.earlier earlier (chain_of q) stamps q.later later (omega (arith, e))
          (sym k ∙ there) in
          let long : length (chain_of q) ≡ length stamps = ap (λ (l : Stamps). length l) same.at in
          let sum : length (chain_of q) ≡ length q.before + length (q.stamp ∷ q.after)
          = length-append q.before (q.stamp ∷ q.after) in
          omega (arith, long, sum)

      by : (chain_number q < length earlier + 1) ⊎ (length earlier + 1 ≤ chain_number q) → Passes q
      by (inl less) = below q k (inl less)
      by (inr ge) = let e : chain_number q ≡ length earlier + 1 = omega (arith, lt, ge) in
          below q k (inr (e, last e))

  -- one more
  one_more : (p : Place) → IsIn chains p → Passes p → PassBelow chains Passes (chain_number p) (stamp_number p)
      → PassBelow chains Passes (chain_number p) (stamp_number p + 1)
  one_more p there passes below q k (inl lt) = below q k (inl lt)
  one_more p there passes below q k (inr (e, lt)) = by (cases_lt (stamp_number q) (stamp_number p))
    where
      by : (stamp_number q < stamp_number p) ⊎ (stamp_number p ≤ stamp_number q) → Passes q
      by (inl less) = below q k (inr (e, less))
      by (inr ge) = let f : stamp_number q ≡ stamp_number p = omega (arith, lt, ge) in
          subst Passes (sym (same_place chains q p k there e f)) passes

  in_chain : (earlier : Chains) (before after : Stamps) (later : Chains)
      → chains ≡ earlier ++ (before ++ after) ∷ later
      → PassBelow chains Passes (length earlier + 1) (length before + 1)
      → PassBelow chains Passes (length earlier + 2) 1 ⊎ FirstFails chains Passes Fails
  in_chain earlier before [] later there below =
      let e : before ++ [] ≡ before = append-nil before in
      inl (chain_ends earlier before later (there ∙ ap (λ (l : Stamps). earlier ++ l ∷ later) e) below)
  in_chain earlier before (s ∷ after) later there below =
      elim (judge (place_at earlier before s after later) there) [
        | inr fails ↦ inr (record {
          place = place_at earlier before s after later;
          is_in = there;
          before = below;
          fails = fails;
        })
        | inl passes ↦ in_chain earlier (before ++ s ∷ []) after later
            (there ∙ ap (λ (l : Stamps). earlier ++ l ∷ later) (sym (append_assoc before (s ∷ []) after)))
            (subst (PassBelow chains Passes (length earlier + 1)) (sym (longer before s))
            (one_more (place_at earlier before s after later) there passes below))
      ]

  across : (earlier rest : Chains) → chains ≡ earlier ++ rest → PassBelow chains Passes (length earlier + 1) 1
      → ((p : Place) → IsIn chains p → Passes p) ⊎ FirstFails chains Passes Fails
  across earlier [] there below = inl (λ q k. below q k (inl (last q k)))
    where
      last : (q : Place) → IsIn chains q → chain_number q < length earlier + 1
      last q k =
          let long : length (q.earlier ++ chain_of q ∷ q.later) ≡ length (earlier ++ [])
          = ap (λ (l : Chains). length l) (sym k ∙ there) in
          let sum = length-append q.earlier (chain_of q ∷ q.later) in
          let all = length-append earlier [] in
          omega (arith, long, sum, all)
  across earlier (c ∷ rest) there below = elim (in_chain earlier [] c rest there below) [
    | inr fails ↦ inr fails
    | inl done ↦ across (earlier ++ c ∷ []) rest (there ∙ sym (append_assoc earlier (c ∷ []) rest))
        (subst (λ (n : ℕ). PassBelow chains Passes n 1) (sym (one_chain_more earlier c)) done)
  ]

  -- all pass, or there is a first that fails
  pub all_or_first : ((p : Place) → IsIn chains p → Passes p) ⊎ FirstFails chains Passes Fails
  all_or_first = across [] chains refl (λ q k below. absurd (none q below))
    where
      none : (q : Place) → IsBelow q 1 1 → ⊥
      none q (inl lt) = omega (arith, lt)
      none q (inr (e, lt)) = omega (arith, lt)
