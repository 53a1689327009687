-- What is known of each archive time-stamp of chains is known of those beside a place.
use Rattle.std.proofs.Common.{◌≡◌, List, [], ◌∷◌, ◌++◌, refl, sym, ap, ◌∙◌, subst}
use Rattle.std.proofs.Common.{append_assoc}
use Rattle.std.specs.Prelude.{IfSome}
use Rattle.std.specs.List.{AllByRecursion}
use Rattle.evidence_types.specs.StampValue.{StampValue}
use Rattle.check_evidence.specs.Places.{Place, IsIn, chain_of, first_of, last_of, stamps_of, first_beside, preceding}
use Rattle.check_evidence.specs.Places.{following}

abbrev Stamps : Type 0
Stamps = List StampValue

abbrev Chains : Type 0
Chains = List (List StampValue)

-- ---- lists

pub all_front : {A : Type 0} (P : A → Type 0) (xs ys : List A) → AllByRecursion P (xs ++ ys) → AllByRecursion P xs
all_front P [] ys h = tt
all_front P (x ∷ xs) ys h = (h.0, all_front P xs ys h.1)

all_back : {A : Type 0} (P : A → Type 0) (xs ys : List A) → AllByRecursion P (xs ++ ys) → AllByRecursion P ys
all_back P [] ys h = h
all_back P (x ∷ xs) ys h = all_back P xs ys h.1

all_both : {A : Type 0} (P : A → Type 0) (xs ys : List A) → AllByRecursion P xs → AllByRecursion P ys
    → AllByRecursion P (xs ++ ys)
all_both P [] ys h k = k
all_both P (x ∷ xs) ys h k = (h.0, all_both P xs ys h.1 k)

all_stamps : (P : StampValue → Type 0) (chains : Chains) → AllByRecursion (AllByRecursion P) chains
    → AllByRecursion P (stamps_of chains)
all_stamps P [] h = tt
all_stamps P (c ∷ chains) h = all_both P c (stamps_of chains) h.0 (all_stamps P chains h.1)

of_first : (P : StampValue → Type 0) (l : Stamps) → AllByRecursion P l → IfSome (first_of l) P
of_first P [] h = tt
of_first P (s ∷ l) h = h.0

of_last : (P : StampValue → Type 0) (l : Stamps) → AllByRecursion P l → IfSome (last_of l) P
of_last P [] h = tt
of_last P (s ∷ []) h = h.0
of_last P (s ∷ t ∷ l) h = of_last P (t ∷ l) h.1

-- ---- a place

-- it is known of the stamp, and of those beside it
pub record Known (P : StampValue → Type 0) (p : Place) : Type 0 where
  pub its : P p.stamp
  pub first : IfSome (first_beside p) P
  pub before : IfSome (preceding p) P
  pub next : IfSome (following p) P

pub known : (P : StampValue → Type 0) (chains : Chains) (p : Place) → AllByRecursion (AllByRecursion P) chains
    → IsIn chains p → Known P p
known P chains p h there =
    let all = subst (AllByRecursion (AllByRecursion P)) there h in
    let earlier = all_front (AllByRecursion P) p.earlier (chain_of p ∷ p.later) all in
    let rest = all_back (AllByRecursion P) p.earlier (chain_of p ∷ p.later) all in
    let its = all_back P p.before (p.stamp ∷ p.after) rest.0 in
    record {
      its = its.0;
      first = of_first P (chain_of p) rest.0;
      before = of_last P (stamps_of p.earlier ++ p.before)
          (all_both P (stamps_of p.earlier) p.before (all_stamps P p.earlier earlier)
          (all_front P p.before (p.stamp ∷ p.after) rest.0));
      next = of_first P (p.after ++ stamps_of p.later)
          (all_both P p.after (stamps_of p.later) its.1 (all_stamps P p.later rest.1));
    }

-- ---- what is known at each place is known of each stamp

module _ (P : StampValue → Type 0) (chains : Chains) (at : (p : Place) → IsIn chains p → P p.stamp) where
  of_chain : (earlier : Chains) (before after : Stamps) (later : Chains)
      → chains ≡ earlier ++ (before ++ after) ∷ later
      → AllByRecursion P after
  of_chain earlier before [] later there = tt
  of_chain earlier before (s ∷ after) later there = (
    at (record { earlier = earlier; before = before; stamp = s; after = after; later = later }) there,
    of_chain earlier (before ++ s ∷ []) after later
        (there ∙ ap (λ (l : Stamps). earlier ++ l ∷ later) (sym (append_assoc before (s ∷ []) after))),
  )

  of_chains : (earlier rest : Chains) → chains ≡ earlier ++ rest → AllByRecursion (AllByRecursion P) rest
  of_chains earlier [] there = tt
  of_chains earlier (c ∷ rest) there = (
    of_chain earlier [] c rest there,
    of_chains (earlier ++ c ∷ []) rest (there ∙ sym (append_assoc earlier (c ∷ []) rest)),
  )

  pub of_each : AllByRecursion (AllByRecursion P) chains
  of_each = of_chains [] chains refl
