-- The least of numbers that can be searched, and the greatest of the numbers of a list.
use Rattle.std.proofs.Common.{◌≡◌, ℕ, zero, suc, ◌<◌, ◌≤◌, List, [], ◌∷◌, arith, refl, sym, subst, inl, inr, ◌⊎◌}
use Rattle.std.specs.Prelude.{Any}
use Rattle.std.specs.List.{AllByRecursion}
use Rattle.std.proofs.lemmas.Bool.{cases_lt}
use Rattle.check_verdict.specs.Verdicts.{IsLeast, IsGreatest}
use Rattle.check_names.proofs.Deciding.{Decided}

abbrev pub Below : (ℕ → Type 0) → ℕ → Type 0
Below P n = (m : ℕ) × (m < n) × P m

-- where it can be told of each whether a lesser one is there, one is the least
pub least_of : (P : ℕ → Type 0) → ((n : ℕ) → Decided (Below P n)) → (fuel n : ℕ) → n ≤ fuel → P n
    → (m : ℕ) × IsLeast P m
least_of P below zero n le p = (n, record { has = p; least = λ k q. omega (arith, le) })
least_of P below (suc fuel) n le p = elim (below n) [
  | inl h ↦ least_of P below fuel h.0 (omega (arith, h.1, le)) h.2
  | inr none ↦
      (n, record { has = p; least = λ k q. elim (cases_lt k n) [ inl lt ↦ absurd (none (k, lt, q)) | inr ge ↦ ge ] })
]

-- each member of a list has one number: one of these is the greatest
module _ {A : Type 0} (P : A → ℕ → Type 0) (once : (x : A) (m n : ℕ) → P x m → P x n → m ≡ n) where
  abbrev Has : List A → ℕ → Type 0
  Has xs m = Any (λ x. P x m) xs

  has_head : (x : A) (xs : List A) (m : ℕ) → P x m → Has (x ∷ xs) m
  has_head x xs m p = (0, x, omega arith, refl, p)

  has_tail : (x : A) (xs : List A) (m : ℕ) → Has xs m → Has (x ∷ xs) m
  has_tail x xs m (i, y, within, is, p) = (suc i, y, omega (arith, within), is, p)

  heads_or_tails : (x : A) (xs : List A) (m : ℕ) → Has (x ∷ xs) m → P x m ⊎ Has xs m
  heads_or_tails x xs m (zero, y, within, is, p) = inl (subst (λ (z : A). P z m) (sym is) p)
  heads_or_tails x xs m (suc i, y, within, is, p) = inr (i, y, omega (arith, within), is, p)

  bounded : (x : A) (xs : List A) (a b n : ℕ) → P x a → a ≤ b → ((k : ℕ) → Has xs k → k ≤ b) → Has (x ∷ xs) n → n ≤ b
  bounded x xs a b n p le rest h = elim (heads_or_tails x xs n h) [
    | inl q ↦ (let e = once x a n p q in omega (arith, e, le))
    | inr t ↦ rest n t
  ]

  abbrev Each : List A → Type 0
  Each xs = AllByRecursion (λ x. (m : ℕ) × P x m) xs

  pub greatest_of : (x : A) (xs : List A) → Each (x ∷ xs) → (m : ℕ) × IsGreatest (Has (x ∷ xs)) m
  greatest_of x [] ((first, is), _) = (
    first,
    record {
      has = has_head x [] first is;
      greatest = λ n q. bounded x [] first first n is (omega arith) (λ k t. absurd (let w = t.2 in omega (arith, w))) q;
    },
  )
  greatest_of x (y ∷ xs) ((first, is), others) =
      let (later, most) = greatest_of y xs others in
      elim (cases_lt first later) [
        | inl lt ↦ (
          later,
          record {
            has = has_tail x (y ∷ xs) later most.has;
            greatest = λ n q. bounded x (y ∷ xs) first later n is (omega (arith, lt)) most.greatest q;
          },
        )
        | inr ge ↦ (
          first,
          record {
            has = has_head x (y ∷ xs) first is;
            greatest = λ n q. bounded x (y ∷ xs) first first n is (omega arith)
                (λ k t. (let le = most.greatest k t in omega (arith, le, ge))) q;
          },
        )
      ]
