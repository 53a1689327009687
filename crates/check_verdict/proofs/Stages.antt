-- Filters over entries that are met one after the other: it is enough to keep how far the best of them came.
use Rattle.std.proofs.Common.{◌≡◌, ℕ, suc, ◌+◌, ◌<◌, ◌≤◌, min, max, List, [], ◌∷◌, ◌++◌, Some, length, get_or, take}
use Rattle.std.proofs.Common.{refl, sym, subst, ◌∙◌, arith, inl, inr}
use Rattle.std.specs.Prelude.{Any, slice_get}
use Rattle.std.proofs.lemmas.Bool.{cases_lt}
use Rattle.std.proofs.lemmas.List.{take_more, get_or_append_left, get_or-append-add, get_or-take, length-append}
use Rattle.std.proofs.lemmas.List.{length-take}
use Rattle.std.proofs.lemmas.Option.{slice_get-get_or}
use Rattle.std.proofs.lemmas.List.Elements.{All-push}
use Rattle.check_verdict.specs.Filters.{StopsAt, Comes, Best}
use Rattle.check_verdict.proofs.Lists.{all-along, lowered}

pub best_of_none : {E : Type 0} (Left : ℕ → E → Type 0) (total : ℕ) → Best Left total [] 0
best_of_none Left total = record {
  within = omega arith;
  left = λ lt. absurd (omega (arith, lt));
  none = λ k d lt. absurd (omega (arith, lt));
}

pub any_before : {E : Type 0} (P : E → Type 0) (xs ys : List E) → Any P xs → Any P (xs ++ ys)
any_before P xs ys (i, x, within, is, p) =
    (i, x, omega (arith, within, length-append xs ys), get_or_append_left xs ys x i within ∙ is, p)

pub any_last : {E : Type 0} (P : E → Type 0) (xs : List E) (x : E) → P x → Any P (xs ++ x ∷ [])
any_last {E} P xs x p =
    (length xs + 0, x, omega (arith, length-append xs (x ∷ []), one), get_or-append-add xs (x ∷ []) 0 x, p)
  where
    one : length (x ∷ []) ≡ 1
    one = refl

-- one more entry
pub best_of_more : {E : Type 0} (Left : ℕ → E → Type 0) (total : ℕ) (es : List E) (n : ℕ) (e : E) (k : ℕ)
    → ((j : ℕ) (e : E) → Left (suc j) e → Left j e) → Best Left total es n → Comes Left total e k
    → Best Left total (es ++ e ∷ []) (max n k)
best_of_more {E} Left total es n e k falls b c = elim (cases_lt n k) [
  | inl lt ↦
      (let z : max n k ≡ k = omega (arith, lt) in subst (λ (m : ℕ). Best Left total (es ++ e ∷ []) m) (sym z) (record {
        within = c.within;
        left = λ some. any_last (Left k) es e (c.left some);
        none = All-push (λ x. k < total → Left (k + 1) x → ⊥) es e
            (all-along (λ x. n < total → Left (n + 1) x → ⊥) (λ x. k < total → Left (k + 1) x
            → ⊥) es (λ x m none below p. none (omega (arith, lt, below))
            (lowered Left falls (n + 1) (k + 1) x (omega (arith, lt)) p)) b.none) c.none;
      }))
  | inr ge ↦
      (let z : max n k ≡ n = omega (arith, ge) in subst (λ (m : ℕ). Best Left total (es ++ e ∷ []) m) (sym z) (record {
        within = b.within;
        left = λ some. any_before (Left n) es (e ∷ []) (b.left some);
        none = All-push (λ x. n < total → Left (n + 1) x → ⊥) es e b.none
            (λ below p. c.none (omega (arith, ge, below)) (lowered Left falls (k + 1) (n + 1) e (omega (arith, ge)) p));
      }))
]

-- the next entry of a list
module _ {E : Type 0} (Left : ℕ → E → Type 0) (total : ℕ) (es : List E) (i n k : ℕ) (e : E) where
  pub best_of_next : ((j : ℕ) (x : E) → Left (suc j) x → Left j x) → i < length es → e ≡ get_or es i e
      → Best Left total (take i es) n → Comes Left total e k
      → Best Left total (take (i + 1) es) (max n k)
  best_of_next falls lt is b c = rw (take_more es i e lt, ← is) (best_of_more Left total (take i es) n e k falls b c)

-- the entries behind the first that pass no filter
module _ {E : Type 0} (Left : ℕ → E → Type 0) (total : ℕ) (es : List E) (a b n : ℕ) where
  pub best_of_skipped : ((j : ℕ) (x : E) → Left (suc j) x → Left j x) → a ≤ b → b ≤ length es
      → ((i : ℕ) (x : E) → a ≤ i → i < b → slice_get es i ≡ Some x → Left 1 x → ⊥) → Best Left total (take a es) n
      → Best Left total (take b es) n
  best_of_skipped falls le within others h = record {
    within = h.within;
    left = λ some. go (h.left some);
    none =
        λ k d lt below p. never k d (omega (arith, lt, size b)) (omega (arith, lt, size b)) below (subst (Left (n + 1))
        (get_or-take b es k d (omega (arith, lt, size b))) p);
  }
    where
      size : (j : ℕ) → length (take j es) ≡ min j (length es)
      size j = length-take j es

      go : Any (Left n) (take a es) → Any (Left n) (take b es)
      go (i, x, lt, is, p) = (
        i,
        x,
        omega (arith, lt, le, size a, size b),
        get_or-take b es i x (omega (arith, lt, le, size a))
            ∙ sym (get_or-take a es i x (omega (arith, lt, size a))) ∙ is,
        p,
      )

      never : (k : ℕ) (d : E) → k < b → k < length es → n < total → Left (n + 1) (get_or es k d) → ⊥
      never k d lt inside below p = elim (cases_lt k a) [
        | inl first ↦ h.none k d (omega (arith, first, inside, size a)) below
            (subst (Left (n + 1)) (sym (get_or-take a es k d first)) p)
        | inr ge ↦ others k (get_or es k d) ge lt (slice_get-get_or es k d inside)
            (lowered Left falls 1 (n + 1) (get_or es k d) (omega arith) p)
      ]

-- behind the last entry: this is where the filters stop
pub best_stops : {E : Type 0} (Left : ℕ → E → Type 0) (total : ℕ) (es : List E) (n : ℕ) → n < total
    → Best Left total es n → StopsAt Left total es n
best_stops Left total es n lt b = record {
  within = lt;
  left = b.left;
  none = all-along (λ x. n < total → Left (n + 1) x → ⊥) (λ x. Left (n + 1) x → ⊥) es (λ x m none p. none lt p) b.none;
}

-- or one is left after each of them
pub best_left : {E : Type 0} (Left : ℕ → E → Type 0) (total : ℕ) (es : List E) (n : ℕ) → 0 < total → (n < total → ⊥)
    → Best Left total es n → Any (Left total) es
best_left Left total es n some over b = elim (cases_lt n total) [
  | inl lt ↦ absurd (over lt)
  | inr ge ↦ (let z : n ≡ total = omega (arith, ge, b.within) in
      subst (λ (m : ℕ). Any (Left m) es) z (b.left (omega (arith, some, z))))
]
