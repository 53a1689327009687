-- The steps of a loop that tests a list whose items are checked.
use Rattle.std.proofs.Common.{◌≡◌, ℕ, zero, suc, ◌+◌, ◌-◌, ◌≤◌, true, false, cond, eqb, List, [], ◌∷◌, length, Result}
use Rattle.std.proofs.Common.{Ok, Err, refl, ap, subst, ◌∙◌, arith}
use Rattle.std.proofs.Common.{inl, inr}
use Rattle.std.specs.Prelude.{IsOk}
use Rattle.std.proofs.lemmas.Bool.{eqb-false, eq-eqb}
use Rattle.der_core.specs.declared.fault.Fault.{Fault}
use Rattle.der_core.specs.declared.fault.Kind.TheVariants.{Order}
use Rattle.der_core.specs.Element.{IsBytes}
use Rattle.der_core.specs.Lists.{is_less}
use Rattle.der_core.specs.Reading.{fault, Spot, many_from, many_in}
use Rattle.der_core.specs.Results.{◌>>=◌}
use Rattle.der_core.proofs.ReadLengths.{chosen}
use Rattle.der_core.proofs.Results.{bind_ok}
use Rattle.der_core.proofs.Lists.{bind_same}
use Rattle.der_lists.specs.Items.{Reading, IsList, all_in, IsItem}
use Rattle.der_lists.specs.Checked.{Check, checked_from, checked_in, rank_at}
use Rattle.der_lists.proofs.Items.{Agrees, agrees_cons}

-- ---- the check of the order

module _ (front : Spot → Result (List ℕ) Fault) (last : List ℕ) where
  pub rank_err : (s : Spot) (f : Fault) → front s ≡ Err f → rank_at front last s ≡ Err f
  unfolding rank_at
  rank_err s f e = rw e refl

  pub rank_less : (w : List ℕ) (s : Spot) → front s ≡ Ok w → is_less w last ≡ true
      → rank_at front last s ≡ Err (fault Order s.pos)
  unfolding rank_at
  rank_less w s e h = rw (e, h) refl

  pub rank_ok : (w : List ℕ) (s : Spot) → front s ≡ Ok w → is_less w last ≡ false → rank_at front last s ≡ Ok w
  unfolding rank_at
  rank_ok w s e h = rw (e, h) refl

-- ---- the loop

module _ {A : Type 0} (check : Check) (read : Reading A) (item : IsItem read) where
  abbrev Items : Type 0
  Items = Result (List A) Fault

  abbrev others : (List ℕ → Spot → Items) → Spot → Result (List ℕ) Fault → Items
  others go s checked = checked >>= λ w. read s >>= λ x. go w x.1 >>= λ xs. Ok (x.0 ∷ xs)

  checked_fuel : (k j : ℕ) (last : List ℕ) (s : Spot) → IsBytes s.rest
      → length s.rest ≤ k → length s.rest ≤ j → checked_from check read k last s ≡ checked_from check read j last s
  unfolding checked_from
  checked_fuel zero zero last s fits a b = refl
  checked_fuel zero (suc j) last s fits a b =
      let e : eqb (length s.rest) 0 ≡ true = eq-eqb _ _ (omega arith) in rw e refl
  checked_fuel (suc k) zero last s fits a b =
      let e : eqb (length s.rest) 0 ≡ true = eq-eqb _ _ (omega arith) in rw e refl
  checked_fuel (suc k) (suc j) last s fits a b =
      ap (λ (r : Items). cond (eqb (length s.rest) 0) (Ok []) r)
      (bind_same (check last s) _ _ (λ w c. bind_same (read s) _ _ (λ x e.
      let shorter = item.shorter s x fits e in
      ap (λ (r : Items). r >>= λ xs. Ok (x.0 ∷ xs))
      (checked_fuel k j w x.1 (item.fits s x fits e) (omega (arith, shorter, a)) (omega (arith, shorter, b))))))

  pub checked_step : (last : List ℕ) (s : Spot) → IsBytes s.rest
      → eqb (length s.rest) 0 ≡ false → checked_in check read last s ≡ others (checked_in check read) s (check last s)
  unfolding checked_from checked_in
  checked_step last s fits some =
      let k : ℕ = length s.rest - 1 in
      let k-is : length s.rest ≡ suc k = omega (arith, eqb-false _ _ some) in
      let one : checked_from check read (suc k) last s ≡ others (checked_from check read k) s (check last s) =
      rw some refl in
      ap (λ (m : ℕ). checked_from check read m last s) k-is ∙ one
      ∙ bind_same (check last s) _ _ (λ w c. bind_same (read s) _ _ (λ x e.
      let shorter = item.shorter s x fits e in
      ap (λ (r : Items). r >>= λ xs. Ok (x.0 ∷ xs)) (checked_fuel k (length x.1.rest) w x.1 (item.fits s x fits e)
      (omega (arith, shorter, k-is)) (omega arith))))

  pub checked_end : (last : List ℕ) (s : Spot) → eqb (length s.rest) 0 ≡ true → checked_in check read last s ≡ Ok []
  unfolding checked_from checked_in
  checked_end last s e = go (length s.rest)
    where
      go : (k : ℕ) → checked_from check read k last s ≡ Ok []
      go zero = refl
      go (suc k) = rw e refl

  pub checked_next : (n : ℕ) (last w : List ℕ) (s : Spot) (y : A × Spot) (all : Items) → IsBytes s.rest
      → eqb (length s.rest) 0 ≡ false
      → check last s ≡ Ok w → read s ≡ Ok y → Agrees n (checked_in check read last s) all
      → Agrees (n + 1) (checked_in check read w y.1) all
  checked_next n last w s y all fits some c e h =
      let one : others (checked_in check read) s (check last s)
      ≡ (checked_in check read w y.1 >>= λ xs. Ok (y.0 ∷ xs)) = rw (c, e) refl in
      agrees_cons n y.0 (checked_in check read w y.1) all
      (subst (λ (r : Items). Agrees n r all) (checked_step last s fits some ∙ one) h)

  pub checked_refuses : (n : ℕ) (last : List ℕ) (s : Spot) (f : Fault) (all : Items) → IsBytes s.rest
      → eqb (length s.rest) 0 ≡ false → check last s ≡ Err f → Agrees n (checked_in check read last s) all → all ≡ Err f
  checked_refuses n last s f all fits some c h =
      let one : others (checked_in check read) s (check last s) ≡ Err f = rw c refl in
      subst (λ (r : Items). Agrees n r all) (checked_step last s fits some ∙ one) h

  pub checked_err : (n : ℕ) (last w : List ℕ) (s : Spot) (f : Fault) (all : Items) → IsBytes s.rest
      → eqb (length s.rest) 0 ≡ false → check last s ≡ Ok w → read s ≡ Err f
      → Agrees n (checked_in check read last s) all → all ≡ Err f
  checked_err n last w s f all fits some c e h =
      let one : others (checked_in check read) s (check last s) ≡ Err f = rw (c, e) refl in
      subst (λ (r : Items). Agrees n r all) (checked_step last s fits some ∙ one) h

  -- ---- items that were checked are items

  checked_many : (k : ℕ) (last : List ℕ) (s : Spot) (xs : List A) → checked_from check read k last s ≡ Ok xs
      → many_from read k s ≡ Ok xs
  unfolding checked_from many_from
  checked_many zero last s xs e = e
  checked_many (suc k) last s xs e =
      let none : Items = Ok [] in
      elim (chosen (eqb (length s.rest) 0) none (others (checked_from check read k) s (check last s)) (Ok xs) e) [
        | inl h ↦ rw h.0 h.1
        | inr h ↦
            let c = bind_ok (check last s)
            (λ w. read s >>= λ x. checked_from check read k w x.1 >>= λ ys. Ok (x.0 ∷ ys)) xs h.1 in
            let b = bind_ok (read s) (λ x. checked_from check read k c.0 x.1 >>= λ ys. Ok (x.0 ∷ ys)) xs c.2 in
            let d = bind_ok (checked_from check read k c.0 b.0.1) (λ ys. Ok (b.0.0 ∷ ys)) xs b.2 in
            let m : many_from read k b.0.1 ≡ Ok d.0 = checked_many k c.0 b.0.1 d.0 d.1 in
            rw (h.0, b.1, m) d.2
      ]

  -- if a list is checked to its end, its items are those of the list
  pub checked_list : (last : List ℕ) (s : Spot) → IsOk (checked_in check read last s)
      → IsList read s × (checked_in check read last s ≡ Ok (all_in read s))
  unfolding checked_in many_in
  checked_list last s h = go (checked_in check read last s) refl
    where
      go : (r : Items) → checked_in check read last s ≡ r
          → IsList read s × (checked_in check read last s ≡ Ok (all_in read s))
      go (Ok xs) e =
          let all : many_in read s ≡ Ok xs = checked_many (length s.rest) last s xs e in
          (rw all refl, rw all e)
      go (Err f) e = absurd (let z = subst (λ (r : Items). IsOk r) e h in cc)
