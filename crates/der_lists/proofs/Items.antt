-- A list is its first item and the others.
use Rattle.std.proofs.Common.{◌≡◌, ℕ, zero, suc, ◌+◌, ◌-◌, ◌≤◌, true, false, cond, eqb, List, [], ◌∷◌, length, Result}
use Rattle.std.proofs.Common.{Ok, Err, refl, ap, subst, ◌∙◌, arith}
use Rattle.std.specs.Prelude.{IsOk, IsErr}
use Rattle.std.proofs.lemmas.Bool.{eqb-true, eqb-false, eq-eqb}
use Rattle.der_core.specs.declared.fault.Fault.{Fault}
use Rattle.der_core.specs.Element.{IsBytes}
use Rattle.der_core.specs.Reading.{Spot, many_from, many_in}
use Rattle.der_core.specs.Results.{◌>>=◌}
use Rattle.der_core.proofs.Lists.{bind_same}
use Rattle.der_lists.specs.Items.{Reading, items_of, all_in, IsList, IsItem}

-- reading gives a list, which has so many items
abbrev pub HasCount : {A : Type 0} → ℕ → Result (List A) Fault → Type 0
HasCount n (Ok xs) = n ≡ length xs
HasCount n (Err f) = ⊥

-- what reading the items from here to the end, after so many, says about reading the whole list
abbrev pub Agrees : {A : Type 0} → ℕ → Result (List A) Fault → Result (List A) Fault → Type 0
Agrees n (Ok xs) all = HasCount (n + length xs) all
Agrees n (Err f) all = all ≡ Err f

pub agrees_self : {A : Type 0} (r : Result (List A) Fault) → Agrees 0 r r
agrees_self (Ok xs) = omega arith
agrees_self (Err f) = refl

pub agrees_cons : {A : Type 0} (n : ℕ) (x : A) (r all : Result (List A) Fault) → Agrees n (r >>= λ xs. Ok (x ∷ xs)) all
    → Agrees (n + 1) r all
agrees_cons n x (Ok xs) all h = subst (λ (m : ℕ). HasCount m all) (omega arith) h
agrees_cons n x (Err f) all h = h

pub agrees_end_of : {A : Type 0} (n : ℕ) {r : Result (List A) Fault} (all : Result (List A) Fault) → r ≡ Ok []
    → Agrees n r all → HasCount n all
agrees_end_of n all e h =
    let counted : HasCount (n + 0) all = subst (λ (r : Result _ Fault). Agrees n r all) e h in
    subst (λ (m : ℕ). HasCount m all) (omega arith) counted

-- a list whose items were counted was read, and has so many
pub counted_ok : {A : Type 0} (n : ℕ) (r : Result (List A) Fault) → HasCount n r → IsOk r
counted_ok n (Ok xs) h = refl
counted_ok n (Err f) h = absurd h

pub counted_length : {A : Type 0} (n : ℕ) (r : Result (List A) Fault) (xs : List A) → HasCount n r → r ≡ Ok xs
    → n ≡ length xs
counted_length {A = A} n r xs h e = subst (λ (r : Result (List A) Fault). HasCount n r) e h

-- if reading gives items, they are the items of the list
pub ok_items : {A : Type 0} (r : Result (List A) Fault) → IsOk r → r ≡ Ok (items_of r)
ok_items (Ok xs) h = refl
ok_items (Err f) h = absurd cc

module _ {A : Type 0} (read : Reading A) (item : IsItem read) where
  abbrev Items : Type 0
  Items = Result (List A) Fault

  -- the bound doesn't matter if it is not less than the number of octets
  many_fuel : (k j : ℕ) (s : Spot) → IsBytes s.rest → length s.rest ≤ k → length s.rest ≤ j
      → many_from read k s ≡ many_from read j s
  unfolding many_from
  many_fuel zero zero s fits a b = refl
  many_fuel zero (suc j) s fits a b = let e : eqb (length s.rest) 0 ≡ true = eq-eqb _ _ (omega arith) in rw e refl
  many_fuel (suc k) zero s fits a b = let e : eqb (length s.rest) 0 ≡ true = eq-eqb _ _ (omega arith) in rw e refl
  many_fuel (suc k) (suc j) s fits a b =
      ap (λ (r : Items). cond (eqb (length s.rest) 0) (Ok []) r) (bind_same (read s) _ _ (λ x e.
      let shorter = item.shorter s x fits e in
      ap (λ (r : Items). r >>= λ xs. Ok (x.0 ∷ xs))
      (many_fuel k j x.1 (item.fits s x fits e) (omega (arith, shorter, a)) (omega (arith, shorter, b)))))

  pub many_step : (s : Spot) → IsBytes s.rest → eqb (length s.rest) 0 ≡ false
      → many_in read s ≡ (read s >>= λ x. many_in read x.1 >>= λ xs. Ok (x.0 ∷ xs))
  unfolding many_from many_in
  many_step s fits some =
      let k : ℕ = length s.rest - 1 in
      let k-is : length s.rest ≡ suc k = omega (arith, eqb-false _ _ some) in
      let one : many_from read (suc k) s ≡ (read s >>= λ x. many_from read k x.1 >>= λ xs. Ok (x.0 ∷ xs)) =
      rw some refl in
      ap (λ (m : ℕ). many_from read m s) k-is ∙ one ∙ bind_same (read s) _ _ (λ x e.
      let shorter = item.shorter s x fits e in
      ap (λ (r : Items). r >>= λ xs. Ok (x.0 ∷ xs))
      (many_fuel k (length x.1.rest) x.1 (item.fits s x fits e) (omega (arith, shorter, k-is)) (omega arith)))

  pub many_end : (s : Spot) → eqb (length s.rest) 0 ≡ true → many_in read s ≡ Ok []
  unfolding many_from many_in
  many_end s e = go (length s.rest)
    where
      go : (k : ℕ) → many_from read k s ≡ Ok []
      go zero = refl
      go (suc k) = rw e refl

  -- ---- the steps of a loop that tests a list

  pub agrees_next : (n : ℕ) (s : Spot) (y : A × Spot) (all : Items) → IsBytes s.rest → eqb (length s.rest) 0 ≡ false
      → read s ≡ Ok y
      → Agrees n (many_in read s) all → Agrees (n + 1) (many_in read y.1) all
  agrees_next n s y all fits some e h =
      let step : many_in read s ≡ (many_in read y.1 >>= λ xs. Ok (y.0 ∷ xs)) = many_step s fits some
      ∙ ap (λ (r : Result (A × Spot) Fault). r >>= λ x. many_in read x.1 >>= λ xs. Ok (x.0 ∷ xs)) e in
      agrees_cons n y.0 (many_in read y.1) all (subst (λ (r : Items). Agrees n r all) step h)

  pub agrees_err : (n : ℕ) (s : Spot) (f : Fault) (all : Items) → IsBytes s.rest → eqb (length s.rest) 0 ≡ false
      → read s ≡ Err f
      → Agrees n (many_in read s) all → all ≡ Err f
  agrees_err n s f all fits some e h =
      let step : many_in read s ≡ Err f = many_step s fits some
      ∙ ap (λ (r : Result (A × Spot) Fault). r >>= λ x. many_in read x.1 >>= λ xs. Ok (x.0 ∷ xs)) e in
      subst (λ (r : Items). Agrees n r all) step h

  pub agrees_end : (n : ℕ) (s : Spot) (all : Items) → eqb (length s.rest) 0 ≡ true → Agrees n (many_in read s) all
      → HasCount n all
  agrees_end n s all e h = agrees_end_of n all (many_end s e) h

  -- ---- the first item and the others

  -- there is no item at the end of a body
  pub end_faulty : (s : Spot) → IsBytes s.rest → eqb (length s.rest) 0 ≡ true → IsErr (read s)
  end_faulty s fits e = go (read s) refl
    where
      go : (r : Result (A × Spot) Fault) → read s ≡ r → IsErr r
      go (Ok y) k = let shorter = item.shorter s y fits k in absurd (omega (arith, shorter, eqb-true _ _ e))
      go (Err f) k = refl

  pub no_items : (s : Spot) → eqb (length s.rest) 0 ≡ true → all_in read s ≡ []
  no_items s e = ap items_of (many_end s e)

  pub no_item_faulty : (s : Spot) (f : Fault) → IsBytes s.rest → eqb (length s.rest) 0 ≡ false → read s ≡ Err f
      → IsList read s → ⊥
  no_item_faulty s f fits some e h =
      let all = agrees_err 0 s f (many_in read s) fits some e (agrees_self (many_in read s)) in
      let z = subst (λ (r : Items). IsOk r) all h in cc

  pub first_item : (s : Spot) (y : A × Spot) → IsBytes s.rest → eqb (length s.rest) 0 ≡ false → read s ≡ Ok y
      → IsList read s
      → IsList read y.1 × (all_in read s ≡ y.0 ∷ all_in read y.1)
  first_item s y fits some e h = go (many_in read y.1) refl
    where
      step : many_in read s ≡ (many_in read y.1 >>= λ xs. Ok (y.0 ∷ xs))
      step = many_step s fits some
          ∙ ap (λ (r : Result (A × Spot) Fault). r >>= λ x. many_in read x.1 >>= λ xs. Ok (x.0 ∷ xs)) e

      go : (r : Items) → many_in read y.1 ≡ r → IsList read y.1 × (all_in read s ≡ y.0 ∷ all_in read y.1)
      go (Ok xs) k = let all : many_in read s ≡ Ok (y.0 ∷ xs) = step
          ∙ ap (λ (r : Items). r >>= λ ys. Ok (y.0 ∷ ys)) k in (rw k refl, rw (all, k) refl)
      go (Err f) k =
          let all : many_in read s ≡ Err f = step ∙ ap (λ (r : Items). r >>= λ ys. Ok (y.0 ∷ ys)) k in
          absurd (let z = subst (λ (r : Items). IsOk r) all h in cc)
