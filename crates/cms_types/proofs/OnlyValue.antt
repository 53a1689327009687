-- The element that fills a body is the only one of a list of elements there, and if none does, there is no only one.
use Rattle.std.proofs.Common.{◌≡◌, ℕ, Bool, true, false, eqb, List, [], ◌∷◌, length, Some, None, Result, Ok, Err, refl}
use Rattle.std.proofs.Common.{sym, ap, subst, ◌∙◌, inl, inr}
use Rattle.std.specs.Prelude.{IsErr}
use Rattle.der_core.specs.declared.fault.Fault.{Fault}
use Rattle.der_core.specs.declared.fault.Kind.TheVariants.{Trailing}
use Rattle.der_core.specs.Element.{IsBytes}
use Rattle.der_core.specs.Lists.{only}
use Rattle.der_core.specs.Reading.{fault, Spot, end_at, many_in}
use Rattle.der_core.specs.Results.{◌>>=◌}
use Rattle.der_core.proofs.ReadLengths.{ok_is, chosen}
use Rattle.der_core.proofs.Results.{bind_ok}
use Rattle.der_lists.specs.Items.{all_in, IsList, opaque_item, explicit_opaque_in}
use Rattle.der_lists.specs.Shorter.{opaque_shorter}
use Rattle.der_lists.proofs.Items.{no_items, end_faulty, no_item_faulty, first_item}

at_end : (s : Spot) (u : Unit {0}) → end_at s ≡ Ok u → eqb (length s.rest) 0 ≡ true
unfolding end_at
at_end s u e = elim (chosen (eqb (length s.rest) 0) (Ok tt) (Err (fault Trailing s.pos)) (Ok u) e) [
  | inl h ↦ h.0
  | inr h ↦ absurd (let z = h.1 in cc)
]

no_end : (s : Spot) (x : List ℕ) (f : Fault) → (end_at s >>= λ u. Ok x) ≡ Err f → eqb (length s.rest) 0 ≡ false
unfolding end_at
no_end s x f e = go (eqb (length s.rest) 0) refl
  where
    go : (b : Bool) → eqb (length s.rest) 0 ≡ b → b ≡ false
    go true k = absurd (let z = rw k at e in cc)
    go false k = refl

listed : (s : Spot) (xs : List (List ℕ)) → many_in opaque_item s ≡ Ok xs
    → IsList opaque_item s × (all_in opaque_item s ≡ xs)
listed s xs e = (rw e refl, rw e refl)

some_here : (s : Spot) (y : List ℕ × Spot) → IsBytes s.rest → opaque_item s ≡ Ok y → eqb (length s.rest) 0 ≡ false
some_here s y fits e = go (eqb (length s.rest) 0) refl
  where
    go : (b : Bool) → eqb (length s.rest) 0 ≡ b → b ≡ false
    go true k =
        let z =
        subst (λ (r : Result (List ℕ × Spot) Fault). IsErr r) e (end_faulty opaque_item opaque_shorter s fits k) in
        absurd (let x = z in cc)
    go false k = refl

pub filled_by : (s : Spot) (xs : List (List ℕ)) (x : List ℕ) → IsBytes s.rest → many_in opaque_item s ≡ Ok xs
    → explicit_opaque_in s ≡ Ok x → Some x ≡ only xs
unfolding explicit_opaque_in
filled_by s xs x fits e k =
    let item = bind_ok (opaque_item s) (λ y. end_at y.1 >>= λ u. Ok y.0) x k in
    let end = bind_ok (end_at item.0.1) (λ u. Ok item.0.0) x item.2 in
    let list = listed s xs e in
    let first = first_item opaque_item opaque_shorter s item.0 fits (some_here s item.0 fits item.1) item.1 list.0 in
    let none : all_in opaque_item item.0.1 ≡ [] =
    no_items opaque_item opaque_shorter item.0.1 (at_end item.0.1 end.0 end.1) in
    let all : xs ≡ item.0.0 ∷ [] = sym list.1 ∙ first.1 ∙ ap (λ (ys : List (List ℕ)). item.0.0 ∷ ys) none in
    ap (λ (y : List ℕ). Some y) (sym (ok_is item.0.0 x end.2)) ∙ sym (ap only all)

pub filled_by_none : (s : Spot) (xs : List (List ℕ)) (f : Fault) → IsBytes s.rest → many_in opaque_item s ≡ Ok xs
    → explicit_opaque_in s ≡ Err f
    → None ≡ only xs
unfolding explicit_opaque_in
filled_by_none s xs f fits e k = go (eqb (length s.rest) 0) refl
  where
    list : IsList opaque_item s × (all_in opaque_item s ≡ xs)
    list = listed s xs e

    two : (y : List ℕ × Spot) → opaque_item s ≡ Ok y → IsBytes y.1.rest
        → IsList opaque_item y.1 × (all_in opaque_item s ≡ y.0 ∷ all_in opaque_item y.1)
        → eqb (length y.1.rest) 0 ≡ false → (r : Result (List ℕ × Spot) Fault) → opaque_item y.1 ≡ r → None ≡ only xs
    two y at fit first more (Ok z) is =
        let second = first_item opaque_item opaque_shorter y.1 z fit more is first.0 in
        let all : xs ≡ y.0 ∷ z.0 ∷ all_in opaque_item z.1 = sym list.1 ∙ first.1
        ∙ ap (λ (ys : List (List ℕ)). y.0 ∷ ys) second.1 in
        sym (ap only all)
    two y at fit first more (Err g) is = absurd (no_item_faulty opaque_item opaque_shorter y.1 g fit more is first.0)

    one : eqb (length s.rest) 0 ≡ false → (r : Result (List ℕ × Spot) Fault) → opaque_item s ≡ r → None ≡ only xs
    one some (Ok y) is =
        let behind : (end_at y.1 >>= λ u. Ok y.0) ≡ Err f =
        sym (ap (λ (r : Result (List ℕ × Spot) Fault). r >>= λ x. end_at x.1 >>= λ u. Ok x.0) is) ∙ k in
        let first = first_item opaque_item opaque_shorter s y fits some is list.0 in
        two y is (opaque_shorter.fits s y fits is) first (no_end y.1 y.0 f behind) (opaque_item y.1) refl
    one some (Err g) is = absurd (no_item_faulty opaque_item opaque_shorter s g fits some is list.0)

    go : (b : Bool) → eqb (length s.rest) 0 ≡ b → None ≡ only xs
    go true is = sym (ap only (sym list.1 ∙ no_items opaque_item opaque_shorter s is))
    go false is = one is (opaque_item s) refl
