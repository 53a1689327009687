-- A list that was read is gone through by the headings of its items.
use Rattle.std.proofs.Common.{◌≡◌, ℕ, false, eqb, [], ◌∷◌, length, Some, None, Result, Ok, Err, refl, ap, ◌∙◌, inl}
use Rattle.std.proofs.Common.{inr}
use Rattle.der_core.specs.declared.fault.Fault.{Fault}
use Rattle.der_core.specs.Element.{IsBytes}
use Rattle.der_core.specs.Reading.{Spot, within, enter_at}
use Rattle.der_core.specs.Results.{◌>>=◌}
use Rattle.der_lists.specs.Items.{all_in, IsList}
use Rattle.der_lists.specs.Shorter.{within_shorter}
use Rattle.der_lists.proofs.Items.{first_item, no_items, no_item_faulty}
use Rattle.cms_types.specs.Entering.{EntersFront}

module _ {A : Type 0} (tag : ℕ) (inside : Spot → Result A Fault) where
  abbrev Item : Spot → Result (A × Spot) Fault
  Item s = within tag inside s

  abbrev read_in : Spot → Spot → Result (A × Spot) Fault
  read_in c after = inside c >>= λ a. Ok (a, after)

  -- there is a heading unless the list is at its end
  pub not_entered : (s : Spot) (f : Fault) → IsBytes s.rest → eqb (length s.rest) 0 ≡ false → enter_at tag s ≡ Err f
      → IsList (within tag inside) s → ⊥
  not_entered s f fits some e h =
      no_item_faulty (within tag inside) (within_shorter tag inside) s f fits some
      (ap (λ (r : Result (Spot × Spot) Fault). r >>= λ x. inside x.0 >>= λ a. Ok (a, x.1)) e) h

  -- the first item is what is read of the contents, and the others follow
  pub record Entered (s c after : Spot) : Type 0 where
    pub value : A
    pub read : inside c ≡ Ok value
    pub items : all_in (within tag inside) s ≡ value ∷ all_in (within tag inside) after
    pub list : IsList (within tag inside) after

  pub entered : (s c after : Spot) → IsBytes s.rest → eqb (length s.rest) 0 ≡ false → enter_at tag s ≡ Ok (c, after)
      → IsList (within tag inside) s
      → Entered s c after
  entered s c after fits some e h = go (inside c) refl
    where
      step : Item s ≡ read_in c after
      step = ap (λ (r : Result (Spot × Spot) Fault). r >>= λ x. inside x.0 >>= λ a. Ok (a, x.1)) e

      go : (r : Result A Fault) → inside c ≡ r → Entered s c after
      go (Ok a) k =
          let first = first_item (within tag inside) (within_shorter tag inside) s (a, after) fits some
          (step ∙ ap (λ (r : Result A Fault). r >>= λ b. Ok (b, after)) k) h in
          record { value = a; read = k; items = first.1; list = first.0 }
      go (Err f) k = absurd (no_item_faulty (within tag inside) (within_shorter tag inside) s f fits some
          (step ∙ ap (λ (r : Result A Fault). r >>= λ b. Ok (b, after)) k) h)

-- the same of what was found at the front of a list of SEQUENCEs
module _ {A : Type 0} (inside : Spot → Result A Fault) where
  pub none_at_front : (s : Spot) → IsBytes s.rest → EntersFront s None → IsList (within 0x30 inside) s
      → all_in (within 0x30 inside) s ≡ []
  none_at_front s fits (inl none) h = no_items (within 0x30 inside) (within_shorter 0x30 inside) s none
  none_at_front s fits (inr e) h = absurd (not_entered 0x30 inside s e.1.0 fits e.0 e.1.1 h)

  pub first_at_front : (s : Spot) (x : Spot × Spot) → IsBytes s.rest → EntersFront s (Some x)
      → IsList (within 0x30 inside) s → Entered 0x30 inside s x.0 x.1
  first_at_front s x fits e h = entered 0x30 inside s x.0 x.1 fits e.0 e.1 h
