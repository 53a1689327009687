-- Reading an element that must have a member.
use Rattle.std.specs.Prelude.{ℕ, Result}
use Rattle.der_core.specs.declared.fault.Fault.{Fault}
use Rattle.der_core.specs.Reading.{Spot, within, filled_in}
use Rattle.der_lists.specs.Items.{IsItem}
use Rattle.der_lists.specs.Shorter.{within_shorter}

-- the element at the front, whose contents have at least one octet and are read by inside
abbrev pub within_filled : {A : Type 0} → ℕ → (Spot → Result A Fault) → Spot → Result (A × Spot) Fault
within_filled tag inside s = within tag (filled_in s.pos inside) s

pub filled_shorter : {A : Type 0} (tag : ℕ) (inside : Spot → Result A Fault) → IsItem (within_filled tag inside)
filled_shorter tag inside = record {
  shorter = λ s y fits e. (within_shorter tag (filled_in s.pos inside)).shorter s y fits e;
  fits = λ s y fits e. (within_shorter tag (filled_in s.pos inside)).fits s y fits e;
}
