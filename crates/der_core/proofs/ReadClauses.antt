-- What a read must return for octets that encode a value, from what reading gives.
use Rattle.std.proofs.Common.{◌≡◌, List, ℕ, Result, Ok, Err, sym, ◌∙◌}
use Rattle.der_core.specs.declared.fault.Fault.{Fault}
use Rattle.der_core.proofs.ReadLengths.{ok_is}

module _ {V : Type 0} (read : List ℕ → Result V Fault) (Encodes : List ℕ → V → Type 0)
    (again : (bytes : List ℕ) (v : V) → Encodes bytes v → read bytes ≡ Ok v) where
  -- the value that was read is the one that is encoded
  pub same_value : (bytes : List ℕ) (w : V) → read bytes ≡ Ok w → (v : V) → Encodes bytes v → w ≡ v
  same_value bytes w h v e = ok_is w v (sym h ∙ again bytes v e)

  -- if reading has a fault, the octets encode nothing
  pub err_never : (bytes : List ℕ) (f : Fault) → read bytes ≡ Err f → (v : V) → Encodes bytes v → ⊥
  err_never bytes f h v e = let z = sym h ∙ again bytes v e in cc
