-- Items by their number, counted from 1, as signers and tokens are counted.
use Rattle.std.specs.Prelude.{ℕ, zero, suc, List, slice_get, Option, None}

-- the item of this number; none has the number 0, and none a number above how many there are
abbrev pub of_number : {A : Type 0} → List A → ℕ → Option A
of_number xs zero = None
of_number xs (suc n) = slice_get xs n
