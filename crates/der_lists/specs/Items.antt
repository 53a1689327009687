-- Items that follow one another to the end of a body, as a cursor at the first of them.
use Rattle.std.specs.Prelude.{◌≡◌, ℕ, ◌<◌, List, [], Result, Ok, Err, IsOk, length}
use Rattle.der_core.specs.declared.fault.Fault.{Fault}
use Rattle.der_core.specs.Element.{IsBytes}
use Rattle.der_core.specs.Reading.{Spot, next_at, expect_at, many_in, whole_of}
use Rattle.der_core.specs.Results.{◌>>=◌}

-- how an item is read from the front of a body
abbrev pub Reading : Type 0 → Type 0
Reading A = Spot → Result (A × Spot) Fault

abbrev pub items_of : {A : Type 0} → Result (List A) Fault → List A
items_of (Ok xs) = xs
items_of (Err f) = []

-- the items from here to the end of the body
abbrev pub all_in : {A : Type 0} → Reading A → Spot → List A
all_in read s = items_of (many_in read s)

-- there are items from here to the end of the body, and nothing else
abbrev pub IsList : {A : Type 0} → Reading A → Spot → Type 0
IsList read s = IsOk (many_in read s)

-- such a list, which has this many items
abbrev pub IsCounted : {A : Type 0} → Reading A → Spot → ℕ → Type 0
IsCounted read s count = IsList read s × (count ≡ length (all_in read s))

-- an item that is read is consumed: at least one octet
pub record IsItem {A : Type 0} (read : Reading A) : Type 0 where
  pub shorter : (s : Spot) (y : A × Spot) → IsBytes s.rest → read s ≡ Ok y → length y.1.rest < length s.rest
  pub fits : (s : Spot) (y : A × Spot) → IsBytes s.rest → read s ≡ Ok y → IsBytes y.1.rest

-- What a scan of a list reports: how many items reading the list gives, which are then the items of the list;
-- otherwise the fault that reading gives.
abbrev pub ScansList : {A : Type 0} → Reading A → Spot → Result ℕ Fault → Result (List A) Fault → Type 0
ScansList read s (Ok count) all = IsCounted read s count × (all ≡ Ok (all_in read s))
ScansList read s (Err f) all = all ≡ Err f

-- an element of any kind
unfoldable pub opaque_item : Spot → Result (List ℕ × Spot) Fault
opaque_item s = next_at s >>= λ x. Ok (x.0.whole, x.1)

-- a body that is one element of any kind, as within an explicit tag
unfoldable pub explicit_opaque_in : Spot → Result (List ℕ) Fault
explicit_opaque_in s = whole_of opaque_item s

-- the element at the front, of any kind; and one with this identifier
unfoldable pub opaque_front : Spot → Result (List ℕ) Fault
opaque_front s = next_at s >>= λ x. Ok x.0.whole

unfoldable pub front_at : ℕ → Spot → Result (List ℕ) Fault
front_at tag s = expect_at tag s >>= λ x. Ok x.0.whole
