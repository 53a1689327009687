-- Elements in ascending order (X.690, 8.1 and 11.6). The order of 11.6 pads the shorter octets at their end by 0
-- octets. No element is a beginning of another, so two different elements differ at an octet of both, and byte order is
-- that order.
use Rattle.std.specs.Prelude.{◌≡◌, ◌≢◌, ℕ, true, false, ◌⊎◌, List, [], ◌∷◌, ◌++◌, length}
use Rattle.der_core.specs.declared.fault.Fault.{Fault}
use Rattle.der_core.specs.declared.fault.Kind.TheVariants.{Order}
use Rattle.der_core.specs.Element.{IsElement}
use Rattle.der_core.specs.Form.{Element, whole, last_of}
use Rattle.der_core.specs.Lists.{is_less}
use Rattle.der_core.specs.Reading.{fault, spot}
use Rattle.der_core.specs.Standing.{IsFaultAt}

-- the octets of elements, one after the other (X.690 8.1)
abbrev pub encodings : List Element → List ℕ
encodings [] = []
encodings (e ∷ es) = whole e ++ encodings es

-- each is an element, and the octets of none are less than those of the one before it (X.690 11.6)
abbrev pub Ascends : List Element → Type 0
Ascends [] = Unit {0}
Ascends (e ∷ []) = IsElement e.0 e.1
Ascends (e ∷ d ∷ es) = IsElement e.0 e.1 × (is_less (whole d) (whole e) ≡ false) × Ascends (d ∷ es)

-- the octets are elements in ascending order, one after the other, and nothing else
abbrev pub InOrder : List ℕ → Type 0
InOrder octets = (es : List Element) × (octets ≡ encodings es) × Ascends es

-- after these elements comes one that is less than the last of them, and the fault is there
abbrev pub IsEarlyBehind : List Element → List ℕ → Fault → Type 0
IsEarlyBehind es rest f = (e : Element) × (more : List ℕ) × IsElement e.0 e.1 × (rest ≡ whole e ++ more)
    × (is_less (whole e) (last_of es) ≡ true) × (f ≡ fault Order (length (encodings es)))

-- octets follow these elements, and at their front is this fault, wherever an element is demanded there
abbrev pub IsNoneBehind : List Element → List ℕ → Fault → Type 0
IsNoneBehind es rest f = (rest ≢ []) × IsFaultAt (spot (length (encodings es)) rest) f

-- the octets begin with elements in ascending order, and the fault is right after them
abbrev pub FaultsOrder : List ℕ → Fault → Type 0
FaultsOrder octets f = (es : List Element) × (rest : List ℕ) × Ascends es × (octets ≡ encodings es ++ rest)
    × (IsEarlyBehind es rest f ⊎ IsNoneBehind es rest f)
