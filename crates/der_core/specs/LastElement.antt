-- The last part of a body, kept whole, if such an element is present: if it isn't, the body must end.
use Rattle.std.specs.Prelude.{ℕ, List, Option, Some, None, Result, Ok, if◌then◌else◌}
use Rattle.der_core.specs.declared.fault.Fault.{Fault}
use Rattle.der_core.specs.Element.{has_tag}
use Rattle.der_core.specs.Reading.{Spot, element_at, none_at}
use Rattle.der_core.specs.Results.{◌>>=◌}

abbrev pub last_element : ℕ → Spot → Result (Option (List ℕ) × Spot) Fault
last_element tag s = if has_tag tag s.rest then (element_at tag s >>= λ x. Ok (Some x.0, x.1))
    else (none_at s >>= λ u. Ok (None, s))
