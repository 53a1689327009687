-- What a response says failed (RFC 3161, 2.4.2): the bits of a BIT STRING. If it is absent, no bit is set.
use Rattle.std.specs.Prelude.{ℕ, Bool, false, List, Option, Some, None}
use Rattle.der_core.specs.BitsSet.{has_bit}

abbrev pub fails_by : ℕ → Option (List ℕ) → Bool
fails_by n None = false
fails_by n (Some contents) = has_bit n contents
