-- Periods of trust.
use Rattle.std.specs.Prelude.{ℕ, Bool, false, nat_lt, Option, Some}

-- both ends are given, and the first is later than the last
abbrev pub is_backwards : (from until : Option ℕ) → Bool
is_backwards (Some from) (Some until) = nat_lt until from
is_backwards _ _ = false
