-- Marks of names, which are compared before the names.
use Rattle.std.specs.Prelude.{ℕ, ◌+◌, ◌*◌, ◌%◌, ◌^◌, List}
use Rattle.std.specs.List.{fold}

-- the mark behind an octet: the factor is odd, 2^64 by the golden ratio
abbrev pub next_mark : (mark octet : ℕ) → ℕ
next_mark mark octet = (((mark + octet) % 2 ^ 64) * 0x9e3779b97f4a7c15) % 2 ^ 64

abbrev pub mark_of : List ℕ → ℕ
mark_of octets = fold next_mark 0 octets
