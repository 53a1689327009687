-- Octets spelled in hexadecimal digits.
use Prim.Native.String.{String}
use Rattle.std.specs.Prelude.{ℕ, ◌+◌, ◌-◌, ◌*◌, List, [], ◌∷◌, nat_lt, ◌==◌, codes, if◌then◌else◌}

-- the value of a digit: '0' to '9' are 48 to 57, and 'a' to 'f' are 97 to 102
abbrev pub digit : ℕ → ℕ
digit c = if nat_lt c 97 then c - 48 else c - 87

-- without the spaces
abbrev pub unspaced : List ℕ → List ℕ
unspaced [] = []
unspaced (c ∷ cs) = let rest = unspaced cs in if c == 32 then rest else c ∷ rest

-- an octet for each two digits
abbrev pub paired : List ℕ → List ℕ
paired [] = []
paired (c ∷ []) = []
paired (c ∷ d ∷ cs) = (16 * digit c + digit d) ∷ paired cs

-- the octets that a text of lower case digits and spaces spells, two digits for each octet
abbrev pub hex : String → List ℕ
hex text = paired (unspaced (codes text))
