-- How many octets may be kept of a file that is read in pieces.
use Rattle.std.specs.Prelude.{◌≡◌, ℕ, Bool, true, false, Option, Some, None}

-- the most: what the words say; if they don't, 2^26 of a file that can be read again, and 2^20 of one that can be read
-- only once
abbrev pub IsLimit : (said : Option ℕ) → (again : Bool) → (limit : ℕ) → Type 0
IsLimit (Some octets) again limit = limit ≡ octets
IsLimit None true limit = limit ≡ 67108864
IsLimit None false limit = limit ≡ 1048576
