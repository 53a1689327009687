-- How the name of a file is shown in a line, so that nothing in it ends the line, or looks like what is said of a file.
use Rattle.std.specs.Prelude.{ℕ, ◌-◌, ◌==◌, ◌&&◌, not, nat_le, Bool, false, if◌then◌else◌, List, [], ◌∷◌, ◌++◌}
use Rattle.std.specs.Prelude.{length, take, codes}
use Rattle.hex.specs.Hex.{encode_lower}

-- the characters of ASCII from the space to the tilde, except the backslash, and except a space behind a colon
abbrev pub is_plain : (colon : Bool) → ℕ → Bool
is_plain colon octet = nat_le 0x20 octet && nat_le octet 0x7e && not (octet == 0x5c) && not (colon && (octet == 0x20))

-- an octet: as it is, or a backslash, an x and two digits
abbrev pub shown_octet : (colon : Bool) → ℕ → List ℕ
shown_octet colon octet = if is_plain colon octet then octet ∷ [] else codes "\\x" ++ encode_lower (octet ∷ [])

-- octets, the first of which stands behind a colon or not
abbrev pub shown_behind : (colon : Bool) → List ℕ → List ℕ
shown_behind colon [] = []
shown_behind colon (octet ∷ octets) = shown_octet colon octet ++ shown_behind (octet == 0x3a) octets

abbrev pub shown : List ℕ → List ℕ
shown octets = shown_behind false octets

-- the comment before the questions of a file
abbrev pub heading_of : (name : List ℕ) → List ℕ
heading_of name = codes "# " ++ shown name ++ (10 ∷ [])

-- the line of a file: its name, and what a command says of it, a text that ends in LF
abbrev pub line_of : (name text : List ℕ) → List ℕ
line_of name text = shown name ++ codes ": " ++ shown (take (length text - 1) text) ++ (10 ∷ [])
