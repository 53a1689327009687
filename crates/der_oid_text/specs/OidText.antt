-- The text of an OBJECT IDENTIFIER: its arcs in decimal, joined by points (X.690 8.19).
use Rattle.std.specs.Prelude.{◌≡◌, ℕ, ◌-◌, ◌%◌, ◌^◌, Bool, true, List, [], ◌∷◌, ◌++◌, map, nat_lt, if◌then◌else◌, codes}
use Rattle.std.specs.List.{onto_first, join_with_byte}
use Rattle.std.specs.Int.Digits.{number_from_digits}
use Rattle.std.specs.Fmt.{decimal}
use Rattle.hex.specs.Hex.{encode_lower}
use Rattle.der_core.specs.Lists.{every}
use Rattle.der_core.specs.Contents.{is_oid}
use Rattle.der_core.specs.Element.{IsBytes}

-- the series of octets (8.19.2): each ends at the first octet whose high bit is clear
abbrev pub series : List ℕ → List (List ℕ)
series [] = []
series (b ∷ bs) = if nat_lt b 128 then (b ∷ []) ∷ series bs else onto_first b (series bs)

-- the number of a series (8.19.2): in base 128 its digits are the low seven bits of each octet
abbrev pub number_of : List ℕ → ℕ
number_of octets = number_from_digits 128 (map (λ b. b % 128) octets)

-- the subidentifiers of contents octets (8.19.2)
abbrev pub subidentifiers : List ℕ → List ℕ
subidentifiers contents = map number_of (series contents)

-- the first two arcs (8.19.4): the first subidentifier is 40 X + Y, where X is 0, 1 or 2, and Y is below 40 unless X is
-- 2
abbrev pub first_arcs : ℕ → List ℕ
first_arcs s = if nat_lt s 40 then 0 ∷ s ∷ []
    else if nat_lt s 80 then 1 ∷ (s - 40) ∷ []
    else 2 ∷ (s - 80) ∷ []

-- the arcs of subidentifiers (8.19.3 to 8.19.5): two for the first, and one for each further one
abbrev pub arcs : List ℕ → List ℕ
arcs [] = []
arcs (s ∷ ss) = first_arcs s ++ ss

-- numbers in decimal, joined by points
abbrev pub dotted : List ℕ → List ℕ
dotted numbers = join_with_byte 46 (map decimal numbers)

-- no number is above 2^128 - 1
abbrev pub are_small : List ℕ → Bool
are_small numbers = every (λ n. nat_lt n (2 ^ 128)) numbers

-- the text of contents octets (8.19): as 2.999.3, or hex:8837.. if a subidentifier is above 2^128 - 1
abbrev pub text_of : List ℕ → List ℕ
text_of contents = if are_small (subidentifiers contents) then dotted (arcs (subidentifiers contents))
    else codes "hex:" ++ encode_lower contents

-- a text spells these contents octets of an OBJECT IDENTIFIER (8.19): it is their text, in decimal
pub record Spells (text contents : List ℕ) : Type 0 where
  pub octets : IsBytes contents
  pub formed : is_oid contents ≡ true
  pub small : are_small (subidentifiers contents) ≡ true
  pub spelled : text ≡ text_of contents
