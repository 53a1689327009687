-- Worked rows: octets written in hexadecimal.
use Rattle.std.specs.Prelude.{◌≡◌, [], ◌∷◌}
use Rattle.der_core.specs.Hex.{hex}

-- hexadecimal text
pub record HexRows : Type 0 where
  -- the value of each digit
  pub digits : hex "0123456789abcdef" ≡ 1 ∷ 35 ∷ 69 ∷ 103 ∷ 137 ∷ 171 ∷ 205 ∷ 239 ∷ []
  -- the least and the greatest octet
  pub bounds : hex "00ff" ≡ 0 ∷ 255 ∷ []
  -- spaces have no meaning
  pub spaces : hex "30 8105 00" ≡ 48 ∷ 129 ∷ 5 ∷ 0 ∷ []
  -- an empty text gives no octets
  pub no_text : hex "" ≡ []
