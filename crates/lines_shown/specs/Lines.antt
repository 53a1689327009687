-- The texts of values, and the lines of fields.
use Rattle.std.specs.Prelude.{◌≡◌, ℕ, true, List, [], ◌∷◌, ◌++◌, Option, Some, None, length, codes}
use Rattle.std.specs.Fmt.{decimal}
use Rattle.hex.specs.Hex.{encode_lower}
use Rattle.der_core.specs.declared.flag.Flag.{Flag}
use Rattle.der_core.specs.declared.flag.Flag.TheVariants.{Absent, False, True}
use Rattle.der_core.specs.Times.{is_generalized}
use Rattle.der_time.specs.Moments.{generalized_moment}
use Rattle.cert_types.specs.ExtensionValue.{ExtensionValue}

-- the name of a field, a space, its value, and LF
abbrev pub line : (name value : List ℕ) → List ℕ
line name value = name ++ codes " " ++ value ++ (10 ∷ [])

-- octets in lower-case hexadecimal; a dash if there are none
abbrev pub octets_text : List ℕ → List ℕ
octets_text [] = codes "-"
octets_text (b ∷ bs) = encode_lower (b ∷ bs)

-- the line of octets that may be absent
abbrev pub optional_line : (name : List ℕ) → Option (List ℕ) → List ℕ
optional_line name None = []
optional_line name (Some octets) = line name (octets_text octets)

-- how many extensions there are, if the field is present
abbrev pub extensions_line : Option (List ExtensionValue) → List ℕ
extensions_line None = []
extensions_line (Some extensions) = line (codes "extensions") (decimal (length extensions))

-- the state of a BOOLEAN with the default FALSE
abbrev pub state_text : Flag → List ℕ
state_text Absent = codes "absent"
state_text False = codes "false"
state_text True = codes "true"

-- the text of a moment as a GeneralizedTime (X.690, 11.7), of which there is one
pub record IsTextOf (moment : ℕ) (text : List ℕ) : Type 0 where
  pub formed : is_generalized text ≡ true
  pub named : generalized_moment text ≡ moment
