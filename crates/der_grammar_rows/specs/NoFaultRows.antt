-- Worked rows: octets that don't have a fault.
use Rattle.std.specs.Prelude.{◌≡◌, ℕ, [], ◌∷◌}
use Rattle.der_core.specs.declared.fault.Fault.{Fault}
use Rattle.der_core.specs.declared.fault.Kind.TheVariants as kind
use Rattle.der_core.specs.Hex.{hex}
use Rattle.der_core.specs.Faults.{place, LengthEnds, IsNoLength, Fact, Faults}
use Rattle.der_core.specs.Grammar.{file}
use Rattle.der_grammar.specs.Table.{request, certificate_extensions}
use Rattle.der_grammar_rows.specs.FaultRows.{fault}

pub record NoFaultRows : Type 0 where
  -- a length in a longer form than it needs is the only fault of an input that begins with it
  pub only_long_form : (f : Fault) → Faults (file request) (hex "3081 05 0000000000") f → f ≡ fault kind.LengthForm 1
  -- so its element does not go past the end
  pub no_overrun : Faults (file request) (hex "3081 05 0000000000") (fault kind.Overrun 0) → ⊥
  -- nothing is missing after the end
  pub nothing_behind : Faults (file request) [] (fault kind.End 1) → ⊥
  -- after an octet that is not an identifier no length octet is missing
  pub behind_high_tag : Faults (file request) (hex "1f") (fault kind.End 1) → ⊥
  -- a second 2.5.29.14 that is malformed inside is no fault at its element
  pub ill_second : Fact kind.Value (place 9 (hex "300a 0603 551d0e 0101 05 0400") certificate_extensions
      ((0x30, hex "0603 551d0e 0400") ∷ [])) 9 → ⊥
  -- no octet is missing of a length in one octet, in two and in five, nor of the indefinite form
  pub whole_length : (k : ℕ) → LengthEnds (hex "7f") k → ⊥
  pub whole_length_of_two : (k : ℕ) → LengthEnds (hex "8180") k → ⊥
  pub whole_length_of_five : (k : ℕ) → LengthEnds (hex "8401000000") k → ⊥
  pub whole_indefinite : (k : ℕ) → LengthEnds (hex "80") k → ⊥
  -- after a first length octet that states too many further ones none is missing
  pub whole_refused : (k : ℕ) → LengthEnds (hex "85") k → ⊥
  -- the shortest forms are a length, and so is a first octet that announces four further ones
  pub short_length : IsNoLength (hex "7f") → ⊥
  pub length_of_128 : IsNoLength (hex "8180") → ⊥
  pub length_of_256 : IsNoLength (hex "820100") → ⊥
  pub length_in_four : IsNoLength (hex "84") → ⊥
  -- the indefinite form is a fault of its own
  pub no_form : IsNoLength (hex "8000") → ⊥
