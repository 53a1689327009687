-- What holds of the definitions.
use Rattle.std.specs.Prelude.{◌≡◌, ℕ, true, false, ◌⊎◌, List}
use Rattle.der_core.specs.declared.fault.Fault.{Fault}
use Rattle.der_core.specs.Element.{IsBytes}
use Rattle.der_core.specs.Form.{Form, is_filled}
use Rattle.der_core.specs.Encoding.{IsEncoding}
use Rattle.der_core.specs.Faults.{Faults}
use Rattle.der_core.specs.OpenFaults.{FaultsOpenly}
use Rattle.der_core.specs.Clear.{clear}

-- an encoding of a clear form has no fault, nor a fault that shows before its outer lengths are met
abbrev pub EncodingsHaveNone : Type 0
EncodingsHaveNone = (form : Form) (bytes : List ℕ) (f : Fault) → clear form ≡ true → IsEncoding form bytes
    → FaultsOpenly form bytes f → ⊥

-- each input of octets that should have a clear form is an encoding or has a fault
abbrev pub InputsAreJudged : Type 0
InputsAreJudged = (form : Form) (bytes : List ℕ) → clear form ≡ true → is_filled form ≡ false → IsBytes bytes
    → IsEncoding form bytes ⊎ ((f : Fault) × Faults form bytes f)
