-- What holds of the definitions of time-stamps and responses.
use Rattle.std.specs.Prelude.{◌≡◌, ℕ, List}
use Rattle.der_core.specs.declared.fault.Fault.{Fault}
use Rattle.der_core.specs.Encoding.{IsEncoding}
use Rattle.der_core.specs.OpenFaults.{FaultsOpenly}
use Rattle.der_core.specs.Grammar.{file}
use Rattle.der_grammar.specs.Table.{tst_info, response}
use Rattle.tsp_types.specs.TstValue.{TstValue, EncodesTst}
use Rattle.tsp_types.specs.ResponseValue.{ResponseValue, EncodesResponse}

-- the octets of a good TSTInfo are an encoding by the grammar
abbrev pub TstInfosAreEncodings : Type 0
TstInfosAreEncodings = (bytes : List ℕ) (v : TstValue) → EncodesTst bytes v → IsEncoding (file tst_info) bytes

-- so they have no fault, nor a fault that shows before their outer lengths are met
abbrev pub TstInfosHaveNoFault : Type 0
TstInfosHaveNoFault = (bytes : List ℕ) (v : TstValue) → EncodesTst bytes v → (f : Fault)
    → FaultsOpenly (file tst_info) bytes f → ⊥

-- octets encode at most one TSTInfo
abbrev pub TstInfosAreUnique : Type 0
TstInfosAreUnique = (bytes : List ℕ) (v w : TstValue) → EncodesTst bytes v → EncodesTst bytes w → v ≡ w

-- the same for responses
abbrev pub ResponsesAreEncodings : Type 0
ResponsesAreEncodings = (bytes : List ℕ) (v : ResponseValue) → EncodesResponse bytes v
    → IsEncoding (file response) bytes

abbrev pub ResponsesHaveNoFault : Type 0
ResponsesHaveNoFault = (bytes : List ℕ) (v : ResponseValue) → EncodesResponse bytes v → (f : Fault)
    → FaultsOpenly (file response) bytes f → ⊥

abbrev pub ResponsesAreUnique : Type 0
ResponsesAreUnique = (bytes : List ℕ) (v w : ResponseValue) → EncodesResponse bytes v → EncodesResponse bytes w → v ≡ w
