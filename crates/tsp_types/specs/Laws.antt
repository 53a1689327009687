-- What holds of the definitions of requests.
use Rattle.std.specs.Prelude.{◌≡◌, ℕ, List}
use Rattle.der_core.specs.declared.fault.Fault.{Fault}
use Rattle.der_core.specs.Encoding.{IsEncoding}
use Rattle.der_core.specs.OpenFaults.{FaultsOpenly}
use Rattle.der_core.specs.Grammar.{file}
use Rattle.der_grammar.specs.Table.{request}
use Rattle.tsp_types.specs.RequestValue.{RequestValue, EncodesRequest}

-- the octets of a good request are an encoding by the grammar
abbrev pub RequestsAreEncodings : Type 0
RequestsAreEncodings = (bytes : List ℕ) (v : RequestValue) → EncodesRequest bytes v → IsEncoding (file request) bytes

-- so they have no fault, nor a fault that shows before their outer lengths are met
abbrev pub RequestsHaveNoFault : Type 0
RequestsHaveNoFault = (bytes : List ℕ) (v : RequestValue) → EncodesRequest bytes v → (f : Fault)
    → FaultsOpenly (file request) bytes f → ⊥

-- octets encode at most one request
abbrev pub RequestsAreUnique : Type 0
RequestsAreUnique = (bytes : List ℕ) (v w : RequestValue) → EncodesRequest bytes v → EncodesRequest bytes w → v ≡ w
