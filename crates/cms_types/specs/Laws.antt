-- What holds of the definitions of a ContentInfo.
use Rattle.std.specs.Prelude.{◌≡◌, ℕ, List}
use Rattle.der_core.specs.declared.fault.Fault.{Fault}
use Rattle.der_core.specs.Encoding.{IsEncoding}
use Rattle.der_core.specs.OpenFaults.{FaultsOpenly}
use Rattle.der_core.specs.Grammar.{file}
use Rattle.der_grammar.specs.Table.{content_info}
use Rattle.cms_types.specs.SignedDataValue.{ContentInfoValue, EncodesContentInfo}

-- the octets of a good ContentInfo, a SignedData or another, are an encoding by the grammar
abbrev pub ContentInfosAreEncodings : Type 0
ContentInfosAreEncodings = (bytes : List ℕ) (c : ContentInfoValue) → EncodesContentInfo bytes c
    → IsEncoding (file content_info) bytes

-- so they have no fault, nor a fault that shows before their outer lengths are met
abbrev pub ContentInfosHaveNoFault : Type 0
ContentInfosHaveNoFault = (bytes : List ℕ) (c : ContentInfoValue) → EncodesContentInfo bytes c → (f : Fault)
    → FaultsOpenly (file content_info) bytes f → ⊥

-- octets encode at most one ContentInfo
abbrev pub ContentInfosAreUnique : Type 0
ContentInfosAreUnique = (bytes : List ℕ) (c d : ContentInfoValue) → EncodesContentInfo bytes c
    → EncodesContentInfo bytes d → c ≡ d
