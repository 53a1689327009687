-- What holds of the definitions of evidence records.
use Rattle.std.specs.Prelude.{◌≡◌, ℕ, List, true}
use Rattle.der_core.specs.declared.fault.Fault.{Fault}
use Rattle.der_core.specs.Clear.{clear}
use Rattle.der_core.specs.Encoding.{IsEncoding}
use Rattle.der_core.specs.OpenFaults.{FaultsOpenly}
use Rattle.der_core.specs.Grammar.{file}
use Rattle.evidence_types.specs.EvidenceTable.{evidence_record}
use Rattle.evidence_types.specs.EvidenceValue.{EvidenceValue, EncodesEvidence}

-- the table is clear
abbrev pub EvidenceTableIsClear : Type 0
EvidenceTableIsClear = clear (file evidence_record) ≡ true

-- the octets of a good evidence record are an encoding by the grammar
abbrev pub EvidenceRecordsAreEncodings : Type 0
EvidenceRecordsAreEncodings = (bytes : List ℕ) (v : EvidenceValue) → EncodesEvidence bytes v
    → IsEncoding (file evidence_record) bytes

-- so they have no fault, nor a fault that shows before their outer lengths are met
abbrev pub EvidenceRecordsHaveNoFault : Type 0
EvidenceRecordsHaveNoFault = (bytes : List ℕ) (v : EvidenceValue) → EncodesEvidence bytes v → (f : Fault)
    → FaultsOpenly (file evidence_record) bytes f → ⊥

-- octets encode at most one evidence record
abbrev pub EvidenceRecordsAreUnique : Type 0
EvidenceRecordsAreUnique = (bytes : List ℕ) (v w : EvidenceValue) → EncodesEvidence bytes v → EncodesEvidence bytes w
    → v ≡ w
