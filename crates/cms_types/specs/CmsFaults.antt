-- What a read of a SignedData may return in place of a value, and its text.
use Rattle.std.specs.Prelude.{⊤, ℕ, List, [], ◌++◌, codes}
use Rattle.der_core.specs.FaultTexts.{fault_text}
use Rattle.der_core.specs.declared.fault.Fault.{Fault}
use Rattle.der_core.specs.Faults.{place, Faults, FaultFrom}
use Rattle.der_core.specs.Grammar.{file, list}
use Rattle.der_grammar.specs.Table.{content_info, signer_info}
use Rattle.cms_types.specs.SignedDataValue.{EncodesAnotherType}
use Rattle.cms_types.specs.declared.fault.CmsFault.{CmsFault}
use Rattle.cms_types.specs.declared.fault.CmsFault.TheVariants.{Malformed, NotSignedData, OutOfMemory}

-- Why octets give no SignedData: if they are malformed, a fault that they have; if they encode a ContentInfo of another
-- type, that. `HasFault` says which faults octets have, and `Memory` when a lack of memory may be reported.
abbrev pub IsCmsFaultBy : (HasFault : List ℕ → Fault → Type 0) → (Memory : Type 0) → List ℕ → CmsFault → Type 0
IsCmsFaultBy HasFault Memory bytes (Malformed f) = HasFault bytes f
IsCmsFaultBy HasFault Memory bytes NotSignedData = EncodesAnotherType bytes
IsCmsFaultBy HasFault Memory bytes OutOfMemory = Memory

-- the same, if all of the octets are at hand, and memory may be refused
abbrev pub IsCmsFault : List ℕ → CmsFault → Type 0
IsCmsFault bytes fault = IsCmsFaultBy (Faults (file content_info)) ⊤ bytes fault

-- a fault of octets that should be signers, where the first octet is at this position of the input
abbrev pub IsSignersFault : ℕ → List ℕ → Fault → Type 0
IsSignersFault at bytes f = FaultFrom (place at bytes (list 0x30 signer_info) []) f

abbrev pub cms_fault_text : CmsFault → List ℕ
cms_fault_text (Malformed f) = codes "malformed " ++ fault_text f
cms_fault_text NotSignedData = codes "not a SignedData"
cms_fault_text OutOfMemory = codes "out of memory"
