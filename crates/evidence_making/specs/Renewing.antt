-- What is answered to octets that are to be a record that is renewed.
use Rattle.std.specs.Prelude.{◌≡◌, ℕ, ◌<◌, ◌≤◌, ◌^◌, List, [], ◌∷◌, ◌++◌, length, Result, Ok, Err}
use Rattle.der_core.specs.Element.{el}
use Rattle.der_core.specs.Values.{HasLength}
use Rattle.der_core.specs.Faults.{Faults}
use Rattle.der_core.specs.Grammar.{file}
use Rattle.evidence_types.specs.EvidenceTable.{evidence_record}
use Rattle.evidence_types.specs.StampValue.{StampValue}
use Rattle.evidence_types.specs.EvidenceValue.{EvidenceValue, EncodesEvidence, evidence_parts, chain_parts}
use Rattle.evidence_types.specs.EvidenceValue.{chains_parts}
use Rattle.evidence_making.specs.declared.fault.RenewFault.{RenewFault}
use Rattle.evidence_making.specs.declared.fault.RenewFault.TheVariants.{Malformed, TooLong, OutOfMemory}

-- The octets encode a record, and what was made, seen as octets, encodes the record that `renew` makes of it; or they
-- encode none, and have this fault; or the contents of that new record would have 2^32 octets or more; or memory was
-- refused.
abbrev pub IsAnswer : {A : Type 0} → (renew : EvidenceValue → EvidenceValue) → (octets : List ℕ)
    → (octets_of : A → List ℕ) → Result A RenewFault → Type 0
IsAnswer renew octets octets_of (Ok made) =
    (v : EvidenceValue) × EncodesEvidence octets v × EncodesEvidence (octets_of made) (renew v)
IsAnswer renew octets octets_of (Err (Malformed fault)) = Faults (file evidence_record) octets fault
IsAnswer renew octets octets_of (Err TooLong) =
    (v : EvidenceValue) × EncodesEvidence octets v × (2 ^ 32 ≤ length (evidence_parts (renew v)))
IsAnswer renew octets octets_of (Err OutOfMemory) =
    (v : EvidenceValue) × EncodesEvidence octets v × (length (evidence_parts (renew v)) < 2 ^ 32)

-- octets stand in others
abbrev pub StandIn : (octets others : List ℕ) → Type 0
StandIn octets others = (before : List ℕ) × (after : List ℕ) × (others ≡ before ++ (octets ++ after))

-- in these octets stand those of the chains before the last one, and then those of the archive time-stamps of that one
abbrev pub ChainsStandIn : (chains : List (List StampValue)) → (octets : List ℕ) → Type 0
ChainsStandIn chains octets = (front : List (List StampValue)) (last : List StampValue) → chains ≡ front ++ last ∷ []
    → (before : List ℕ) × (between : List ℕ) × (after : List ℕ)
    × (octets ≡ before ++ (chains_parts front ++ (between ++ (chain_parts last ++ after))))

-- ---- an element that was written

-- what was made, seen as octets, is the SEQUENCE of these contents; or they are too long; or memory was refused
abbrev pub IsWritten : {A : Type 0} → (inside : List ℕ) → (octets_of : A → List ℕ) → Result A RenewFault → Type 0
IsWritten inside octets_of (Ok made) = (octets_of made ≡ el 0x30 inside) × HasLength inside
IsWritten inside octets_of (Err (Malformed fault)) = ⊥
IsWritten inside octets_of (Err TooLong) = 2 ^ 32 ≤ length inside
IsWritten inside octets_of (Err OutOfMemory) = length inside < 2 ^ 32
