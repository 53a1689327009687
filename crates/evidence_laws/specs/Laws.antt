-- What holds of the definitions of what an evidence record shows, and of how it is refused (RFC 4998, 3.3 and 5.3).
use Rattle.std.specs.Prelude.{◌≡◌, ◌≢◌, ◌⊎◌, ℕ, List, [], ◌∷◌, Contains}
use Rattle.der_core.specs.Element.{IsBytes}
use Rattle.check_evidence.specs.Grounds.{Grounds}
use Rattle.check_evidence.specs.Showing.{Shows}
use Rattle.check_evidence.specs.Refusing.{Refuses}
use Rattle.check_evidence.specs.declared.rules.EvidenceRefused.{EvidenceRefused}
use Rattle.evidence_laws.specs.Alone.{evidence_alone}

-- Each record, of octets, shows a moment or is refused: by one of V1 to V3 and W1 to W8, since no device is a reason.
abbrev pub RecordsAreJudged : Type 0
RecordsAreJudged = (g : Grounds) (octets : List ℕ) (data_objects : List (List ℕ)) → IsBytes octets
    → ((m : ℕ) × Shows g octets data_objects m) ⊎ ((r : EvidenceRefused) × Refuses g octets data_objects r)

-- It is refused by one rule, of one time-stamp.
abbrev pub RecordsHaveOneRefusal : Type 0
RecordsHaveOneRefusal = (g : Grounds) (octets : List ℕ) (data_objects : List (List ℕ)) (a b : EvidenceRefused)
    → Refuses g octets data_objects a → Refuses g octets data_objects b → evidence_alone a ≡ evidence_alone b

-- A moment that is shown of each of some data objects is shown of them together, as a group (4.3 and 5.3).
abbrev pub GroupsAreShown : Type 0
GroupsAreShown = (g : Grounds) (octets : List ℕ) (data_objects : List (List ℕ)) (m : ℕ) → data_objects ≢ []
    → ((data_object : List ℕ) → Contains data_objects data_object → Shows g octets (data_object ∷ []) m)
    → Shows g octets data_objects m
