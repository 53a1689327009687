-- What is found on the way to what a renewal stands on.
use Rattle.std.specs.Prelude.{◌≡◌, ◌⊎◌, ℕ, Bool, true, false, List, Option}
use Rattle.der_core.specs.Grammar.{file}
use Rattle.evidence_types.specs.EvidenceTable.{evidence_record}
use Rattle.evidence_making.specs.declared.fault.LeafFault.TheVariants as leaf
use Rattle.evidence_making.specs.declared.leaves.LastStamp.{LastStamp}
use Rattle.evidence_making.specs.Done.{IsDoneBy}
use Rattle.evidence_making.specs.Leaves.{HasNoStamp, IsLastStamp}
use Rattle.cli_failures.specs.declared.failure.Failure.{Failure}
use Rattle.cli_failures.specs.declared.failure.Failure.TheVariants as failure
use Rattle.cli_failures.specs.Causes.{IsMalformed}

-- the record isn't renewed already
abbrev pub IsNotDone : (token : Option (List ℕ)) → (octets : List ℕ) → Type 0
IsNotDone token octets = (other : LastStamp) → IsDoneBy token octets other → ⊥

-- the record is renewed already, and this is what it stood on; or it isn't, and this is its last time-stamp
abbrev pub IsFound : (token : Option (List ℕ)) → (octets : List ℕ) → (done : Bool) → LastStamp → Type 0
IsFound token octets true last = IsDoneBy token octets last
IsFound token octets false last = IsNotDone token octets × IsLastStamp octets last

-- the octets encode no record; or, by U3, the record is encrypted, its last time-stamp is no token, or its last chain
-- has no algorithm that is known
abbrev pub HasNoFooting : (octets : List ℕ) → Failure → Type 0
HasNoFooting octets f = IsMalformed (file evidence_record) octets f
    ⊎ ((f ≡ failure.Unrenewable leaf.NoStamp) × HasNoStamp octets)
