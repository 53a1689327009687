-- What the call says that attaches a token.
use Rattle.std.specs.Prelude.{◌≡◌, ⊤, ◌⊎◌, ℕ, List}
use Rattle.cms_types.specs.declared.fault.CmsFault.TheVariants as cms
use Rattle.cms_types.specs.SignedDataValue.{SignedDataValue, SignedContent, encoding}
use Rattle.tsp_requester.specs.declared.fault.AttachFault.{AttachFault}
use Rattle.tsp_requester.specs.declared.fault.AttachFault.TheVariants as attach
use Rattle.tsp_requester.specs.Attaching.{Attaches, Refuses}
use Rattle.cli_failures.specs.declared.failure.Failure.{Failure}
use Rattle.cli_failures.specs.declared.failure.Failure.TheVariants as failure
use Rattle.library_answers.specs.declared.answer.Answer.{Answer}
use Rattle.library_answers.specs.Failures.{IsMade, IsUnmade}

-- what the program says of it
abbrev pub failure_of_attach : AttachFault → Failure
failure_of_attach (attach.Malformed (cms.Malformed fault)) = failure.Malformed fault
failure_of_attach attach.WriteFailed = failure.Memory
failure_of_attach why = failure.Unattached why

-- the first of A1 to A5 that fails; or memory was refused
abbrev pub IsUnattached : (file : List ℕ) (signer : ℕ) (token : List ℕ) → AttachFault → Type 0
IsUnattached file signer token attach.WriteFailed = ⊤
IsUnattached file signer token why = Refuses file signer token why

-- the octets of the file with the token, or why it is not attached
abbrev pub IsAttaching : (file : List ℕ) (signer : ℕ) (token : List ℕ) (said : Answer)
    (status : ℕ) (before : List ℕ) (size : ℕ) (after : List ℕ) → Type 0
IsAttaching file signer token said status before size after = ((w : SignedDataValue) × Attaches file signer token w
    × IsMade (encoding (SignedContent w)) said status before size after)
    ⊎ ((why : AttachFault) × IsUnattached file signer token why
    × IsUnmade (failure_of_attach why) said status before size after)

-- these octets, unless memory was refused
abbrev pub IsMadeIfMemory : (octets : List ℕ) (said : Answer)
    (status : ℕ) (before : List ℕ) (size : ℕ) (after : List ℕ) → Type 0
IsMadeIfMemory octets said status before size after = IsMade octets said status before size after ⊎ (status ≡ 7)
