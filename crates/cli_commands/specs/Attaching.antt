-- What `attach` writes for a file and a token. `holds` is what an open file holds, if that is known.
use Rattle.std.specs.Prelude.{◌≡◌, ◌⊎◌, ℕ, List, Option, codes}
use Rattle.cms_types.specs.declared.fault.CmsFault.TheVariants as cms
use Rattle.cms_types.specs.SignedDataValue.{SignedDataValue, SignedContent, encoding}
use Rattle.tsp_requester.specs.Attaching.{Attaches, Refuses}
use Rattle.tsp_requester.specs.declared.fault.AttachFault.{AttachFault}
use Rattle.tsp_requester.specs.declared.fault.AttachFault.TheVariants as rule
use Rattle.cli_failures.specs.declared.failure.Failure.{Failure}
use Rattle.cli_failures.specs.declared.failure.Failure.TheVariants as failure
use Rattle.cli_tasks.specs.declared.task.AttachWords.{AttachWords}
use Rattle.cli_failures.specs.Causes.{Names}
use Rattle.cli_failures.specs.Files.{IsFailureToRead, IsHeld}
use Rattle.cli_commands.specs.Matching.{IsWritten}

-- the octets encode the SignedData of a file with a token attached to its signer of this number
abbrev pub IsNewFile : (file : List ℕ) (signer : ℕ) (token octets : List ℕ) → Type 0
IsNewFile file signer token octets = (w : SignedDataValue) × Attaches file signer token w
    × (octets ≡ encoding (SignedContent w))

-- the failure for a rule that fails: a file that isn't a ContentInfo is malformed
abbrev pub failure_of_attaching : AttachFault → Failure
failure_of_attaching rule.WriteFailed = failure.Memory
failure_of_attaching (rule.Malformed (cms.Malformed fault)) = failure.Malformed fault
failure_of_attaching why = failure.Unattached why

-- the failure names the first rule that fails
abbrev pub TellsNotAttached : (file : List ℕ) (signer : ℕ) (token : List ℕ) → Failure → Type 0
TellsNotAttached file signer token f = (why : AttachFault) × Refuses file signer token why
    × (f ≡ failure_of_attaching why)

-- memory ran out for the file with the token, which can be attached
abbrev pub LacksMemoryToAttach : (file : List ℕ) (signer : ℕ) (token : List ℕ) → Failure → Type 0
LacksMemoryToAttach file signer token f = (f ≡ failure.Memory)
    × ((w : SignedDataValue) × Attaches file signer token w)

-- a file took such octets of two files, the one and the token's
pub record IsAttached {F : Type 0} (holds contents : F → Option (List ℕ)) (signer : ℕ) : Type 0 where
  pub file : List ℕ
  pub token : List ℕ
  pub octets : List ℕ
  pub read_file : IsHeld holds file
  pub read_token : IsHeld holds token
  pub is : IsNewFile file signer token octets
  pub written : IsWritten contents octets

-- the file that should take the new one is the token's, as far as their paths say; a file can't be read, the token is
-- not attached, or the file that should take the new one can't be made or written
abbrev pub AttachesNot : {F : Type 0} → (holds : F → Option (List ℕ)) → AttachWords → Failure → Type 0
AttachesNot holds words f = Names (codes "OUT") f ⊎ (IsFailureToRead words.token f ⊎ (IsFailureToRead words.file f
    ⊎ (((file token : List ℕ) × IsHeld holds file × IsHeld holds token × TellsNotAttached file words.signer token f)
    ⊎ (f ≡ failure.Write words.out))))
