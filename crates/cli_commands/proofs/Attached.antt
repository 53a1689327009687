-- What was written where a token was attached, and what is said where it was not.
use Rattle.std.proofs.Common.{◌≡◌, ◌⊎◌, ℕ, List, Option, Err, subst, inl, inr}
use Rattle.cli_tasks.specs.declared.task.AttachWords.{AttachWords}
use Rattle.cli_failures.specs.declared.failure.Failure.{Failure}
use Rattle.cli_failures.specs.Files.{IsHeld}
use Rattle.tsp_requester.specs.Attaching.{IsAnswer}
use Rattle.tsp_requester.specs.declared.fault.AttachFault.{AttachFault}
use Rattle.tsp_requester.specs.declared.fault.AttachFault.TheVariants as rule
use Rattle.cli_commands.specs.Attaching.{AttachesNot, IsAttached, IsNewFile, TellsNotAttached, LacksMemoryToAttach}
use Rattle.cli_commands.specs.Attaching.{failure_of_attaching}
use Rattle.cli_commands.specs.Matching.{IsWritten}

-- a new file is made of a file and a token that were read
pub record IsMade {F : Type 0} (holds : F → Option (List ℕ)) (signer : ℕ) (octets : List ℕ) : Type 0 where
  pub file : List ℕ
  pub token : List ℕ
  pub read_file : IsHeld holds file
  pub read_token : IsHeld holds token
  pub is : IsNewFile file signer token octets

pub attached_when : {F : Type 0} (holds contents : F → Option (List ℕ)) (signer : ℕ) (octets put : List ℕ)
    → put ≡ octets → IsMade holds signer octets → IsWritten contents put → IsAttached holds contents signer
attached_when holds contents signer octets put e made written = record {
  file = made.file;
  token = made.token;
  octets = octets;
  read_file = made.read_file;
  read_token = made.read_token;
  is = made.is;
  written = subst (λ (bs : List ℕ). IsWritten contents bs) e written;
}

pub not_attached : {F : Type 0} (holds : F → Option (List ℕ)) (words : AttachWords) (file token : List ℕ) (f : Failure)
    → IsHeld holds file → IsHeld holds token
    → LacksMemoryToAttach file words.signer token f ⊎ TellsNotAttached file words.signer token f
    → AttachesNot holds words f
not_attached holds words file token f read given (inl (m, can)) = inr (inl (inl m))
not_attached holds words file token f read given (inr tells) = inr (inr (inr (inl (file, token, read, given, tells))))

-- the fault of `attach` is told as it is
pub told : (file : List ℕ) (signer : ℕ) (token : List ℕ) (fault : AttachFault) (f : Failure) (tells : Type 0)
    (taken taken' : List ℕ)
    (count count' : ℕ) → IsAnswer file signer token (Err fault) tells taken taken' count count'
    → f ≡ failure_of_attaching fault
    → LacksMemoryToAttach file signer token f ⊎ TellsNotAttached file signer token f
told file signer token rule.WriteFailed f tells taken taken' count count' (w, attaches, puts) e = inl (e, (w, attaches))
told file signer token (rule.Malformed why) f tells taken taken' count count' leaves e =
    inr (rule.Malformed why, leaves.0, e)
told file signer token rule.NoSuchSigner f tells taken taken' count count' leaves e =
    inr (rule.NoSuchSigner, leaves.0, e)
told file signer token rule.TokenMalformed f tells taken taken' count count' leaves e =
    inr (rule.TokenMalformed, leaves.0, e)
told file signer token rule.ImprintDiffers f tells taken taken' count count' leaves e =
    inr (rule.ImprintDiffers, leaves.0, e)
told file signer token rule.TooLong f tells taken taken' count count' leaves e = inr (rule.TooLong, leaves.0, e)
