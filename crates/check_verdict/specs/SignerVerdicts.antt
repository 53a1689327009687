-- The verdict about one signer of a content.
use Rattle.std.specs.Prelude.{◌≡◌, ⊤, ℕ, ◌<◌, ◌≤◌, ◌⊎◌, List, Option, Some, None, Result, Ok, Err}
use Rattle.devices.specs.Device.{raised}
use Rattle.cms_types.specs.SignerValue.{SignerValue}
use Rattle.check_fit.specs.declared.rules.DeviceFault.TheVariants as device
use Rattle.check_fit.specs.declared.rules.Refused.{Refused}
use Rattle.check_fit.specs.declared.rules.Refused.TheVariants as file_refused
use Rattle.check_verdict.specs.Passing.{Terms}
use Rattle.check_verdict.specs.Verdicts.{SignerPasses, SignerFails, TokensFail}
use Rattle.check_verdict.specs.declared.signer.SignerRefused.{SignerRefused}
use Rattle.check_verdict.specs.declared.signer.SignerRefused.TheVariants as refused

-- the signer is good with this moment; or fails this rule first; or its tokens fail; or the verifier failed
abbrev pub JudgesSigner : Terms → (content econtent_type : List ℕ) → SignerValue → Result ℕ SignerRefused → Type 0
JudgesSigner t content econtent_type s (Ok m) = SignerPasses t content econtent_type s m
JudgesSigner t content econtent_type s (Err (refused.Rule failed)) = SignerFails t content econtent_type s failed
JudgesSigner t content econtent_type s (Err (refused.Token failed)) = TokensFail t content econtent_type s 1 failed
JudgesSigner t content econtent_type s (Err refused.Ask) = ⊤

-- the count of failures rose exactly if the verdict says that the verifier failed
abbrev pub CountsSigner : Result ℕ SignerRefused → (count count' : ℕ) → Type 0
CountsSigner (Err refused.Ask) count count' = count' ≡ raised count
CountsSigner _ count count' = count' ≡ count

-- why the file isn't accepted if its signer of this number isn't good
abbrev pub numbered : ℕ → SignerRefused → Refused
numbered number (refused.Rule failed) = file_refused.Signer number failed
numbered number (refused.Token failed) = file_refused.Token number 1 failed
numbered number refused.Ask = file_refused.Device device.AskFailed

-- one of the numbers from 1 to this count
abbrev pub IsNumber : (count number : ℕ) → Type 0
IsNumber count number = (0 < number) × (number ≤ count)

-- a verdict about some of this many signers: a moment, a rule that a signer or its token 1 fails, or X2
abbrev pub IsOfSigners : (count : ℕ) → Result ℕ Refused → Type 0
IsOfSigners count (Ok m) = ⊤
IsOfSigners count (Err (file_refused.Signer number failed)) = IsNumber count number
IsOfSigners count (Err (file_refused.Token number token failed)) = IsNumber count number × (token ≡ 1)
IsOfSigners count (Err (file_refused.Device device.AskFailed)) = ⊤
IsOfSigners count result = ⊥

-- the later of a moment, if there is one, and another
abbrev pub IsLater : Option ℕ → ℕ → ℕ → Type 0
IsLater None m k = k ≡ m
IsLater (Some n) m k = ((m < n) × (k ≡ n)) ⊎ ((m < n → ⊥) × (k ≡ m))
