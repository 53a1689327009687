-- The verdict of a check of a token by itself (RFC 3161, 2.4.2).
use Rattle.std.specs.Prelude.{◌≡◌, ⊤, ℕ, Bool, ◌⊎◌, List, Result, Ok, Err}
use Rattle.devices.specs.Device.{raised}
use Rattle.check_fit.specs.declared.policy.Policy.{Policy}
use Rattle.check_fit.specs.declared.rules.DeviceFault.TheVariants as device
use Rattle.check_fit.specs.declared.rules.TokenRefused.{TokenRefused}
use Rattle.check_fit.specs.declared.rules.TokenRefused.TheVariants as refused
use Rattle.trust_lists.specs.Asking.{Asked}
use Rattle.trust_lists.specs.Entries.{EntryValue}
use Rattle.check_verdict.specs.Passing.{Terms, Due, of_octets, PassesFor}
use Rattle.check_verdict.specs.TokenRules.{TokenFailsFor}

abbrev pub terms_of : Policy → List EntryValue → (Asked → Bool) → Terms
terms_of policy trust vouches = record { policy = policy; trust = trust; vouches = vouches }

-- where this is due as its imprint, the token passes with this moment; or this is the first rule that it fails; or the
-- verifier failed
abbrev pub IsVerdictFor : Terms → (token : List ℕ) → Due → Result ℕ TokenRefused → Type 0
IsVerdictFor t token due (Ok m) = PassesFor t token due m
IsVerdictFor t token due (Err (refused.Rule failed)) = TokenFailsFor t token due failed
IsVerdictFor t token due (Err (refused.Device fault)) = fault ≡ device.AskFailed

-- the same of a token for octets that were stamped
abbrev pub IsTokenVerdict : Terms → (token stamped : List ℕ) → Result ℕ TokenRefused → Type 0
IsTokenVerdict t token stamped result = IsVerdictFor t token (of_octets stamped) result

-- the verifier failed
abbrev pub IsDevice : Result ℕ TokenRefused → Type 0
IsDevice (Err (refused.Device fault)) = ⊤
IsDevice _ = ⊥

-- no device but the verifier failed
abbrev pub IsAskFailed : Result ℕ TokenRefused → Type 0
IsAskFailed (Err (refused.Device fault)) = fault ≡ device.AskFailed
IsAskFailed _ = ⊤

-- the verdict is this moment, or the verifier failed
abbrev pub PassesOrDevice : ℕ → Result ℕ TokenRefused → Type 0
PassesOrDevice m result = (result ≡ Ok m) ⊎ IsDevice result

-- the count of failures rose exactly if the verdict says that the verifier failed
abbrev pub CountsAsks : Result ℕ TokenRefused → (count count' : ℕ) → Type 0
CountsAsks (Err (refused.Device fault)) count count' = count' ≡ raised count
CountsAsks _ count count' = count' ≡ count
