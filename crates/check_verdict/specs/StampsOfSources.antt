-- What a check of a token says for what a source gives until its end.
use Rattle.std.specs.Prelude.{◌≡◌, ◌≤◌, ◌<◌, ◌^◌, ℕ, Bool, List, length, Result, Ok, Err}
use Rattle.devices.specs.Device.{raised}
use Rattle.digests.specs.Digests.{alg_of, octets_of}
use Rattle.digests.specs.Messages.{digest_of}
use Rattle.digests.specs.declared.algorithm.Alg.{Alg}
use Rattle.digests.specs.declared.value.Digest.{Digest}
use Rattle.check_fit.specs.declared.rules.DeviceFault.{DeviceFault}
use Rattle.check_fit.specs.declared.rules.DeviceFault.TheVariants as device
use Rattle.check_fit.specs.declared.rules.TokenRefused.{TokenRefused}
use Rattle.check_fit.specs.declared.rules.TokenRefused.TheVariants as refused
use Rattle.trust_lists.specs.Asking.{Asked}
use Rattle.check_verdict.specs.Asks.{IsAskedOfToken, AsksOnly}
use Rattle.check_verdict.specs.Passing.{Terms}
use Rattle.check_verdict.specs.TokenVerdicts.{IsTokenVerdict}

-- these octets are what a source gave until its end: those that were to come, if it is known which
pub record IsGiven (tells : Type 0) (rest stamped : List ℕ) : Type 0 where
  pub short : length stamped ≤ 2 ^ 40
  pub known : tells → rest ≡ stamped

-- the source failed and counted it, or it had more than 2^40 octets; nothing else keeps its octets from being digested
abbrev pub KeepsBack : (tells : Type 0) → (rest : List ℕ) → (count count' : ℕ) → DeviceFault → Type 0
KeepsBack tells rest count count' device.ReadFailed = count' ≡ raised count
KeepsBack tells rest count count' device.ContentTooLong = (count' ≡ count) × (tells → 2 ^ 40 < length rest)
KeepsBack tells rest count count' _ = ⊥

-- the digest of what a source gave, or why there is none
abbrev pub DigestsSource : Alg → (tells : Type 0) → (rest : List ℕ) → (count count' : ℕ)
    → Result Digest DeviceFault → Type 0
DigestsSource alg tells rest count count' (Ok digest) = (count' ≡ count) × (alg_of digest ≡ alg)
    × (stamped : List ℕ) × IsGiven tells rest stamped × (octets_of digest ≡ digest_of alg stamped)
DigestsSource alg tells rest count count' (Err fault) = KeepsBack tells rest count count' fault

-- the verdict about a token for what a source gave, and what the verifier was asked at most
pub record IsJudgedOver (t : Terms) (token : List ℕ) (OnlyAsked : (Asked → Bool) → Type 0) (tells : Type 0)
    (rest : List ℕ) (result : Result ℕ TokenRefused) : Type 0 where
  pub stamped : List ℕ
  pub given : IsGiven tells rest stamped
  pub verdict : IsTokenVerdict t token stamped result
  pub asks : AsksOnly OnlyAsked (IsAskedOfToken t.policy t.trust stamped token)

-- the verifier's count of failures rose by one if it failed, and otherwise it is as it was
abbrev pub CountsAsked : Result ℕ TokenRefused → (count count' : ℕ) → Type 0
CountsAsked (Err (refused.Device device.AskFailed)) count count' = count' ≡ raised count
CountsAsked result count count' = count' ≡ count

-- that, where the source was read to its end; or why it wasn't
abbrev pub JudgesSource : Terms → (token : List ℕ) → (OnlyAsked : (Asked → Bool) → Type 0) → (tells : Type 0)
    → (rest : List ℕ) → (count count' : ℕ) → Result ℕ TokenRefused → Type 0
JudgesSource t token OnlyAsked tells rest count count' (Err (refused.Device device.ReadFailed)) =
    KeepsBack tells rest count count' device.ReadFailed
JudgesSource t token OnlyAsked tells rest count count' (Err (refused.Device device.ContentTooLong)) =
    KeepsBack tells rest count count' device.ContentTooLong
JudgesSource t token OnlyAsked tells rest count count' result = (count' ≡ count)
    × IsJudgedOver t token OnlyAsked tells rest result
