-- What a source hands out comes behind the octets that it has handed out before.
use Rattle.std.specs.Prelude.{◌≡◌, ℕ, ◌+◌, ◌<◌, ◌≤◌, List, [], ◌++◌, length, take, Result, IfOk, IfErr}
use Rattle.devices.specs.declared.source.Source.{Ghosts}
use Rattle.devices.specs.declared.source.SourceFault.{SourceFault}
use Rattle.devices.specs.Device.{Counts}

-- A source wrote octets after the first len, which stay: how many, its count of failures, and whether it is still known
-- what is to come. If it was known, the first and those to come are, in this order, what is then at hand and to come;
-- and if none were written though there was room, none are to come.
pub record Brings {S : Type 0} (source : Ghosts S) (before : S) (len : ℕ) (octets : List ℕ)
    (result : Result ℕ SourceFault) (octets' : List ℕ) (after : S) : Type 0 where
  pub size : length octets' ≡ length octets
  pub front : take len octets' ≡ take len octets
  pub bound : IfOk result (λ n. len + n ≤ length octets')
  pub count : Counts result (source.failures before) (source.failures after)
  pub telling : source.tells before → source.tells after
  pub same : source.tells before → IfOk result (λ n.
      take len octets ++ source.rest before ≡ take (len + n) octets' ++ source.rest after)
  pub end : source.tells before → IfOk result (λ n. n ≡ 0 → len < length octets' → source.rest after ≡ [])

-- The same for the octets at hand, behind which they come. If the source fails, they are as before.
pub record Fills {S : Type 0} (source : Ghosts S) (before : S) (window : List ℕ) (result : Result ℕ SourceFault)
    (window' : List ℕ) (after : S) : Type 0 where
  pub count : Counts result (source.failures before) (source.failures after)
  pub telling : source.tells before → source.tells after
  pub more : IfOk result (λ n. length window' ≡ length window + n)
  pub same : source.tells before → IfOk result (λ n. window ++ source.rest before ≡ window' ++ source.rest after)
  pub end : source.tells before → IfOk result (λ n. n ≡ 0 → source.rest after ≡ [])
  pub kept : IfErr result (λ _. window' ≡ window)
