-- The worked rows of sources that are too long hold.
use Rattle.std.proofs.Common.{◌≡◌, ◌+◌, ◌^◌, ◌≤◌, ◌<◌, ℕ, List, length, Result, Ok, Err, refl, sym, subst, arith}
use Rattle.std.specs.Prelude.{⊤}
use Rattle.check_fit.specs.declared.rules.DeviceFault.TheVariants as device
use Rattle.check_fit.specs.declared.rules.TokenRefused.{TokenRefused}
use Rattle.check_fit.specs.declared.rules.TokenRefused.TheVariants as refused
use Rattle.check_verdict.specs.Passing.{Terms}
use Rattle.check_verdict.specs.StampsOfSources.{IsGiven, IsJudgedOver}
use Rattle.check_verdict_rows.specs.LongSources.{IsSaid, LongSourceRows}

-- what was read to its end has 2^40 octets at most
within : (rest stamped : List ℕ) → IsGiven ⊤ rest stamped → length rest ≤ 2 ^ 40
within rest stamped given = subst (λ (octets : List ℕ). length octets ≤ 2 ^ 40) (sym (given.known tt)) given.short

-- so what is longer was not
unread : (t : Terms) (token rest : List ℕ) → length rest ≡ 2 ^ 40 + 1 → (result : Result ℕ TokenRefused)
    → IsJudgedOver t token (λ test. ⊤) ⊤ rest result → result ≡ Err (refused.Device device.ContentTooLong)
unread t token rest long result judged =
    let short : length rest ≤ 2 ^ 40 = within rest judged.stamped judged.given in absurd (omega (arith, long, short))

-- and no failure was counted
uncounted : (count : ℕ) → count ≡ 3 → count ≡ 4 → ⊥
uncounted count here raised = omega (arith, here, raised)

no_other : (t : Terms) (token rest : List ℕ) → length rest ≡ 2 ^ 40 + 1 → (result : Result ℕ TokenRefused)
    → IsSaid t token rest result → result ≡ Err (refused.Device device.ContentTooLong)
no_other t token rest long (Ok m) h = unread t token rest long (Ok m) h.1
no_other t token rest long (Err (refused.Rule rule)) h = unread t token rest long (Err (refused.Rule rule)) h.1
no_other t token rest long (Err (refused.Device device.ReadFailed)) h = absurd (uncounted 3 refl h)
no_other t token rest long (Err (refused.Device device.AskFailed)) h =
    unread t token rest long (Err (refused.Device device.AskFailed)) h.1
no_other t token rest long (Err (refused.Device device.TooLong)) h =
    unread t token rest long (Err (refused.Device device.TooLong)) h.1
no_other t token rest long (Err (refused.Device device.OutOfMemory)) h =
    unread t token rest long (Err (refused.Device device.OutOfMemory)) h.1
no_other t token rest long (Err (refused.Device device.ContentTooLong)) h = refl

pub long_source_rows : LongSourceRows
long_source_rows = record {
  too_long = λ t token rest long. (refl, λ u. omega (arith, long));
  no_other = no_other;
  longest = λ t token rest long h. let more : 2 ^ 40 < length rest = h.1 tt in omega (arith, long, more);
}
