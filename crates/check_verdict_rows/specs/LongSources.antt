-- Worked rows: the verdict about a stamp for what a source gives that is known, and that has one octet more than it may
-- have (2^40), or just as many.
use Rattle.std.specs.Prelude.{◌≡◌, ◌+◌, ◌^◌, ⊤, ℕ, List, length, Result, Err}
use Rattle.check_fit.specs.declared.rules.DeviceFault.TheVariants as device
use Rattle.check_fit.specs.declared.rules.TokenRefused.{TokenRefused}
use Rattle.check_fit.specs.declared.rules.TokenRefused.TheVariants as refused
use Rattle.check_verdict.specs.Passing.{Terms}
use Rattle.check_verdict.specs.StampsOfSources.{JudgesSource}

-- this is a verdict about a token for these octets of a source, whose count of failures, 3, stays the same, whatever
-- the verifier was asked
abbrev pub IsSaid : Terms → (token rest : List ℕ) → Result ℕ TokenRefused → Type 0
IsSaid t token rest result = JudgesSource t token (λ test. ⊤) ⊤ rest 3 3 result

-- of any token and any octets, under any terms
pub record LongSourceRows : Type 0 where
  -- one octet more: X5, and nothing else
  pub too_long : (t : Terms) (token rest : List ℕ) → length rest ≡ 2 ^ 40 + 1
      → IsSaid t token rest (Err (refused.Device device.ContentTooLong))
  pub no_other : (t : Terms) (token rest : List ℕ) → length rest ≡ 2 ^ 40 + 1
      → (result : Result ℕ TokenRefused) → IsSaid t token rest result
      → result ≡ Err (refused.Device device.ContentTooLong)
  -- just as many: never X5
  pub longest : (t : Terms) (token rest : List ℕ) → length rest ≡ 2 ^ 40
      → IsSaid t token rest (Err (refused.Device device.ContentTooLong)) → ⊥
