-- The bounds and the values of Montgomery's steps.
use Rattle.std.proofs.Common.{◌≡◌, ℕ, ◌+◌, ◌*◌, ◌-◌, ◌^◌, ◌<◌, ◌≤◌, arith}
use Rattle.std.proofs.lemmas.Nat.{mul-le}

pub step_small : (P R T a b m : ℕ) → 2 ^ 64 * R ≡ T + a * b + m * P → T < 2 * P → a < 2 ^ 64 → b < P → m < 2 ^ 64
    → R < 2 * P
step_small P R T a b m e t ha hb hm =
    let first : a * b ≤ (2 ^ 64 - 1) * P = mul-le a b (2 ^ 64 - 1) P (omega arith) (omega arith) in
    let second : m * P ≤ (2 ^ 64 - 1) * P = mul-le m P (2 ^ 64 - 1) P (omega arith) (omega arith) in
    omega arith
