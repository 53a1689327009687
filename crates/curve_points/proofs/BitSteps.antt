-- The bits of a word from the top.
use Rattle.std.proofs.Common.{◌≡◌, ℕ, ◌+◌, ◌*◌, ◌-◌, ◌/◌, ◌%◌, ◌^◌, ◌<◌, ◌≤◌, cond, nat_eq, bit_and, ap, sym, ◌∙◌}
use Rattle.std.proofs.Common.{arith}
use Rattle.std.proofs.lemmas.Nat.{shr-shr, and_mask, pow-add}

pub begun : (w m : ℕ) → w < 2 ^ 64 → m ≡ 2 ^ 0 * m + w / 2 ^ (64 - 0)
begun w m h = omega arith

digit : (n r : ℕ) → r ≡ n % 2 → cond (nat_eq r 1) 1 0 ≡ n % 2
digit n r e = grind arith

halves : (w k : ℕ) → 2 * (w / 2 ^ (k + 1)) + w / 2 ^ k % 2 ≡ w / 2 ^ k
halves w k = ap (λ n. 2 * n + w / 2 ^ k % 2) (sym (shr-shr w k 1)) ∙ omega arith

doubled_power : (i : ℕ) → 2 ^ (i + 1) ≡ 2 * 2 ^ i
doubled_power i = pow-add 2 i 1 ∙ omega arith

pub continued : (w m i : ℕ) → i < 64
    → 2 * (2 ^ i * m + w / 2 ^ (64 - i)) + cond (nat_eq (bit_and (w / 2 ^ (63 - i)) 1) 1) 1 0
    ≡ 2 ^ (i + 1) * m + w / 2 ^ (64 - (i + 1))
continued w m i h =
    let e : 64 - i ≡ 63 - i + 1 = omega arith in
    let f : 64 - (i + 1) ≡ 63 - i = omega arith in
    rw (e, f, doubled_power i, digit (w / 2 ^ (63 - i)) (bit_and (w / 2 ^ (63 - i)) 1) (and_mask (w / 2 ^ (63 - i)) 1))
    (omega (arith, halves w (63 - i)))

pub ended : (w m i : ℕ) → 64 ≤ i → i ≤ 64 → 2 ^ i * m + w / 2 ^ (64 - i) ≡ 2 ^ 64 * m + w
ended w m i h k =
    let e : i ≡ 64 = omega arith in
    rw e (omega arith)
