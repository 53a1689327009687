-- Whether octets are a BIT STRING depends on the first and the last of them only.
use Rattle.std.proofs.Common.{◌≡◌, ℕ, suc, ◌-◌, ◌%◌, ◌^◌, ◌<◌, ◌≤◌, eqb, ltb, true, List, [], ◌∷◌, length, get_or, refl}
use Rattle.std.proofs.Common.{arith}
use Rattle.std.proofs.lemmas.Bool.{lt-ltb}
use Rattle.der_core.specs.Contents.{ends_in_zeros, is_bits}

last_decides : (k b : ℕ) (bs : List ℕ) → eqb (get_or (b ∷ bs) (length bs) 0 % (2 ^ k)) 0 ≡ ends_in_zeros k (b ∷ bs)
last_decides k b [] = refl
last_decides k b (c ∷ bs) = last_decides k c bs

pub ends_decide : (body : List ℕ) → 2 ≤ length body → get_or body 0 0 < 8
    → eqb (get_or body (length body - 1) 0 % (2 ^ get_or body 0 0)) 0 ≡ is_bits body
ends_decide [] long few = absurd (omega arith)
ends_decide (k ∷ []) long few = absurd (omega arith)
ends_decide (k ∷ b ∷ bs) long few =
    let at : length (k ∷ b ∷ bs) - 1 ≡ suc (length bs) = omega arith in
    let small : ltb k 8 ≡ true = lt-ltb k 8 few in
    rw (at, small) (last_decides k b bs)
