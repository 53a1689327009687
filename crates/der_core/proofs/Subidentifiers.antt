-- Octets none of which is 80 (hexadecimal) are subidentifiers exactly if the last one ends one.
use Rattle.std.proofs.Common.{◌≡◌, ◌≢◌, ◌-◌, ◌<◌, ℕ, zero, suc, Bool, true, false, List, [], ◌∷◌, length, drop}
use Rattle.std.proofs.Common.{slice_index_or, inl, inr, refl, arith}
use Rattle.std.specs.Prelude.{nat_lt}
use Rattle.std.proofs.lemmas.Bool.Decides.{eqb_tells}
use Rattle.der_core.specs.Contents.{are_subidentifiers}

-- an octet that isn't 80 goes on, whether a subidentifier begins with it or not
goes_on : (begins : Bool) (b : ℕ) (bs : List ℕ) → b ≢ 128
    → are_subidentifiers begins (b ∷ bs) ≡ are_subidentifiers (nat_lt b 128) bs
goes_on false b bs h = refl
goes_on true b bs h = elim (eqb_tells b 128) [
  | inl same ↦ absurd (h same.1)
  | inr other ↦ rw other.0 refl
]

pub last_decides : (begins : Bool) (b : ℕ) (bs : List ℕ)
    → ((k : ℕ) → k < length (b ∷ bs) → slice_index_or (b ∷ bs) k 0 ≢ 128)
    → are_subidentifiers begins (b ∷ bs) ≡ nat_lt (slice_index_or (b ∷ bs) (length bs) 0) 128
last_decides begins b [] h = goes_on begins b [] (h 0 (omega arith))
last_decides begins b (c ∷ bs) h =
    rw (goes_on begins b (c ∷ bs) (h 0 (omega arith)))
    (last_decides (nat_lt b 128) c bs (λ k lt. h (suc k) (omega arith)))

pub last_of_body : (begins : Bool) (body : List ℕ) → 0 < length body
    → ((k : ℕ) → k < length body → slice_index_or body k 0 ≢ 128)
    → nat_lt (slice_index_or body (length body - 1) 0) 128 ≡ are_subidentifiers begins body
last_of_body begins [] lt h = absurd (omega arith)
last_of_body begins (b ∷ bs) lt h = rw (last_decides begins b bs h) (rw back refl)
  where
    back : length (b ∷ bs) - 1 ≡ length bs
    back = omega arith

-- octets at the front none of which is 80: only the last of them matters
pub front_passed : (n : ℕ) (begins : Bool) (body : List ℕ) → n < length body
    → ((k : ℕ) → k < suc n → slice_index_or body k 0 ≢ 128)
    → are_subidentifiers begins body ≡ are_subidentifiers (nat_lt (slice_index_or body n 0) 128) (drop (suc n) body)
front_passed n begins [] lt h = absurd (omega arith)
front_passed zero begins (b ∷ bs) lt h = goes_on begins b bs (h 0 (omega arith))
front_passed (suc n) begins (b ∷ bs) lt h =
    rw (goes_on begins b bs (h 0 (omega arith)))
    (front_passed n (nat_lt b 128) bs (omega arith) (λ k lt. h (suc k) (omega arith)))
