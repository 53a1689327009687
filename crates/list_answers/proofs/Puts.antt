-- What was put piece by piece.
use Rattle.std.proofs.Common.{◌≡◌, ℕ, List, [], ◌∷◌, ◌++◌, length, Ok, refl, sym, ap, subst, ◌∙◌, append-nil, arith}
use Rattle.hex.specs.Hex.{encode_with, encode_lower}
use Rattle.devices.specs.Device.{Wrote}
use Rattle.devices.proofs.Putting.{wrote_next, wrote_part}

-- nothing is put of nothing
pub wrote_none : (u : Unit {0}) (tells : Type 0) (t : List ℕ) (c : ℕ) → Wrote (Ok u) tells t t c c []
wrote_none u tells t c = (λ h. sym (append-nil t), refl)

-- the digits of an octet in front of those of others
pub digits_first : (b : ℕ) (bs : List ℕ) → encode_lower (b ∷ bs) ≡ encode_lower (b ∷ []) ++ encode_lower bs
unfolding encode_with
digits_first b bs = refl

pub no_digits : encode_lower [] ≡ []
unfolding encode_with
no_digits = refl

pub ruleset digit_by_digit = (wrote_next, wrote_part, wrote_none, digits_first, no_digits)

-- ---- octets as digits

-- what is left begins with the digits of its first octet
pub digits_are : (left : List ℕ) (b : ℕ) (bs two : List ℕ) → left ≡ b ∷ bs → two ≡ encode_lower (b ∷ [])
    → encode_lower left ≡ two ++ encode_lower bs
digits_are left b bs two e p = ap encode_lower e ∙ digits_first b bs ∙ sym (ap (λ (x : List ℕ). x ++ encode_lower bs) p)

pub digits_end : (u : Unit {0}) (tells : Type 0) (t : List ℕ) (c : ℕ) (left : List ℕ) → left ≡ []
    → Wrote (Ok u) tells t t c c (encode_lower left)
digits_end u tells t c left e =
    subst (λ (x : List ℕ). Wrote (Ok u) tells t t c c x) (sym (ap encode_lower e ∙ no_digits)) (wrote_none u tells t c)

pub emptied : (xs : List ℕ) → length xs ≡ 0 → xs ≡ []
emptied [] e = refl
emptied (x ∷ xs) e = absurd (omega arith)
