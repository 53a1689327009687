-- The table of the digits of octets.
use Rattle.std.proofs.Common.{◌≡◌, ℕ, ◌/◌, ◌%◌, ◌<◌, Bool, [], ◌∷◌, refl}
use Rattle.std.specs.Prelude.{◌==◌, ◌&&◌, slice_index}
use Rattle.std.proofs.lemmas.Bool.{and_parts, eqb-true}
use Rattle.hex.specs.Hex.{encode_lower, encode_with, lower_digits}
use Rattle.list_answers.specs.declared.written.TheConstants.{PAIRS}
use Rattle.list_answers.proofs.Tables.{right_there}

abbrev right_at : ℕ → Bool
right_at c = (slice_index PAIRS c / 256 == slice_index lower_digits (c / 16))
    && (slice_index PAIRS c % 256 == slice_index lower_digits (c % 16))

pub digits_there : (c : ℕ) → c < 256
    → slice_index PAIRS c / 256 ∷ slice_index PAIRS c % 256 ∷ [] ≡ encode_lower (c ∷ [])
unfolding encode_with
digits_there c lt =
    let parts = and_parts (slice_index PAIRS c / 256 == slice_index lower_digits (c / 16))
    (slice_index PAIRS c % 256 == slice_index lower_digits (c % 16))
    (right_there right_at 256 c refl lt) in
    let first : slice_index PAIRS c / 256 ≡ slice_index lower_digits (c / 16) = eqb-true _ _ parts.0 in
    let second : slice_index PAIRS c % 256 ≡ slice_index lower_digits (c % 16) = eqb-true _ _ parts.1 in
    cc
