-- Whether octets are UTF-8.
use Rattle.std.proofs.Common.{◌≡◌, ℕ, Bool, true, false, List, refl, sym}
use Rattle.std.specs.Str.{IsUtf8, is_utf8}
use Rattle.std.proofs.lemmas.Str.{IsUtf8-from_is_utf8, is_utf8-from_IsUtf8}

pub is_text : (octets : List ℕ) → IsUtf8 octets → true ≡ is_utf8 octets
is_text octets is = sym (is_utf8-from_IsUtf8 octets is)

pub is_no_text : (octets : List ℕ) → ¬ (IsUtf8 octets) → false ≡ is_utf8 octets
is_no_text octets other = by_case (is_utf8 octets) refl
  where
    by_case : (b : Bool) → is_utf8 octets ≡ b → false ≡ is_utf8 octets
    by_case true e = absurd (other (IsUtf8-from_is_utf8 octets e))
    by_case false e = sym e
