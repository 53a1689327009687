-- Worked rows: the values that octets of a response encode, and which bits are set. Those called OpenSSL's are refusals
-- of `openssl ts -reply` 3.0, with what `openssl ts -reply -text` prints for them; the others were written by hand.
use Rattle.std.specs.Prelude.{◌≡◌, ℕ, true, false, List, [], ◌∷◌, ◌++◌, Option, Some, None, codes}
use Rattle.der_core.specs.Hex.{hex}
use Rattle.der_core.specs.BitsSet.{has_bit}
use Rattle.tsp_types.specs.FailBits.{fails_by}
use Rattle.tsp_types.specs.ResponseValue.{ResponseValue, EncodesResponse}

abbrev pub says : List ℕ → Option (List (List ℕ)) → Option (List ℕ) → Option (List ℕ) → ResponseValue
says number texts fail token = record { status = record { number = number; texts = texts; fail = fail }; token = token }

pub record ResponseRows : Type 0 where
  -- a status alone
  pub least : EncodesResponse (hex "3005 3003 0201 00") (says (hex "00") None None None)
  -- rejection, badAlg
  pub rejected : EncodesResponse (hex "3009 3007 0201 02 0302 0780") (says (hex "02") None (Some (hex "0780")) None)
  -- OpenSSL's: badAlg in words and as a bit; unacceptedPolicy
  pub bad_algorithm : EncodesResponse (hex "3037 3035 0201 02 302c 0c2a"
      ++ codes "Message digest algorithm is not supported." ++ hex "0302 0780")
      (says (hex "02") (Some (codes "Message digest algorithm is not supported." ∷ [])) (Some (hex "0780")) None)
  pub unaccepted_policy : EncodesResponse (hex "3030 302e 0201 02 3024 0c22"
      ++ codes "Requested policy is not supported." ++ hex "0303 000001")
      (says (hex "02") (Some (codes "Requested policy is not supported." ∷ [])) (Some (hex "000001")) None)
  -- granted with a token, whose contents are not read
  pub granted : EncodesResponse (hex "3009 3003 0201 00 3002 0500") (says (hex "00") None None (Some (hex "3002 0500")))
  -- every part: two texts, one without octets and one whose octets aren't UTF-8
  pub every_part : EncodesResponse (hex "3011 300d 0201 01 3005 0c00 0c01 ff 0301 00 3000")
      (says (hex "01") (Some ([] ∷ hex "ff" ∷ [])) (Some (hex "00")) (Some (hex "3000")))
  -- no text, and a status of two octets
  pub no_text : EncodesResponse (hex "3008 3006 0202 0100 3000") (says (hex "0100") (Some []) None None)
  -- a status of no octets, texts of another type, bits before the texts
  pub no_status : (v : ResponseValue) → EncodesResponse (hex "3004 3002 0200") v → ⊥
  pub other_text : (v : ResponseValue) → EncodesResponse (hex "300a 3008 0201 02 3003 1301 61") v → ⊥
  pub early_bits : (v : ResponseValue) → EncodesResponse (hex "300b 3009 0201 02 0302 0780 3000") v → ⊥
  -- bits whose unused ones are not 0, and none of them
  pub bits_used : (v : ResponseValue) → EncodesResponse (hex "3009 3007 0201 02 0302 0781") v → ⊥
  pub no_bits : (v : ResponseValue) → EncodesResponse (hex "3007 3005 0201 02 0300") v → ⊥
  -- a token that is a SET, and two of them
  pub set_for_token : (v : ResponseValue) → EncodesResponse (hex "3007 3003 0201 00 3100") v → ⊥
  pub two_tokens : (v : ResponseValue) → EncodesResponse (hex "3009 3003 0201 00 3000 3000") v → ⊥
  -- a token without a status
  pub token_alone : (v : ResponseValue) → EncodesResponse (hex "3002 3000") v → ⊥

pub record FailRows : Type 0 where
  -- bit 0 is the high bit of the first octet after the count, and not the low one
  pub first : has_bit 0 (hex "0780") ≡ true
  pub seventh : has_bit 7 (hex "0780") ≡ false
  pub low : has_bit 7 (hex "0001") ≡ true
  pub not_low : has_bit 0 (hex "0001") ≡ false
  -- the count goes on in the second octet
  pub fifteenth : has_bit 15 (hex "000001") ≡ true
  pub eighth : has_bit 8 (hex "000001") ≡ false
  pub eighth_set : has_bit 8 (hex "000080") ≡ true
  -- bit 25, and none after the last octet
  pub twenty_fifth : has_bit 25 (hex "06 00000040") ≡ true
  pub behind : has_bit 26 (hex "06 00000040") ≡ false
  pub far : has_bit 32 (hex "06 ffffffc0") ≡ false
  pub none : has_bit 0 (hex "00") ≡ false
  -- of a response
  pub policy : fails_by 15 (Some (hex "000001")) ≡ true
  pub absent : fails_by 0 None ≡ false
