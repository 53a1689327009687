-- Worked rows of numbers, their words and octets, and of powers modulo a number.
use Rattle.std.specs.Prelude.{◌≡◌, ◌%◌, ◌^◌, [], ◌∷◌}
use Rattle.big_numbers.specs.Numbers.{i2osp, os2ip, value}

pub record OctetRows : Type 0 where
  pub none : os2ip [] ≡ 0
  -- the first octet is the highest
  pub three : os2ip (0x01 ∷ 0x02 ∷ 0x03 ∷ []) ≡ 66051
  -- octets 0 before a number
  pub padded : i2osp 66051 5 ≡ 0x00 ∷ 0x00 ∷ 0x01 ∷ 0x02 ∷ 0x03 ∷ []
  pub zero : i2osp 0 2 ≡ 0x00 ∷ 0x00 ∷ []
  -- 2 ^ 64 - 1 and 2 ^ 64
  pub one_word : os2ip (0xff ∷ 0xff ∷ 0xff ∷ 0xff ∷ 0xff ∷ 0xff ∷ 0xff ∷ 0xff ∷ []) ≡ 18446744073709551615
  pub two_words : i2osp 18446744073709551616 9 ≡ 0x01 ∷ 0x00 ∷ 0x00 ∷ 0x00 ∷ 0x00 ∷ 0x00 ∷ 0x00 ∷ 0x00 ∷ 0x00 ∷ []

pub record WordRows : Type 0 where
  -- the first word is the lowest
  pub two : value (2 ∷ 1 ∷ []) ≡ 18446744073709551618
  -- a word 0 above changes nothing
  pub padded : value (2 ∷ 1 ∷ 0 ∷ []) ≡ 18446744073709551618
  -- 2 ^ 128 + 51
  pub three : value (51 ∷ 0 ∷ 1 ∷ []) ≡ 340282366920938463463374607431768211507

pub record PowerRows : Type 0 where
  -- n = 61 * 53, e = 17, d = 2753
  pub small : 65 ^ 17 % 3233 ≡ 2790
  pub back : 2790 ^ 2753 % 3233 ≡ 65
  -- modulo 2 ^ 128 + 51: of 2 ^ 64 + 2, by octets
  pub square : i2osp (os2ip (0x01 ∷ 0x00 ∷ 0x00 ∷ 0x00 ∷ 0x00 ∷ 0x00 ∷ 0x00 ∷ 0x00 ∷ 0x02 ∷ []) ^ 2
      % value (51 ∷ 0 ∷ 1 ∷ [])) 9 ≡ 0x03 ∷ 0xff ∷ 0xff ∷ 0xff ∷ 0xff ∷ 0xff ∷ 0xff ∷ 0xff ∷ 0xd1 ∷ []
