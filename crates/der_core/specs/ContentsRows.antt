-- Worked rows: contents of the basic types, and octets of identifiers and lengths.
use Rattle.std.specs.Prelude.{◌≡◌, ◌-◌, ◌^◌, true, false, [], ◌∷◌, codes}
use Rattle.der_core.specs.Hex.{hex}
use Rattle.der_core.specs.Element.{is_tag, len}
use Rattle.der_core.specs.Lists.{is_less, is_front}
use Rattle.der_core.specs.Contents.{is_boolean, is_integer, is_bits, is_oid}
use Rattle.der_core.specs.Grammar.{is_of}
use Rattle.der_core.specs.Times.{is_utc, is_generalized}

-- identifiers, lengths and byte order
pub record ElementRows : Type 0 where
  -- the identifiers of a SEQUENCE and of the first context-specific element
  pub sequence : is_tag 0x30 ≡ true
  pub context : is_tag 0xa0 ≡ true
  -- 00, and identifiers of more than one octet
  pub zero_tag : is_tag 0x00 ≡ false
  pub long_tag : is_tag 0x1f ≡ false
  pub long_constructed_tag : is_tag 0xff ≡ false
  -- the least and the greatest length of each number of octets
  pub length_0 : len 0 ≡ hex "00"
  pub length_127 : len 127 ≡ hex "7f"
  pub length_128 : len 128 ≡ hex "8180"
  pub length_255 : len 255 ≡ hex "81ff"
  pub length_256 : len 256 ≡ hex "820100"
  pub length_65535 : len 65535 ≡ hex "82ffff"
  pub length_65536 : len 65536 ≡ hex "83010000"
  pub length_16777215 : len 16777215 ≡ hex "83ffffff"
  pub length_16777216 : len 16777216 ≡ hex "8401000000"
  pub longest : len (2 ^ 32 - 1) ≡ hex "84ffffffff"
  -- the first octet that differs decides, as an unsigned number
  pub less : is_less (hex "0201 7f") (hex "0201 80") ≡ true
  pub less_at_first : is_less (hex "02ff") (hex "0300") ≡ true
  pub greater : is_less (hex "0201 80") (hex "0201 7f") ≡ false
  pub greater_at_first : is_less (hex "0300") (hex "02ff") ≡ false
  -- octets are before any longer octets that begin with them, and not before themselves
  pub beginning : is_less (hex "0201") (hex "0201 00") ≡ true
  pub longer : is_less (hex "0201 00") (hex "0201") ≡ false
  pub equal : is_less (hex "0201 00") (hex "0201 00") ≡ false
  -- what octets begin with
  pub front : is_front (hex "0603 551d25") (hex "0603 551d25 0400") ≡ true
  pub whole_front : is_front (hex "0603 551d25") (hex "0603 551d25") ≡ true
  pub other_front : is_front (hex "0603 551d25") (hex "0603 551d0e 0400") ≡ false
  pub short_front : is_front (hex "0603 551d25") (hex "0603 551d") ≡ false

-- BOOLEAN, INTEGER, BIT STRING and OBJECT IDENTIFIER
pub record ContentsRows : Type 0 where
  -- the two values
  pub boolean_false : is_boolean (hex "00") ≡ true
  pub boolean_true : is_boolean (hex "ff") ≡ true
  -- no octet, another octet, and two
  pub no_boolean_empty : is_boolean [] ≡ false
  pub no_boolean_other : is_boolean (hex "01") ≡ false
  pub no_boolean_two : is_boolean (hex "0000") ≡ false
  -- 0, -128, 128, -129 and 256
  pub integer_0 : is_integer (hex "00") ≡ true
  pub integer_minus_128 : is_integer (hex "80") ≡ true
  pub integer_128 : is_integer (hex "0080") ≡ true
  pub integer_minus_129 : is_integer (hex "ff7f") ≡ true
  pub integer_256 : is_integer (hex "0100") ≡ true
  -- no octet
  pub no_integer_empty : is_integer [] ≡ false
  -- 127, -128 and 0 with one octet too many
  pub no_integer_127 : is_integer (hex "007f") ≡ false
  pub no_integer_minus_128 : is_integer (hex "ff80") ≡ false
  pub no_integer_0 : is_integer (hex "0000") ≡ false
  -- a version is one octet of those listed
  pub version_listed : is_of (1 ∷ 3 ∷ []) (hex "03") ≡ true
  pub no_version_other : is_of (1 ∷ 3 ∷ []) (hex "02") ≡ false
  pub no_version_empty : is_of (1 ∷ 3 ∷ []) [] ≡ false
  pub no_version_of_two : is_of (1 ∷ 3 ∷ []) (hex "0103") ≡ false
  -- no bit, eight bits, one bit, and thirteen
  pub bits_0 : is_bits (hex "00") ≡ true
  pub bits_8 : is_bits (hex "00ff") ≡ true
  pub bits_1 : is_bits (hex "0780") ≡ true
  pub bits_13 : is_bits (hex "03fff8") ≡ true
  -- no octet, and unused bits without any octet
  pub no_bits_empty : is_bits [] ≡ false
  pub no_bits_unused : is_bits (hex "01") ≡ false
  -- eight unused bits
  pub no_bits_8_unused : is_bits (hex "0800") ≡ false
  -- an unused bit that is set, in the first octet and in the last
  pub no_bits_set : is_bits (hex "0740") ≡ false
  pub no_bits_set_last : is_bits (hex "03fffc") ≡ false
  -- 1.2, 0.0, 2.999.1 and 2.48
  pub oid_1_2 : is_oid (hex "2a") ≡ true
  pub oid_0_0 : is_oid (hex "00") ≡ true
  pub oid_2_999_1 : is_oid (hex "883701") ≡ true
  pub oid_2_48 : is_oid (hex "8100") ≡ true
  -- a first arc that doesn't fit a machine word
  pub oid_long : is_oid (hex "ffffffffffffffffffffffffffffffffffffffff7f") ≡ true
  -- no octet
  pub no_oid_empty : is_oid [] ≡ false
  -- a needless 80 at the front, and at the front of a later subidentifier
  pub no_oid_padded : is_oid (hex "8001") ≡ false
  pub no_oid_padded_later : is_oid (hex "2a8001") ≡ false
  -- a last subidentifier without an end
  pub no_oid_open : is_oid (hex "2a81") ≡ false

-- UTCTime and GeneralizedTime
pub record TimeRows : Type 0 where
  -- the first second of 2024
  pub utc_usual : is_utc (codes "240101000000Z") ≡ true
  -- the last second of a leap day, since 00 is 2000
  pub utc_leap_day : is_utc (codes "000229235959Z") ≡ true
  -- 1950
  pub utc_50 : is_utc (codes "500101000000Z") ≡ true
  -- the last days of months
  pub utc_april : is_utc (codes "240430000000Z") ≡ true
  pub utc_december : is_utc (codes "241231000000Z") ≡ true
  -- nothing, no Z, a small z, and no seconds
  pub no_utc_empty : is_utc [] ≡ false
  pub no_utc_local : is_utc (codes "240101000000") ≡ false
  pub no_utc_small : is_utc (codes "240101000000z") ≡ false
  pub no_utc_short : is_utc (codes "2401010000Z") ≡ false
  -- one octet too many
  pub no_utc_long : is_utc (codes "240101000000ZZ") ≡ false
  -- 29 February of a year that is no leap year
  pub no_utc_leap_day : is_utc (codes "230229000000Z") ≡ false
  -- months 13 and 00, days 32, 31 of April and 00
  pub no_utc_month_13 : is_utc (codes "241301000000Z") ≡ false
  pub no_utc_month_0 : is_utc (codes "240001000000Z") ≡ false
  pub no_utc_day_32 : is_utc (codes "241232000000Z") ≡ false
  pub no_utc_april_31 : is_utc (codes "240431000000Z") ≡ false
  pub no_utc_june_31 : is_utc (codes "240631000000Z") ≡ false
  pub no_utc_september_31 : is_utc (codes "240931000000Z") ≡ false
  pub no_utc_november_31 : is_utc (codes "241131000000Z") ≡ false
  pub no_utc_february_30 : is_utc (codes "240230000000Z") ≡ false
  pub no_utc_day_0 : is_utc (codes "240100000000Z") ≡ false
  -- hour 24, minute 60, second 60
  pub no_utc_hour : is_utc (codes "240101240000Z") ≡ false
  pub no_utc_minute : is_utc (codes "240101006000Z") ≡ false
  pub no_utc_second : is_utc (codes "240101000060Z") ≡ false
  -- the characters before 0 and after 9
  pub no_utc_slash : is_utc (codes "24010100000/Z") ≡ false
  pub no_utc_colon : is_utc (codes "2401010000:0Z") ≡ false
  -- whole seconds
  pub generalized_usual : is_generalized (codes "20240115100000Z") ≡ true
  -- leap days of years that 400 divides
  pub generalized_leap_day_0 : is_generalized (codes "00000229000000Z") ≡ true
  pub generalized_leap_day_2000 : is_generalized (codes "20000229000000Z") ≡ true
  -- fractions of one digit and of nine, and the last time that can be written
  pub generalized_tenth : is_generalized (codes "20240115100000.5Z") ≡ true
  pub generalized_nine_digits : is_generalized (codes "20240115100000.123456789Z") ≡ true
  pub generalized_last : is_generalized (codes "99991231235959.000000001Z") ≡ true
  -- nothing, no Z, a difference, and a small z
  pub no_generalized_empty : is_generalized [] ≡ false
  pub no_generalized_local : is_generalized (codes "20240115100000") ≡ false
  pub no_generalized_difference : is_generalized (codes "20240115100000+0000") ≡ false
  pub no_generalized_small : is_generalized (codes "20240115100000.5z") ≡ false
  -- one octet too many
  pub no_generalized_long : is_generalized (codes "20240115100000ZZ") ≡ false
  -- years that 100 divides and 400 doesn't, and one that 4 doesn't
  pub no_generalized_leap_day_1900 : is_generalized (codes "19000229000000Z") ≡ false
  pub no_generalized_leap_day_2100 : is_generalized (codes "21000229000000Z") ≡ false
  pub no_generalized_leap_day_2200 : is_generalized (codes "22000229000000Z") ≡ false
  pub no_generalized_leap_day_2023 : is_generalized (codes "20230229000000Z") ≡ false
  -- a fraction without digits, ones that end in 0, one of ten digits, and one after a comma
  pub no_generalized_point : is_generalized (codes "20240115100000.Z") ≡ false
  pub no_generalized_idle_digit : is_generalized (codes "20240115100000.50Z") ≡ false
  pub no_generalized_idle_fraction : is_generalized (codes "20240115100000.0Z") ≡ false
  pub no_generalized_ten_digits : is_generalized (codes "20240115100000.1234567891Z") ≡ false
  pub no_generalized_comma : is_generalized (codes "20240115100000,5Z") ≡ false
  -- a fraction with another character
  pub no_generalized_letter : is_generalized (codes "20240115100000.5a5Z") ≡ false
  -- month 00
  pub no_generalized_month : is_generalized (codes "20240001000000Z") ≡ false
  -- hour 24
  pub no_generalized_hour : is_generalized (codes "20240115240000Z") ≡ false
