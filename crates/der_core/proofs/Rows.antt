-- The worked rows hold, by computing.
use Rattle.std.proofs.Common.{refl}
use Rattle.der_core.specs.Element.{len}
use Rattle.der_core.specs.HexRows.{HexRows}
use Rattle.der_core.specs.ContentsRows.{ElementRows, ContentsRows, TimeRows}

pub hex_rows : HexRows
unfolding len
hex_rows = record {
  digits = refl;
  bounds = refl;
  spaces = refl;
  no_text = refl;
}

pub element_rows : ElementRows
unfolding len
element_rows = record {
  sequence = refl;
  context = refl;
  zero_tag = refl;
  long_tag = refl;
  long_constructed_tag = refl;
  length_0 = refl;
  length_127 = refl;
  length_128 = refl;
  length_255 = refl;
  length_256 = refl;
  length_65535 = refl;
  length_65536 = refl;
  length_16777215 = refl;
  length_16777216 = refl;
  longest = refl;
  less = refl;
  less_at_first = refl;
  greater = refl;
  greater_at_first = refl;
  beginning = refl;
  longer = refl;
  equal = refl;
  front = refl;
  whole_front = refl;
  other_front = refl;
  short_front = refl;
}

pub contents_rows : ContentsRows
unfolding len
contents_rows = record {
  boolean_false = refl;
  boolean_true = refl;
  no_boolean_empty = refl;
  no_boolean_other = refl;
  no_boolean_two = refl;
  integer_0 = refl;
  integer_minus_128 = refl;
  integer_128 = refl;
  integer_minus_129 = refl;
  integer_256 = refl;
  no_integer_empty = refl;
  no_integer_127 = refl;
  no_integer_minus_128 = refl;
  no_integer_0 = refl;
  version_listed = refl;
  no_version_other = refl;
  no_version_empty = refl;
  no_version_of_two = refl;
  bits_0 = refl;
  bits_8 = refl;
  bits_1 = refl;
  bits_13 = refl;
  no_bits_empty = refl;
  no_bits_unused = refl;
  no_bits_8_unused = refl;
  no_bits_set = refl;
  no_bits_set_last = refl;
  oid_1_2 = refl;
  oid_0_0 = refl;
  oid_2_999_1 = refl;
  oid_2_48 = refl;
  oid_long = refl;
  no_oid_empty = refl;
  no_oid_padded = refl;
  no_oid_padded_later = refl;
  no_oid_open = refl;
}

pub time_rows : TimeRows
unfolding len
time_rows = record {
  utc_usual = refl;
  utc_leap_day = refl;
  utc_50 = refl;
  utc_april = refl;
  utc_december = refl;
  no_utc_empty = refl;
  no_utc_local = refl;
  no_utc_small = refl;
  no_utc_short = refl;
  no_utc_long = refl;
  no_utc_leap_day = refl;
  no_utc_month_13 = refl;
  no_utc_month_0 = refl;
  no_utc_day_32 = refl;
  no_utc_april_31 = refl;
  no_utc_june_31 = refl;
  no_utc_september_31 = refl;
  no_utc_november_31 = refl;
  no_utc_february_30 = refl;
  no_utc_day_0 = refl;
  no_utc_hour = refl;
  no_utc_minute = refl;
  no_utc_second = refl;
  no_utc_slash = refl;
  no_utc_colon = refl;
  generalized_usual = refl;
  generalized_leap_day_0 = refl;
  generalized_leap_day_2000 = refl;
  generalized_tenth = refl;
  generalized_nine_digits = refl;
  generalized_last = refl;
  no_generalized_empty = refl;
  no_generalized_local = refl;
  no_generalized_difference = refl;
  no_generalized_small = refl;
  no_generalized_long = refl;
  no_generalized_leap_day_1900 = refl;
  no_generalized_leap_day_2100 = refl;
  no_generalized_leap_day_2200 = refl;
  no_generalized_leap_day_2023 = refl;
  no_generalized_point = refl;
  no_generalized_idle_digit = refl;
  no_generalized_idle_fraction = refl;
  no_generalized_ten_digits = refl;
  no_generalized_comma = refl;
  no_generalized_letter = refl;
  no_generalized_month = refl;
  no_generalized_hour = refl;
}
