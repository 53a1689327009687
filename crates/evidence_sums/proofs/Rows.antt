-- The worked rows, by computation.
use Rattle.std.proofs.Common.{refl}
use Rattle.hex.specs.Hex.{decode_pairs}
use Rattle.evidence_sums.specs.Rows.{RecordsRows, SumsRows}

pub sums_rows : SumsRows
unfolding decode_pairs
sums_rows = record {
  text = refl;
  binary = refl;
  unended = refl;
  upper = refl;
  backslash = refl;
  lf = refl;
  cr = refl;
  space = refl;
  asterisk = refl;
  input = refl;
  sha1 = refl;
  sha512 = refl;
  two = refl;
  empty = refl;
  blank = refl;
  comment = refl;
  tag = refl;
  another = refl;
  short = refl;
  no_digit = refl;
  one_space = refl;
  alone = refl;
  needless = refl;
  unmarked = refl;
  dangling = refl;
  letter = refl;
  carriage = refl;
  first = refl;
  no_name = refl;
  absolute = refl;
  here = refl;
  above = refl;
  twice_slashed = refl;
  folder = refl;
  null = refl;
  points = refl;
  twice = refl;
  form_first = refl;
  name_first = refl;
}

pub records_rows : RecordsRows
unfolding decode_pairs
records_rows = record {
  group = refl;
  no_sums = refl;
  among = refl;
  escaped = refl;
  first = refl;
  alone = refl;
  spaces = refl;
  space = refl;
  another = refl;
  empty = refl;
  anywhere = refl;
  shared = refl;
  twice = refl;
  above = refl;
}
