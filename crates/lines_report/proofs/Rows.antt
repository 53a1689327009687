-- The worked rows, by computation.
use Rattle.std.proofs.Common.{refl}
use Rattle.std.specs.Prelude.{codes}
use Rattle.std.specs.Fmt.{digits}
use Rattle.der_time.specs.Calendar.{days_before_month}
use Rattle.der_time.specs.Moments.{in_places, generalized_moment}
use Rattle.lines_report.specs.Rows.{LineRows}

pub line_rows : LineRows
unfolding generalized_moment in_places days_before_month digits
line_rows = record {
  accepted = (codes "20240115100000Z", record { formed = refl; denotes = refl }, refl);
  fraction = (codes "20240115100000.5Z", record { formed = refl; denotes = refl }, refl);
  signer = refl;
  tenth = refl;
  token = refl;
  token_signer = refl;
  token_malformed = refl;
  token_of_another_type = refl;
  tst_malformed = refl;
  malformed = refl;
  file = refl;
  failed = refl;
}
