-- The worked rows hold.
use Rattle.std.proofs.Common.{ℕ, zero, suc, ◌<◌, ◌≤◌, All, Some, None, refl, lit<, lit≤, arith}
use Rattle.der_time.specs.Calendar.{days_before_month}
use Rattle.der_time.specs.Moments.{utc_moment}
use Rattle.check_verdict.specs.Trusted.{Holds}
use Rattle.check_verdict.specs.Rows.{signs, attests, ten_oclock, a_second_before, half_a_second_later}
use Rattle.check_verdict.proofs.Beside.{authorities_beside, signers_beside}
use Rattle.check_verdict.proofs.RowsJudged.{file_rows, open_then}
use Rattle.check_under.specs.Rows.{BesideRows, UnderRows, trusting}
use Rattle.check_under.proofs.Accepted.{HoldsThen, accepted_beside}

open_later : Holds (attests None None) half_a_second_later
unfolding utc_moment days_before_month
open_later = record { valid_from = lit≤ tt; valid_until = lit≤ tt; trusted_from = tt; trusted_until = tt }

until_ten : Holds (attests None (Some ten_oclock)) ten_oclock
unfolding utc_moment days_before_month
until_ten = record { valid_from = lit≤ tt; valid_until = lit≤ tt; trusted_from = tt; trusted_until = lit≤ tt }

signs_then : Holds (signs None None) ten_oclock
unfolding utc_moment days_before_month
signs_then = record { valid_from = lit≤ tt; valid_until = lit≤ tt; trusted_from = tt; trusted_until = tt }

signs_until : Holds (signs None (Some ten_oclock)) ten_oclock
unfolding utc_moment days_before_month
signs_until = record { valid_from = lit≤ tt; valid_until = lit≤ tt; trusted_from = tt; trusted_until = lit≤ tt }

no_longer : Holds (attests None (Some ten_oclock)) half_a_second_later → ⊥
no_longer h =
    let le : half_a_second_later ≤ ten_oclock = h.trusted_until in
    let lt : ten_oclock < half_a_second_later = lit< tt in absurd (omega (arith, le, lt))

not_before : ten_oclock ≤ a_second_before → ⊥
not_before le = let lt : a_second_before < ten_oclock = lit< tt in absurd (omega (arith, le, lt))

pub beside_rows : BesideRows
beside_rows = record {
  without_end = (authorities_beside half_a_second_later ten_oclock (attests None None) refl).1
      (open_then, open_later, lit≤ tt);
  at_once = (authorities_beside ten_oclock ten_oclock (attests None None) refl).1 (open_then, open_then, lit≤ tt);
  until_then = (authorities_beside ten_oclock ten_oclock (attests None (Some ten_oclock)) refl).1
      (until_ten, until_ten, lit≤ tt);
  had_ended = λ h. no_longer
      ((authorities_beside half_a_second_later ten_oclock (attests None (Some ten_oclock)) refl).0 h).1;
  later = λ h. not_before ((authorities_beside a_second_before ten_oclock (attests None None) refl).0 h).2;
  signer = (signers_beside half_a_second_later ten_oclock (signs None (Some ten_oclock)) refl).1 signs_until;
  signer_later = (signers_beside a_second_before ten_oclock (signs None None) refl).1 signs_then;
}

-- both entries
all_then : (k : ℕ) → Holds (attests None None) k → All (HoldsThen k) trusting.trust
all_then k h zero d lt = λ is. absurd cc
all_then k h (suc zero) d lt = λ is. h
all_then k h (suc (suc i)) d lt = absurd (omega (arith, lt))

pub under_rows : UnderRows
unfolding utc_moment days_before_month
under_rows = record {
  accepted = accepted_beside trusting half_a_second_later _ None ten_oclock
      (all_then half_a_second_later open_later) (lit≤ tt) file_rows.accepted;
  at_once = accepted_beside trusting ten_oclock _ None ten_oclock (all_then ten_oclock open_then) (lit≤ tt)
      file_rows.accepted;
  later = file_rows.ended;
}
