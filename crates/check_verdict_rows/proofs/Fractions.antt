-- The worked rows of times with fractions hold.
use Rattle.std.proofs.Common.{◌≡◌, ℕ, ◌+◌, ◌≤◌, true, false, List, [], ◌∷◌, Option, Some, None, refl, sym, subst, arith}
use Rattle.std.proofs.Common.{lit<, lit≤}
use Rattle.std.specs.Prelude.{codes}
use Rattle.der_core.specs.Element.{len}
use Rattle.der_time.specs.Calendar.{days_before_month}
use Rattle.der_time.specs.Moments.{unix_epoch, utc_moment, in_places, generalized_moment}
use Rattle.trust_lists.specs.Entries.{EntryValue}
use Rattle.check_verdict.specs.Trusted.{Holds}
use Rattle.check_verdict.specs.TokenRules.{LeftForToken}
use Rattle.check_verdict.specs.Rows.{digest_of_stamp, attests, terms, ten_oclock, half_a_second_later}
use Rattle.check_verdict.proofs.RowsJudged.{one_of, nor, nobody, token_names}
use Rattle.check_fit.specs.declared.rules.TokenRule.TheVariants as token
use Rattle.check_verdict_rows.specs.Fractions.{claim_of, FailsAt, FractionRows}

abbrev Left : (from until : Option ℕ) → (time : List ℕ) → ℕ → EntryValue → Type 0
Left from until time k e = LeftForToken (terms (attests from until ∷ []) []) (claim_of time) k e

left_for_stamping : (from until : Option ℕ) (time : List ℕ) → Left from until time 3 (attests from until)
unfolding len
left_for_stamping from until time = (((refl, (refl, refl)), token_names digest_of_stamp), (refl, refl))

outside : (from until : Option ℕ) (time : List ℕ) (m : ℕ) → generalized_moment time ≡ m
    → (Holds (attests from until) m → ⊥)
    → FailsAt from until time token.Period
outside from until time m is never = record {
  filter = 3;
  stops = record {
    within = lit< tt;
    left = λ lt. one_of (Left from until time 3) (attests from until) (left_for_stamping from until time);
    none = nor (Left from until time 4) (attests from until) []
        (λ p. never (subst (λ (n : ℕ). Holds (attests from until) n) is p.1))
        (nobody (Left from until time 4));
  };
  is = refl;
}

false_true : false ≡ true → ⊥
false_true e = absurd cc

inside : (from until : Option ℕ) (time : List ℕ) (m : ℕ) → generalized_moment time ≡ m → Holds (attests from until) m
    → FailsAt from until time token.SignatureFails
inside from until time m is h = record {
  filter = 4;
  stops = record {
    within = lit< tt;
    left = λ lt. one_of (Left from until time 4) (attests from until)
        (left_for_stamping from until time, subst (λ (n : ℕ). Holds (attests from until) n) (sym is) h);
    none = nor (Left from until time 5) (attests from until) [] (λ p. false_true p.1) (nobody (Left from until time 5));
  };
  is = refl;
}

-- ---- the moments and the periods, computed

-- nanoseconds at 2024-01-31 23:59:59, which is 1706745599 seconds after 1970, and half a second later
abbrev last_second : ℕ
last_second = unix_epoch + 1706745599000000000

abbrev past_it : ℕ
past_it = unix_epoch + 1706745599500000000

record Moments : Type 0 where
  pub ten : generalized_moment (codes "20240115100000Z") ≡ ten_oclock
  pub later : generalized_moment (codes "20240115100000.5Z") ≡ half_a_second_later
  pub last : generalized_moment (codes "20240131235959Z") ≡ last_second
  pub past : generalized_moment (codes "20240131235959.5Z") ≡ past_it

moments : Moments
unfolding generalized_moment in_places days_before_month
moments = record { ten = refl; later = refl; last = refl; past = refl }

after_end : Holds (attests None (Some ten_oclock)) half_a_second_later → ⊥
after_end h = let le : half_a_second_later ≤ ten_oclock = h.trusted_until in omega (arith, le)

before_start : Holds (attests (Some half_a_second_later) None) ten_oclock → ⊥
before_start h = let le : half_a_second_later ≤ ten_oclock = h.trusted_from in omega (arith, le)

after_certificate : Holds (attests None None) past_it → ⊥
unfolding utc_moment days_before_month
after_certificate h = let le = h.valid_until in omega (arith, le)

record Periods : Type 0 where
  pub at_end : Holds (attests None (Some half_a_second_later)) half_a_second_later
  pub at_start : Holds (attests (Some half_a_second_later) None) half_a_second_later
  pub with_certificate : Holds (attests None None) last_second

periods : Periods
unfolding utc_moment days_before_month
periods = record {
  at_end = record { valid_from = lit≤ tt; valid_until = lit≤ tt; trusted_from = tt; trusted_until = lit≤ tt };
  at_start = record { valid_from = lit≤ tt; valid_until = lit≤ tt; trusted_from = lit≤ tt; trusted_until = tt };
  with_certificate = record { valid_from = lit≤ tt; valid_until = lit≤ tt; trusted_from = tt; trusted_until = tt };
}

pub fraction_rows : FractionRows
fraction_rows = record {
  after_end = outside None (Some ten_oclock) (codes "20240115100000.5Z") half_a_second_later moments.later after_end;
  at_end = inside None (Some half_a_second_later)
      (codes "20240115100000.5Z") half_a_second_later moments.later periods.at_end;
  before_start = outside (Some half_a_second_later) None (codes "20240115100000Z") ten_oclock moments.ten before_start;
  at_start = inside (Some half_a_second_later) None
      (codes "20240115100000.5Z") half_a_second_later moments.later periods.at_start;
  after_certificate = outside None None (codes "20240131235959.5Z") past_it moments.past after_certificate;
  with_certificate = inside None None (codes "20240131235959Z") last_second moments.last periods.with_certificate;
}
