use Rattle.std.proofs.Common.{◌≡◌, ◌+◌, ◌≤◌, ◌++◌, take, set, inl, inr, ap, ◌∙◌, length, arith}
use Rattle.der_time.proofs.Places.{places_length}
use Rattle.der_time.proofs.Stamps.{Names, dots, spelled}
use Rattle.der_time.proofs.time_text.generalized_text.Goals.{After-copy_from_slice-2, then-kept-eq0, else-kept-eq0}
use Rattle.der_time.proofs.time_text.generalized_text.Goals as goal
use borrow.Rule.Slice.PartMut.{put_mid}

-- the octets name the moment
names : (c : After-copy_from_slice-2)
    → Names (take (c.if-kept-eq0.end + 1) (set (put_mid 15 9 (c.copy_from_slice.new.self ++ dots)
    c.copy_from_slice-2.new.self) c.if-kept-eq0.end 90)) c.args.moment
names c =
    spelled c.args.moment c.date_of-date.result.year c.date_of-date.result.month c.date_of-date.result.day
    c.clock.result c.subsecond.result
    (record {
      year_below = c.date_of-date.ensures.year;
      date = c.date_of-date.ensures.day;
      days = c.date_of-date.ensures.number ∙ c.days.ensures.days;
      second = c.clock.ensures;
      nanosecond = c.subsecond.ensures;
    })
    c.copy_from_slice.new.self c.copy_from_slice-2.new.self c.places_of-places.result c.kept_places-kept.result
    c.if-kept-eq0.end
    (c.copy_from_slice.ensures.after ∙ c.stamp_of.ensures) c.copy_from_slice-2.ensures.after
    (record {
      are = c.places_of-places.ensures;
      within = c.kept_places-kept.ensures.within;
      zeros = c.kept_places-kept.ensures.zeros;
      last = c.kept_places-kept.ensures.last;
      ends = elim c.if-kept-eq0.branch [
        | then-kept-eq0 w ↦ inl (w.if-kept-eq0.true, w.end-is)
        | else-kept-eq0 w ↦ inr (omega arith, w.end-is)
      ];
    })

pub invariant_of-result : goal.invariant_of-result
invariant_of-result c =
    let size : length c.places_of-places.result ≡ 9 = ap length c.places_of-places.ensures
    ∙ places_length 9 c.subsecond.result in
    let short : c.if-kept-eq0.end + 1 ≤ 25 = elim c.if-kept-eq0.branch [
      | then-kept-eq0 w ↦ omega (arith, w.end-is)
      | else-kept-eq0 w ↦ omega (arith, w.end-is, c.kept_places-kept.ensures.within, size)
    ] in
    (short, (names (goal.at.invariant_of-result c).After-copy_from_slice-2).formed)

pub returns-clause-text : goal.returns-clause-text
returns-clause-text c = (names (goal.at.returns-clause-text c).After-copy_from_slice-2).formed

pub returns-clause-back : goal.returns-clause-back
returns-clause-back c = (names (goal.at.returns-clause-back c).After-copy_from_slice-2).moment_is
