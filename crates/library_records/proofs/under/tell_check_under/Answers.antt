use Rattle.std.proofs.Common.{refl}
use Rattle.library_records.specs.Under.{RefusesStatedUnder}
use Rattle.library_records.proofs.UnderSaid.{stated_under_names}
use Rattle.library_records.proofs.Unstated.{unstated}
use Rattle.library_records.proofs.under.tell_check_under.Goals as goal

pub returns-in-Err : goal.returns-in-Err
returns-in-Err c = record {
  verdict = unstated (RefusesStatedUnder c.args.input.now) (stated_under_names c.args.input.now) _ _ _ _ _ c.in-Err.why
      c.in-Err.ensures.refused c.tell_unstated.ensures.memory c.tell_unstated.ensures.other;
  same = refl;
}
