use Rattle.std.proofs.Common.{refl}
use Rattle.library_records.specs.Stated.{RefusesStated}
use Rattle.library_records.proofs.EvidenceSaid.{stated_names}
use Rattle.library_records.proofs.Unstated.{unstated}
use Rattle.library_records.proofs.evidence.tell_evidence_check.Goals as goal

pub returns-in-Err : goal.returns-in-Err
returns-in-Err c = record {
  verdict = unstated (RefusesStated c.args.input.now) (stated_names c.args.input.now) _ _ _ _ _ c.in-Err.why
      c.in-Err.ensures.refused c.tell_unstated.ensures.memory c.tell_unstated.ensures.other;
  same = refl;
}
