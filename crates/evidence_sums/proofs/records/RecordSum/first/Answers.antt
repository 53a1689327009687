use Rattle.std.proofs.Common.{ap, sym}
use Rattle.evidence_sums.specs.Lines.{lines_of}
use Rattle.evidence_sums.specs.Records.{RecordValue, continued}
use Rattle.evidence_sums.proofs.records.RecordSum.first.Goals as goal

pub returns-clause-digest : goal.returns-clause-digest
returns-clause-digest c = (
  continued c.self.inside.alg (lines_of c.self.inside.others.now),
  ap (λ (r : RecordValue). r.digests) (sym c.self.view_is),
)
