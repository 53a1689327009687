use Rattle.der_core.specs.Grammar.{file}
use Rattle.der_core.proofs.OpenlyRefuted.{openly_refuted}
use Rattle.evidence_types.specs.EvidenceTable.{evidence_record}
use Rattle.evidence_types.proofs.EvidenceReaders.{evidence_encodes, evidence_unique}
use Rattle.evidence_types.proofs.Clearness.{evidence_record_clear}
use Rattle.evidence_types.proofs.laws.evidence_records_are_encodings.Goals as goal

pub returns : goal.returns
returns c = record {
  encodings = evidence_encodes;
  no_faults = λ bytes v h f x.
      openly_refuted (file evidence_record) bytes f evidence_record_clear (evidence_encodes bytes v h) x;
  unique = evidence_unique;
}
