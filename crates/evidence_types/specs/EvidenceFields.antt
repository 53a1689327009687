-- The parts of an evidence record as values, independent of their place in memory.
use Rattle.evidence_types.specs.declared.evidence_record.RecordFields.{RecordFields}
use Rattle.evidence_types.specs.EvidenceValue.{EvidenceValue}

abbrev pub evidence_value : RecordFields → EvidenceValue
evidence_value r = record {
  algorithms = r.algorithms;
  crypto_infos = r.crypto_infos;
  encryption = r.encryption;
  chains = r.chains;
}
