-- The table is clear, by computation.
use Rattle.std.proofs.Common.{◌≡◌, true, refl}
use Rattle.der_core.specs.Clear.{clear}
use Rattle.der_core.specs.Grammar.{file}
use Rattle.evidence_types.specs.EvidenceTable.{evidence_record}

pub evidence_record_clear : clear (file evidence_record) ≡ true
evidence_record_clear = refl
