use Rattle.der_core.specs.Grammar.{file}
use Rattle.der_grammar.specs.Table.{tst_info}
use Rattle.der_grammar.proofs.Clearness.{tst_info_clear}
use Rattle.der_core.proofs.OpenlyRefuted.{openly_refuted}
use Rattle.tsp_types.proofs.TstReaders.{tst_encodes, tst_unique}
use Rattle.tsp_types.proofs.stamp_laws.tst_infos_are_encodings.Goals as goal

pub returns : goal.returns
returns c = record {
  encodings = tst_encodes;
  no_faults = λ bytes v h f x. openly_refuted (file tst_info) bytes f tst_info_clear (tst_encodes bytes v h) x;
  unique = tst_unique;
}
