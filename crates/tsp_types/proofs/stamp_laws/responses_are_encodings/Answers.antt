use Rattle.der_core.specs.Grammar.{file}
use Rattle.der_grammar.specs.Table.{response}
use Rattle.der_grammar.proofs.Clearness.{response_clear}
use Rattle.der_core.proofs.OpenlyRefuted.{openly_refuted}
use Rattle.tsp_types.proofs.ResponseReaders.{response_encodes, response_unique}
use Rattle.tsp_types.proofs.stamp_laws.responses_are_encodings.Goals as goal

pub returns : goal.returns
returns c = record {
  encodings = response_encodes;
  no_faults = λ bytes v h f x. openly_refuted (file response) bytes f response_clear (response_encodes bytes v h) x;
  unique = response_unique;
}
