use Rattle.der_core.specs.Grammar.{file}
use Rattle.der_grammar.specs.Table.{request}
use Rattle.der_grammar.proofs.Clearness.{request_clear}
use Rattle.der_core.proofs.OpenlyRefuted.{openly_refuted}
use Rattle.tsp_types.proofs.RequestReaders.{request_encodes, request_unique}
use Rattle.tsp_types.proofs.laws.requests_are_encodings.Goals as goal

pub returns : goal.returns
returns c = record {
  encodings = request_encodes;
  no_faults = λ bytes v h f x. openly_refuted (file request) bytes f request_clear (request_encodes bytes v h) x;
  unique = request_unique;
}
