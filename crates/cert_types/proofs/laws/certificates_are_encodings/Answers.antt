use Rattle.der_core.specs.Grammar.{file}
use Rattle.der_grammar.specs.Table.{certificate}
use Rattle.der_grammar.proofs.Clearness.{certificate_clear}
use Rattle.der_core.proofs.OpenlyRefuted.{openly_refuted}
use Rattle.cert_types.proofs.CertificateReaders.{certificate_encodes, certificate_unique}
use Rattle.cert_types.proofs.laws.certificates_are_encodings.Goals as goal

pub returns : goal.returns
returns c = record {
  encodings = certificate_encodes;
  no_faults =
      λ bytes v h f x. openly_refuted (file certificate) bytes f certificate_clear (certificate_encodes bytes v h) x;
  unique = certificate_unique;
}
