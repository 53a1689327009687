use Rattle.der_core.specs.Grammar.{file}
use Rattle.der_grammar.specs.Table.{signing_certificate}
use Rattle.der_grammar.proofs.Clearness.{signing_certificate_clear}
use Rattle.der_core.proofs.OpenlyRefuted.{openly_refuted}
use Rattle.ess_types.proofs.SigningCertificateReaders.{plain_encodes, plain_unique}
use Rattle.ess_types.proofs.laws.signing_certificates_are_encodings.Goals as goal

pub returns : goal.returns
returns c = record {
  encodings = plain_encodes;
  no_faults = λ bytes v h f x.
      openly_refuted (file signing_certificate) bytes f signing_certificate_clear (plain_encodes bytes v h) x;
  unique = plain_unique;
}
