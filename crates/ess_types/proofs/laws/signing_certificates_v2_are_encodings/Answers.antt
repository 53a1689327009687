use Rattle.der_core.specs.Grammar.{file}
use Rattle.der_grammar.specs.Table.{signing_certificate_v2}
use Rattle.der_grammar.proofs.Clearness.{signing_certificate_v2_clear}
use Rattle.der_core.proofs.OpenlyRefuted.{openly_refuted}
use Rattle.ess_types.proofs.SigningCertificateReaders.{signing_encodes, signing_unique}
use Rattle.ess_types.proofs.laws.signing_certificates_v2_are_encodings.Goals as goal

pub returns : goal.returns
returns c = record {
  encodings = signing_encodes;
  no_faults = λ bytes v h f x.
      openly_refuted (file signing_certificate_v2) bytes f signing_certificate_v2_clear (signing_encodes bytes v h) x;
  unique = signing_unique;
}
