-- The worked rows of signing certificates, by computing.
use Rattle.std.proofs.Common.{[], ◌∷◌, drop, refl, lit<}
use Rattle.std.specs.List.{AllByRecursion}
use Rattle.std.specs.Prelude.{IfSome}
use Rattle.der_core.specs.declared.fault.Kind.TheVariants as kind
use Rattle.der_core.specs.Element.{len}
use Rattle.der_core.specs.Reading.{fault}
use Rattle.der_core.specs.Grammar.{file}
use Rattle.der_grammar.specs.Table.{signing_certificate, signing_certificate_v2}
use Rattle.der_core.specs.Values.{GoodAlgorithm, HasLength, IsInteger, IsOpaque}
use Rattle.der_core.proofs.Found.{not_encoded}
use Rattle.digests.specs.Spelled.{with_null, alone, sha1, sha256, sha384, sha512_256}
use Rattle.ess_types.specs.SigningRows.{root, anchor, under_root, SigningRows}
use Rattle.ess_types.specs.SigningCertificateValue.{IssuerSerialValue, GoodIssuerSerial, CertIdValue, GoodCertId}
use Rattle.ess_types.specs.SigningCertificateValue.{names_parts, issuer_serial_parts, cert_id_parts}
use Rattle.ess_types.proofs.SigningCertificateReaders.{signing_encodes, plain_encodes}
use Rattle.ess_types.proofs.Spelled.{spelled}

good_sha256 : GoodAlgorithm (with_null sha256)
unfolding len
good_sha256 = record {
  oid = (refl, lit< tt);
  parameters = (5, [], record { identifier = refl; size = lit< tt }, refl);
  size = lit< tt;
}

good_sha1 : GoodAlgorithm (alone sha1)
unfolding len
good_sha1 = record { oid = (refl, lit< tt); parameters = tt; size = lit< tt }

good_sha256_alone : GoodAlgorithm (alone sha256)
unfolding len
good_sha256_alone = record { oid = (refl, lit< tt); parameters = tt; size = lit< tt }

good_sha384 : GoodAlgorithm (alone sha384)
unfolding len
good_sha384 = record { oid = (refl, lit< tt); parameters = tt; size = lit< tt }

good_sha512_256 : GoodAlgorithm (alone sha512_256)
unfolding len
good_sha512_256 = record { oid = (refl, lit< tt); parameters = tt; size = lit< tt }

serial : (i : IssuerSerialValue) → AllByRecursion IsOpaque i.names → HasLength (names_parts i.names)
    → IsInteger i.serial → HasLength (issuer_serial_parts i) → GoodIssuerSerial i
serial i names list number size = record { names = names; list = list; serial = number; size = size }

named : (i : CertIdValue) → IfSome i.algorithm GoodAlgorithm → HasLength i.hash
    → IfSome i.issuer_serial GoodIssuerSerial → HasLength (cert_id_parts i) → GoodCertId i
named i algorithm hash issuer size =
    record { algorithm = algorithm; hash = hash; issuer_serial = issuer; size = size }

good_root : GoodIssuerSerial under_root
unfolding len
good_root = serial _ ((164, drop 2 root, record { identifier = refl; size = lit< tt }, refl), tt)
    (lit< tt) (refl, lit< tt) (lit< tt)

pub signing_rows : SigningRows
unfolding len
signing_rows = record {
  chain = (
    spelled _ _ refl (
      record { algorithm = tt; hash = lit< tt; issuer_serial = tt; size = lit< tt },
      (record { algorithm = tt; hash = lit< tt; issuer_serial = good_root; size = lit< tt }, tt),
    )
        (lit< tt) tt (lit< tt),
    (refl, (refl, tt)),
  );
  chain_as_v2 = spelled _ _ refl (
    record { algorithm = tt; hash = lit< tt; issuer_serial = tt; size = lit< tt },
    (record { algorithm = tt; hash = lit< tt; issuer_serial = good_root; size = lit< tt }, tt),
  )
      (lit< tt) tt (lit< tt);
  first_of_chain = refl;
  by_sha384 = spelled _ _ refl
      (record { algorithm = good_sha384; hash = lit< tt; issuer_serial = tt; size = lit< tt }, tt)
      (lit< tt) tt (lit< tt);
  by_sha512_256 = spelled _ _ refl (
    record { algorithm = good_sha512_256; hash = lit< tt; issuer_serial = tt; size = lit< tt },
    (record { algorithm = good_sha512_256; hash = lit< tt; issuer_serial = good_root; size = lit< tt }, tt),
  )
      (lit< tt) tt (lit< tt);
  by_default = spelled _ _ refl (record { algorithm = tt; hash = lit< tt; issuer_serial = tt; size = lit< tt }, tt)
      (lit< tt) tt (lit< tt);
  of_signer = spelled _ _ refl (
    named _ tt (lit< tt)
        (serial _ ((164, drop 2 anchor, record { identifier = refl; size = lit< tt }, refl), tt)
        (lit< tt) (refl, lit< tt) (lit< tt))
        (lit< tt),
    tt,
  )
      (lit< tt) tt (lit< tt);
  by_sha1 = spelled _ _ refl (record { algorithm = good_sha1; hash = lit< tt; issuer_serial = tt; size = lit< tt }, tt)
      (lit< tt) tt (lit< tt);
  by_spelled_default = spelled _ _ refl
      (record { algorithm = good_sha256_alone; hash = lit< tt; issuer_serial = tt; size = lit< tt }, tt)
      (lit< tt) tt (lit< tt);
  by_null = spelled _ _ refl
      (record { algorithm = good_sha256; hash = lit< tt; issuer_serial = tt; size = lit< tt }, tt)
      (lit< tt) tt (lit< tt);
  default_alone = refl;
  null_is_another = refl;
  sha384_is_another = refl;
  empty = (spelled _ _ refl tt (lit< tt) tt (lit< tt), tt);
  none_first = refl;
  with_policies = (
    spelled _ _ refl (record { algorithm = tt; hash = lit< tt; issuer_serial = tt; size = lit< tt }, tt)
        (lit< tt) (lit< tt) (lit< tt),
    (refl, tt),
  );
  two_names = (
    spelled _ _ refl (
      named _ tt (lit< tt) (serial _ (
        (130, 97 ∷ [], record { identifier = refl; size = lit< tt }, refl),
        ((130, 98 ∷ [], record { identifier = refl; size = lit< tt }, refl), tt),
      )
          (lit< tt) (refl, lit< tt) (lit< tt))
          (lit< tt),
      tt,
    )
        (lit< tt) tt (lit< tt),
    (refl, tt),
  );
  no_name = (
    spelled _ _ refl (
      record {
        algorithm = tt;
        hash = lit< tt;
        issuer_serial = record { names = tt; list = lit< tt; serial = (refl, lit< tt); size = lit< tt };
        size = lit< tt;
      },
      tt,
    )
        (lit< tt) tt (lit< tt),
    (refl, tt),
  );
  algorithm_in_v1 = λ v h. not_encoded (file signing_certificate) _ (fault kind.Tag 6) refl refl (plain_encodes _ v h);
  late_algorithm =
      λ v h. not_encoded (file signing_certificate_v2) _ (fault kind.Tag 11) refl refl (signing_encodes _ v h);
  no_hash = λ v h. not_encoded (file signing_certificate_v2) _ (fault kind.End 15) refl refl (signing_encodes _ v h);
  no_serial = λ v h. not_encoded (file signing_certificate) _ (fault kind.End 13) refl refl (plain_encodes _ v h);
  other_policies = λ v h. not_encoded (file signing_certificate) _ (fault kind.Tag 4) refl refl (plain_encodes _ v h);
  third_part =
      λ v h. not_encoded (file signing_certificate_v2) _ (fault kind.Trailing 6) refl refl (signing_encodes _ v h);
}
