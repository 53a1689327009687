-- The worked rows, computed.
use Rattle.std.proofs.Common.{refl}
use Rattle.std.specs.Int.Count.{count_leading_zeros}
use Rattle.sha1.specs.Sha1 as sha1
use Rattle.sha2.specs.Sha256 as sha256
use Rattle.digests.specs.Messages.{digest_of}
use Rattle.rsa_signatures.specs.Pkcs1.{is_pkcs1}
use Rattle.rsa_signatures.specs.Pss.{is_consistent, is_pss}
use Rattle.rsa_signatures.specs.SignatureRows.{InfoRows, Pkcs1Rows, PssRows}

-- what the rows compute with
computing : Unit {0}
unfolding is_pkcs1 is_pss is_consistent count_leading_zeros digest_of sha1.sha1 sha1.digest_bytes sha1.hash_after
    sha1.compress sha1.rounds
    sha1.schedule sha1.first_words sha256.sha256 sha256.digest_bytes sha256.hash_after sha256.compress sha256.rounds
    sha256.schedule sha256.first_words
computing = tt

pub info_rows : InfoRows
info_rows = record { encoded = refl; longer = refl; sha1 = refl }

pub pkcs1_rows : Pkcs1Rows
unfolding computing
pkcs1_rows = record {
  good = refl;
  good_by_sha1 = refl;
  another_digest = refl;
  exponent_1 = refl;
  exponent_5 = refl;
  longer = refl;
  above = refl;
  no_null = refl;
  behind = refl;
}

pub pss_rows : PssRows
unfolding computing
pss_rows = record {
  good = refl;
  good_by_two = refl;
  good_513 = refl;
  good_unsalted = refl;
  another_mask = refl;
  another_salt = refl;
  shorter_salt = refl;
  no_one = refl;
  leftmost = refl;
  larger = refl;
}
