-- The worked rows of time-stamps and responses, by computing.
use Rattle.std.proofs.Common.{◌≡◌, true, List, ℕ, [], ◌∷◌, drop, refl, lit<}
use Rattle.std.specs.Prelude.{IfSome}
use Rattle.der_core.specs.declared.fault.Kind.TheVariants as kind
use Rattle.der_core.specs.Element.{len}
use Rattle.der_core.specs.Reading.{fault}
use Rattle.der_core.specs.Grammar.{file}
use Rattle.der_grammar.specs.Table.{tst_info, response}
use Rattle.der_core.specs.Contents.{is_bits}
use Rattle.der_core.specs.Times.{is_generalized}
use Rattle.der_core.specs.Values.{GoodAlgorithm, algorithm_parts, HasLength, IsOid, IsInteger, IsOpaque}
use Rattle.der_core.proofs.Found.{not_encoded}
use Rattle.digests.specs.Spelled.{with_null, sha256}
use Rattle.cert_types.specs.ExtensionValue.{GoodExtensions, extensions_parts}
use Rattle.tsp_types.specs.ImprintValue.{GoodImprint}
use Rattle.tsp_types.specs.TstValue.{TstValue, GoodAccuracy, tst_parts, encoding, EncodesTst}
use Rattle.tsp_types.specs.TstRows.{abc_by_sha256, name_of_authority, TstRows}
use Rattle.tsp_types.specs.ResponseValue.{ResponseValue, GoodTexts, IsToken, status_parts, response_parts}
use Rattle.tsp_types.specs.ResponseValue.{EncodesResponse}
use Rattle.tsp_types.specs.ResponseValue.{encoding as response_encoding}
use Rattle.tsp_types.specs.ResponseRows.{ResponseRows, FailRows}
use Rattle.tsp_types.proofs.TstReaders.{tst_encodes}
use Rattle.tsp_types.proofs.ResponseReaders.{response_encodes}

good_null : (oid : List ℕ) → IsOid oid → HasLength (algorithm_parts (with_null oid)) → GoodAlgorithm (with_null oid)
unfolding len
good_null oid is size =
    record { oid = is; parameters = (5, [], record { identifier = refl; size = lit< tt }, refl); size = size }

good_sha256 : GoodAlgorithm (with_null sha256)
unfolding len
good_sha256 = good_null sha256 (refl, lit< tt) (lit< tt)

good_abc : GoodImprint abc_by_sha256
unfolding len
good_abc = record { algorithm = good_sha256; digest = lit< tt; size = lit< tt }

good_tst : (bytes : List ℕ) (v : TstValue) → bytes ≡ encoding v → IsOid v.policy → GoodImprint v.imprint
    → IsInteger v.serial → (is_generalized v.time ≡ true) × HasLength v.time → IfSome v.accuracy GoodAccuracy
    → IfSome v.nonce IsInteger → IfSome v.tsa (λ x. IsOpaque x × HasLength x)
    → IfSome v.extensions (λ es. GoodExtensions es × HasLength (extensions_parts es)) → HasLength (tst_parts v)
    → EncodesTst bytes v
good_tst bytes v is policy imprint serial time accuracy nonce tsa extensions size = (
  is,
  record {
    policy = policy;
    imprint = imprint;
    serial = serial;
    time = time;
    accuracy = accuracy;
    nonce = nonce;
    tsa = tsa;
    extensions = extensions;
    size = size;
  },
)

pub tst_rows : TstRows
unfolding len
tst_rows = record {
  accurate = good_tst _ _ refl (refl, lit< tt) good_abc (refl, lit< tt) (refl, lit< tt)
      (record { seconds = (refl, lit< tt); millis = (refl, lit< tt); micros = (refl, lit< tt); size = lit< tt })
      tt ((164, drop 2 name_of_authority, record { identifier = refl; size = lit< tt }, refl), lit< tt) tt (lit< tt);
  thousandths = good_tst _ _ refl (refl, lit< tt)
      (record { algorithm = good_null _ (refl, lit< tt) (lit< tt); digest = lit< tt; size = lit< tt })
      (refl, lit< tt) (refl, lit< tt)
      (record { seconds = tt; millis = (refl, lit< tt); micros = tt; size = lit< tt })
      (refl, lit< tt) tt tt (lit< tt);
  fraction = good_tst _ _ refl (refl, lit< tt)
      (record { algorithm = good_null _ (refl, lit< tt) (lit< tt); digest = lit< tt; size = lit< tt })
      (refl, lit< tt) (refl, lit< tt)
      (record { seconds = (refl, lit< tt); millis = tt; micros = tt; size = lit< tt })
      tt tt tt (lit< tt);
  least = good_tst _ _ refl (refl, lit< tt) good_abc (refl, lit< tt) (refl, lit< tt)
      tt tt tt tt (lit< tt);
  whole = good_tst _ _ refl (refl, lit< tt) good_abc (refl, lit< tt) (refl, lit< tt)
      (record { seconds = tt; millis = tt; micros = tt; size = lit< tt })
      (refl, lit< tt) ((130, 97 ∷ [], record { identifier = refl; size = lit< tt }, refl), lit< tt)
      ((record { id = (refl, lit< tt); value = lit< tt; size = lit< tt }, tt), lit< tt) (lit< tt);
  no_extension = good_tst _ _ refl (refl, lit< tt) good_abc (refl, lit< tt) (refl, lit< tt)
      tt tt tt (tt, lit< tt) (lit< tt);
  another_version = λ v h. not_encoded (file tst_info) _ (fault kind.Value 4) refl refl (tst_encodes _ v h);
  no_serial = λ v h. not_encoded (file tst_info) _ (fault kind.Tag 61) refl refl (tst_encodes _ v h);
  no_time = λ v h. not_encoded (file tst_info) _ (fault kind.Time 66) refl refl (tst_encodes _ v h);
  utc_time = λ v h. not_encoded (file tst_info) _ (fault kind.Tag 64) refl refl (tst_encodes _ v h);
  early_micros = λ v h. not_encoded (file tst_info) _ (fault kind.Trailing 86) refl refl (tst_encodes _ v h);
  early_nonce = λ v h. not_encoded (file tst_info) _ (fault kind.Tag 84) refl refl (tst_encodes _ v h);
  true_by_01 = λ v h. not_encoded (file tst_info) _ (fault kind.Boolean 83) refl refl (tst_encodes _ v h);
  two_names = λ v h. not_encoded (file tst_info) _ (fault kind.Trailing 86) refl refl (tst_encodes _ v h);
  no_name = λ v h. not_encoded (file tst_info) _ (fault kind.End 83) refl refl (tst_encodes _ v h);
  bare_name = λ v h. not_encoded (file tst_info) _ (fault kind.Tag 81) refl refl (tst_encodes _ v h);
  longer = λ v h. not_encoded (file tst_info) _ (fault kind.Trailing 81) refl refl (tst_encodes _ v h);
}

good_response : (bytes : List ℕ) (v : ResponseValue) → bytes ≡ response_encoding v → IsInteger v.status.number
    → IfSome v.status.texts GoodTexts → IfSome v.status.fail (λ b. (is_bits b ≡ true) × HasLength b)
    → HasLength (status_parts v.status) → IfSome v.token IsToken → HasLength (response_parts v)
    → EncodesResponse bytes v
good_response bytes v is number texts fail length token size = (
  is,
  record {
    status = record { number = number; texts = texts; fail = fail; size = length };
    token = token;
    size = size;
  },
)

pub response_rows : ResponseRows
unfolding len
response_rows = record {
  least = good_response _ _ refl (refl, lit< tt) tt tt (lit< tt) tt (lit< tt);
  rejected = good_response _ _ refl (refl, lit< tt) tt (refl, lit< tt) (lit< tt) tt (lit< tt);
  bad_algorithm = good_response _ _ refl (refl, lit< tt) ((lit< tt, tt), lit< tt) (refl, lit< tt) (lit< tt)
      tt (lit< tt);
  unaccepted_policy = good_response _ _ refl (refl, lit< tt) ((lit< tt, tt), lit< tt) (refl, lit< tt) (lit< tt)
      tt (lit< tt);
  granted = good_response _ _ refl (refl, lit< tt) tt tt (lit< tt)
      (5 ∷ 0 ∷ [], record { identifier = refl; size = lit< tt }, refl) (lit< tt);
  every_part = good_response _ _ refl (refl, lit< tt) ((lit< tt, (lit< tt, tt)), lit< tt) (refl, lit< tt) (lit< tt)
      ([], record { identifier = refl; size = lit< tt }, refl) (lit< tt);
  no_text = good_response _ _ refl (refl, lit< tt) (tt, lit< tt) tt (lit< tt) tt (lit< tt);
  no_status = λ v h. not_encoded (file response) _ (fault kind.Integer 6) refl refl (response_encodes _ v h);
  other_text = λ v h. not_encoded (file response) _ (fault kind.Tag 9) refl refl (response_encodes _ v h);
  early_bits = λ v h. not_encoded (file response) _ (fault kind.Trailing 11) refl refl (response_encodes _ v h);
  bits_used = λ v h. not_encoded (file response) _ (fault kind.Bits 9) refl refl (response_encodes _ v h);
  no_bits = λ v h. not_encoded (file response) _ (fault kind.Bits 9) refl refl (response_encodes _ v h);
  set_for_token = λ v h. not_encoded (file response) _ (fault kind.Tag 7) refl refl (response_encodes _ v h);
  two_tokens = λ v h. not_encoded (file response) _ (fault kind.Trailing 9) refl refl (response_encodes _ v h);
  token_alone = λ v h. not_encoded (file response) _ (fault kind.End 4) refl refl (response_encodes _ v h);
}

pub fail_rows : FailRows
fail_rows = record {
  first = refl;
  seventh = refl;
  low = refl;
  not_low = refl;
  fifteenth = refl;
  eighth = refl;
  eighth_set = refl;
  twenty_fifth = refl;
  behind = refl;
  far = refl;
  none = refl;
  policy = refl;
  absent = refl;
}
