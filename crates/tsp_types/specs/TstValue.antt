-- Time-stamps and their encoding (RFC 3161, 2.4.2): the value that the octets of a TSTInfo encode.
use Rattle.std.specs.Prelude.{◌≡◌, ℕ, true, List, [], ◌∷◌, ◌++◌, Option, Some, None, IfSome}
use Rattle.der_core.specs.declared.flag.Flag.{Flag}
use Rattle.der_core.specs.Element.{el}
use Rattle.der_core.specs.Times.{is_generalized}
use Rattle.der_core.specs.Values.{optional, flag, HasLength, IsOid, IsInteger, IsOpaque}
use Rattle.cert_types.specs.ExtensionValue.{ExtensionValue, extensions_parts, optional_extensions, GoodExtensions}
use Rattle.tsp_types.specs.ImprintValue.{ImprintValue, imprint_parts, GoodImprint}

-- the type of a content that is a TSTInfo: id-ct-TSTInfo, 1.2.840.113549.1.9.16.1.4
abbrev pub id_tst_info : List ℕ
id_tst_info = 0x2a ∷ 0x86 ∷ 0x48 ∷ 0x86 ∷ 0xf7 ∷ 0x0d ∷ 0x01 ∷ 0x09 ∷ 0x10 ∷ 0x01 ∷ 0x04 ∷ []

-- Accuracy ::= SEQUENCE { seconds INTEGER OPTIONAL, millis [0] INTEGER (1..999) OPTIONAL,
--   micros [1] INTEGER (1..999) OPTIONAL }
-- The numbers may have any value.
pub record AccuracyValue : Type 0 where
  pub seconds : Option (List ℕ)
  pub millis : Option (List ℕ)
  pub micros : Option (List ℕ)

abbrev pub accuracy_parts : AccuracyValue → List ℕ
accuracy_parts a = optional 0x02 a.seconds ++ (optional 0x80 a.millis ++ optional 0x81 a.micros)

abbrev pub optional_accuracy : Option AccuracyValue → List ℕ
optional_accuracy None = []
optional_accuracy (Some a) = el 0x30 (accuracy_parts a)

pub record GoodAccuracy (a : AccuracyValue) : Type 0 where
  pub seconds : IfSome a.seconds IsInteger
  pub millis : IfSome a.millis IsInteger
  pub micros : IfSome a.micros IsInteger
  pub size : HasLength (accuracy_parts a)

-- TSTInfo ::= SEQUENCE { version INTEGER { v1(1) }, policy TSAPolicyId, messageImprint MessageImprint,
--   serialNumber INTEGER,
--   genTime GeneralizedTime, accuracy Accuracy OPTIONAL, ordering BOOLEAN DEFAULT FALSE, nonce INTEGER OPTIONAL,
--   tsa [0] GeneralName OPTIONAL, extensions [1] IMPLICIT Extensions OPTIONAL }
-- The time is kept as its text, and the name of the authority as one whole element.
pub record TstValue : Type 0 where
  pub policy : List ℕ
  pub imprint : ImprintValue
  pub serial : List ℕ
  pub time : List ℕ
  pub accuracy : Option AccuracyValue
  pub ordering : Flag
  pub nonce : Option (List ℕ)
  pub tsa : Option (List ℕ)
  pub extensions : Option (List ExtensionValue)

abbrev pub tst_parts : TstValue → List ℕ
tst_parts v = el 0x02 (1 ∷ [])
    ++ (el 0x06 v.policy
    ++ (el 0x30 (imprint_parts v.imprint)
    ++ (el 0x02 v.serial
    ++ (el 0x18 v.time
    ++ (optional_accuracy v.accuracy
    ++ (flag v.ordering
    ++ (optional 0x02 v.nonce
    ++ (optional 0xa0 v.tsa
    ++ optional_extensions 0xa1 v.extensions))))))))

abbrev pub encoding : TstValue → List ℕ
encoding v = el 0x30 (tst_parts v)

pub record GoodTst (v : TstValue) : Type 0 where
  pub policy : IsOid v.policy
  pub imprint : GoodImprint v.imprint
  pub serial : IsInteger v.serial
  pub time : (is_generalized v.time ≡ true) × HasLength v.time
  pub accuracy : IfSome v.accuracy GoodAccuracy
  pub nonce : IfSome v.nonce IsInteger
  pub tsa : IfSome v.tsa (λ x. IsOpaque x × HasLength x)
  pub extensions : IfSome v.extensions (λ es. GoodExtensions es × HasLength (extensions_parts es))
  pub size : HasLength (tst_parts v)

-- all of the octets encode the good TSTInfo
abbrev pub EncodesTst : List ℕ → TstValue → Type 0
EncodesTst bytes v = (bytes ≡ encoding v) × GoodTst v
