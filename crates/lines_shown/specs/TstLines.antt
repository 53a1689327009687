-- The lines that show a TSTInfo, and what is shown for octets that should be one.
use Rattle.std.specs.Prelude.{◌≡◌, ℕ, List, [], ◌∷◌, ◌++◌, Option, Some, None, codes}
use Rattle.der_oid_text.specs.OidText.{text_of}
use Rattle.tsp_types.specs.TstValue.{AccuracyValue, TstValue, EncodesTst}
use Rattle.lines_shown.specs.Lines.{line, octets_text, state_text, optional_line, extensions_line}

-- a number of an accuracy; a dash if it is absent
abbrev pub number_text : Option (List ℕ) → List ℕ
number_text None = codes "-"
number_text (Some number) = octets_text number

-- seconds, millis and micros of an accuracy, if there is one
abbrev pub accuracy_line : Option AccuracyValue → List ℕ
accuracy_line None = []
accuracy_line (Some a) = line (codes "accuracy") (number_text a.seconds ++ codes " " ++ number_text a.millis
    ++ codes " " ++ number_text a.micros)

-- the time is shown by its text
abbrev pub tst_lines : TstValue → List ℕ
tst_lines v = codes "tst" ++ (10 ∷ [])
    ++ line (codes "policy") (text_of v.policy)
    ++ line (codes "algorithm") (text_of v.imprint.algorithm.oid)
    ++ line (codes "digest") (octets_text v.imprint.digest)
    ++ line (codes "serial") (octets_text v.serial)
    ++ line (codes "time") v.time
    ++ accuracy_line v.accuracy
    ++ line (codes "ordering") (state_text v.ordering)
    ++ optional_line (codes "nonce") v.nonce
    ++ optional_line (codes "tsa") v.tsa
    ++ extensions_line v.extensions

-- the octets encode a TSTInfo, and these are its lines
pub record ShowsTst (octets text : List ℕ) : Type 0 where
  pub value : TstValue
  pub encoded : EncodesTst octets value
  pub lines : text ≡ tst_lines value
