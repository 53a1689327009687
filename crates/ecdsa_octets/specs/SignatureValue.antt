-- ECDSA-Sig-Value ::= SEQUENCE { r INTEGER, s INTEGER } (RFC 3279 2.2.3), as the contents of its INTEGERs.
use Rattle.std.specs.Prelude.{◌≡◌, ℕ, List, ◌++◌}
use Rattle.der_core.specs.Element.{el}
use Rattle.der_core.specs.Values.{HasLength, IsInteger}
use Rattle.der_core.specs.Form.{Form, full}
use Rattle.der_core.specs.Grammar.{one, integer, ◌▸◌}

pub record SignatureValue : Type 0 where
  pub r : List ℕ
  pub s : List ℕ

abbrev pub signature_parts : SignatureValue → List ℕ
signature_parts v = el 0x02 v.r ++ el 0x02 v.s

abbrev pub encoding : SignatureValue → List ℕ
encoding v = el 0x30 (signature_parts v)

pub record GoodSignature (v : SignatureValue) : Type 0 where
  pub r : IsInteger v.r
  pub s : IsInteger v.s
  pub size : HasLength (signature_parts v)

-- All of the octets encode the good value.
abbrev pub EncodesSignature : List ℕ → SignatureValue → Type 0
EncodesSignature bytes v = (bytes ≡ encoding v) × GoodSignature v

-- the form of the contents, as data
abbrev pub signature : Form
signature =
    one 0x02 integer ▸
    one 0x02 integer ▸
    full
