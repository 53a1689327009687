-- Responses of time-stamping authorities and their encoding (RFC 3161, 2.4.2): the value that the octets of a response
-- encode.
use Rattle.std.specs.Prelude.{◌≡◌, ℕ, true, List, [], ◌++◌, Option, Some, None, IfSome}
use Rattle.std.specs.List.{flat_map, AllByRecursion}
use Rattle.der_core.specs.Contents.{is_bits}
use Rattle.der_core.specs.Element.{el, IsElement}
use Rattle.der_core.specs.Values.{optional, optional_whole, HasLength, IsInteger}

-- PKIStatusInfo ::= SEQUENCE { status PKIStatus, statusString PKIFreeText OPTIONAL, failInfo PKIFailureInfo OPTIONAL }
-- PKIStatus ::= INTEGER
-- PKIFreeText ::= SEQUENCE SIZE (1..MAX) OF UTF8String
-- PKIFailureInfo ::= BIT STRING
-- The number and the octets of the texts may have any value; there may be no text.
pub record StatusValue : Type 0 where
  pub number : List ℕ
  pub texts : Option (List (List ℕ))
  pub fail : Option (List ℕ)

abbrev pub texts_parts : List (List ℕ) → List ℕ
texts_parts ts = flat_map (λ t. el 0x0c t) ts

abbrev pub optional_texts : Option (List (List ℕ)) → List ℕ
optional_texts None = []
optional_texts (Some ts) = el 0x30 (texts_parts ts)

abbrev pub GoodTexts : List (List ℕ) → Type 0
GoodTexts ts = AllByRecursion HasLength ts × HasLength (texts_parts ts)

abbrev pub status_parts : StatusValue → List ℕ
status_parts s = el 0x02 s.number ++ (optional_texts s.texts ++ optional 0x03 s.fail)

pub record GoodStatus (s : StatusValue) : Type 0 where
  pub number : IsInteger s.number
  pub texts : IfSome s.texts GoodTexts
  pub fail : IfSome s.fail (λ b. (is_bits b ≡ true) × HasLength b)
  pub size : HasLength (status_parts s)

-- TimeStampResp ::= SEQUENCE { status PKIStatusInfo, timeStampToken TimeStampToken OPTIONAL }
-- TimeStampToken ::= ContentInfo
-- The token is a SEQUENCE, kept as one whole element.
pub record ResponseValue : Type 0 where
  pub status : StatusValue
  pub token : Option (List ℕ)

-- a whole SEQUENCE
abbrev pub IsToken : List ℕ → Type 0
IsToken x = (b : List ℕ) × IsElement 0x30 b × (x ≡ el 0x30 b)

abbrev pub response_parts : ResponseValue → List ℕ
response_parts v = el 0x30 (status_parts v.status) ++ optional_whole v.token

abbrev pub encoding : ResponseValue → List ℕ
encoding v = el 0x30 (response_parts v)

pub record GoodResponse (v : ResponseValue) : Type 0 where
  pub status : GoodStatus v.status
  pub token : IfSome v.token IsToken
  pub size : HasLength (response_parts v)

-- all of the octets encode the good response
abbrev pub EncodesResponse : List ℕ → ResponseValue → Type 0
EncodesResponse bytes v = (bytes ≡ encoding v) × GoodResponse v
