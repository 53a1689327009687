-- The lines that show a certificate, and what is shown for octets that should be one.
use Rattle.std.specs.Prelude.{◌≡◌, ◌↔◌, ℕ, Bool, true, false, List, [], ◌∷◌, ◌++◌, Option, Some, IfSome, IsTrue, codes}
use Rattle.der_time.specs.TimeValue.{moment_of}
use Rattle.cert_types.specs.CertificateValue.{CertificateValue, EncodesCertificate}
use Rattle.cert_types.specs.Purposes.{HasKeyId, IsStampingOnly}
use Rattle.lines_shown.specs.Lines.{line, octets_text, optional_line, IsTextOf}

-- whether the key is for time-stamping alone
abbrev pub answer_text : Bool → List ℕ
answer_text true = codes "yes"
answer_text false = codes "no"

abbrev pub certificate_lines : CertificateValue → (from until : List ℕ) → Option (List ℕ) → Bool → List ℕ
certificate_lines c from until key_id stamping = codes "cert" ++ (10 ∷ [])
    ++ line (codes "serial") (octets_text c.tbs.serial)
    ++ line (codes "issuer") (octets_text c.tbs.issuer)
    ++ line (codes "subject") (octets_text c.tbs.subject)
    ++ line (codes "from") from
    ++ line (codes "until") until
    ++ line (codes "key") (octets_text c.tbs.key)
    ++ optional_line (codes "keyid") key_id
    ++ line (codes "stamping") (answer_text stamping)

-- the key identifier of a certificate, if it has one
pub record IsKeyIdOf (c : CertificateValue) (key_id : Option (List ℕ)) : Type 0 where
  pub found : IfSome key_id (HasKeyId c)
  pub only : (k : List ℕ) → HasKeyId c k → key_id ≡ Some k

-- the octets encode a certificate, and these are its lines
pub record ShowsCertificate (octets text : List ℕ) : Type 0 where
  pub value : CertificateValue
  pub encoded : EncodesCertificate octets value
  pub from : List ℕ
  pub is_from : IsTextOf (moment_of value.tbs.validity.from) from
  pub until : List ℕ
  pub is_until : IsTextOf (moment_of value.tbs.validity.until) until
  pub key_id : Option (List ℕ)
  pub is_key_id : IsKeyIdOf value key_id
  pub stamping : Bool
  pub is_stamping : IsTrue stamping ↔ IsStampingOnly value
  pub lines : text ≡ certificate_lines value from until key_id stamping
