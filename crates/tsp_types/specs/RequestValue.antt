-- Time-stamp requests and their encoding (RFC 3161, 2.4.1): the value that the octets of a request encode.
use Rattle.std.specs.Prelude.{◌≡◌, ℕ, List, [], ◌∷◌, ◌++◌, Option, IfSome}
use Rattle.der_core.specs.Element.{el}
use Rattle.der_core.specs.declared.flag.Flag.{Flag}
use Rattle.der_core.specs.Values.{optional, flag, HasLength, IsOid, IsInteger}
use Rattle.cert_types.specs.ExtensionValue.{ExtensionValue, extensions_parts, optional_extensions, GoodExtensions}
use Rattle.tsp_types.specs.ImprintValue.{ImprintValue, imprint_parts, GoodImprint}

-- TimeStampReq ::= SEQUENCE { version INTEGER { v1(1) }, messageImprint MessageImprint, reqPolicy TSAPolicyId OPTIONAL,
--   nonce INTEGER OPTIONAL, certReq BOOLEAN DEFAULT FALSE, extensions [0] IMPLICIT Extensions OPTIONAL }
pub record RequestValue : Type 0 where
  pub imprint : ImprintValue
  pub policy : Option (List ℕ)
  pub nonce : Option (List ℕ)
  pub cert_req : Flag
  pub extensions : Option (List ExtensionValue)

abbrev pub request_parts : RequestValue → List ℕ
request_parts v = el 0x02 (1 ∷ [])
    ++ (el 0x30 (imprint_parts v.imprint)
    ++ (optional 0x06 v.policy
    ++ (optional 0x02 v.nonce
    ++ (flag v.cert_req
    ++ optional_extensions 0xa0 v.extensions))))

abbrev pub encoding : RequestValue → List ℕ
encoding v = el 0x30 (request_parts v)

pub record GoodRequest (v : RequestValue) : Type 0 where
  pub imprint : GoodImprint v.imprint
  pub policy : IfSome v.policy IsOid
  pub nonce : IfSome v.nonce IsInteger
  pub extensions : IfSome v.extensions (λ es. GoodExtensions es × HasLength (extensions_parts es))
  pub size : HasLength (request_parts v)

-- all of the octets encode the good request
abbrev pub EncodesRequest : List ℕ → RequestValue → Type 0
EncodesRequest bytes v = (bytes ≡ encoding v) × GoodRequest v
