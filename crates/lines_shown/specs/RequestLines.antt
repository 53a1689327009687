-- The lines that show a request, and what is shown for octets that should be one.
use Rattle.std.specs.Prelude.{◌≡◌, ℕ, List, [], ◌∷◌, ◌++◌, Option, Some, None, codes}
use Rattle.der_oid_text.specs.OidText.{text_of}
use Rattle.tsp_types.specs.RequestValue.{RequestValue, EncodesRequest}
use Rattle.lines_shown.specs.Lines.{line, octets_text, state_text, optional_line, extensions_line}

abbrev pub policy_line : Option (List ℕ) → List ℕ
policy_line None = []
policy_line (Some policy) = line (codes "policy") (text_of policy)

abbrev pub request_lines : RequestValue → List ℕ
request_lines r = codes "request" ++ (10 ∷ [])
    ++ line (codes "algorithm") (text_of r.imprint.algorithm.oid)
    ++ line (codes "digest") (octets_text r.imprint.digest)
    ++ policy_line r.policy
    ++ optional_line (codes "nonce") r.nonce
    ++ line (codes "certreq") (state_text r.cert_req)
    ++ extensions_line r.extensions

-- the octets encode a request, and these are its lines
pub record ShowsRequest (octets text : List ℕ) : Type 0 where
  pub value : RequestValue
  pub encoded : EncodesRequest octets value
  pub lines : text ≡ request_lines value
