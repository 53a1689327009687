-- The token of a stamp that stands beside a file: a response, or a token (RFC 3161, 2.4.2).
use Rattle.std.specs.Prelude.{◌≡◌, ◌⊎◌, true, ℕ, List, ◌++◌}
use Rattle.der_core.specs.Element.{el, has_tag, IsElement}
use Rattle.der_core.specs.Form.{Form, One, full, opaques}
use Rattle.der_core.specs.Grammar as grammar
use Rattle.der_core.specs.Values.{IsOpaque}
use Rattle.der_grammar.specs.Table as table
use Rattle.tsp_types.specs.ResponseValue.{ResponseValue, EncodesResponse}
use Rattle.tsp_requester.specs.Answering.{IsGrantedToken, LacksToken}
use Rattle.tsp_requester.specs.declared.rules.MatchFault.{MatchFault}
use Rattle.cli_failures.specs.Causes.{IsMalformed}
use Rattle.cli_failures.specs.declared.failure.Failure.{Failure}
use Rattle.cli_failures.specs.declared.failure.Failure.TheVariants as failure

-- The octets begin as a response does, with a SEQUENCE whose first part is one, the PKIStatusInfo. A token begins with
-- a SEQUENCE too, the ContentInfo, whose first part is an OBJECT IDENTIFIER (RFC 5652, 3).
abbrev pub IsResponseByForm : (octets : List ℕ) → Type 0
IsResponseByForm octets = (parts others : List ℕ) × IsElement 0x30 parts × (octets ≡ el 0x30 parts ++ others)
    × (has_tag 0x30 parts ≡ true)

-- the octets encode a response that was granted, with this token
abbrev pub IsOfResponse : (octets token : List ℕ) → Type 0
IsOfResponse octets token = (given : ResponseValue) × EncodesResponse octets given × IsGrantedToken given token

-- they don't encode a response, or one that has no token by P1 or P2
abbrev pub IsOfNoResponse : (octets : List ℕ) → Failure → Type 0
IsOfNoResponse octets f = IsMalformed (grammar.file table.response) octets f
    ⊎ ((given : ResponseValue) × (rule : MatchFault) × EncodesResponse octets given × LacksToken given rule
    × (f ≡ failure.Unmatched rule))

-- a whole element of any kind, and nothing behind it (X.690, 8.1)
abbrev pub element : Form
element = opaques One full

-- this is the token: that of a response, if the octets begin as one; and otherwise the octets, one whole element
abbrev pub IsStampIn : (octets token : List ℕ) → Type 0
IsStampIn octets token = (IsResponseByForm octets × IsOfResponse octets token)
    ⊎ (¬ (IsResponseByForm octets) × IsOpaque octets × (token ≡ octets))

-- the failure says why there is none
abbrev pub HoldsNoStamp : (octets : List ℕ) → Failure → Type 0
HoldsNoStamp octets f = (IsResponseByForm octets × IsOfNoResponse octets f)
    ⊎ (¬ (IsResponseByForm octets) × IsMalformed element octets f)
