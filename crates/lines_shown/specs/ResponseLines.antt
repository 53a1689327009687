-- The lines that show a response, and what is shown for octets that should be one.
use Rattle.std.specs.Prelude.{◌≡◌, ℕ, ◌*◌, ◌==◌, ◌&&◌, not, nat_le, Bool, if◌then◌else◌, List, [], ◌∷◌, ◌++◌, length}
use Rattle.std.specs.Prelude.{Option, Some, None, unwrap_or, codes}
use Rattle.std.specs.Fmt.{decimal}
use Rattle.std.specs.List.{flat_map, range_with_len}
use Rattle.hex.specs.Hex.{encode_lower}
use Rattle.der_core.specs.BitsSet.{has_bit}
use Rattle.tsp_types.specs.ResponseValue.{ResponseValue, EncodesResponse}
use Rattle.lines_shown.specs.Lines.{line, octets_text}

-- PKIStatus (RFC 3161, 2.4.2): the names of the numbers that have one
abbrev pub number_name : ℕ → Option (List ℕ)
number_name n =
    if n == 0 then Some (codes "granted")
    else if n == 1 then Some (codes "grantedWithMods")
    else if n == 2 then Some (codes "rejection")
    else if n == 3 then Some (codes "waiting")
    else if n == 4 then Some (codes "revocationWarning")
    else if n == 5 then Some (codes "revocationNotification")
    else None

-- for the contents of an INTEGER, which are one octet if it has a name
abbrev pub status_name : List ℕ → Option (List ℕ)
status_name [] = None
status_name (n ∷ []) = number_name n
status_name (m ∷ n ∷ ns) = None

abbrev pub status_text : List ℕ → List ℕ
status_text number = unwrap_or (status_name number) (octets_text number)

-- the characters of ASCII from the space to the tilde, except the backslash
abbrev pub is_printable : ℕ → Bool
is_printable octet = nat_le 0x20 octet && nat_le octet 0x7e && not (octet == 0x5c)

-- an octet of a text, which need not be UTF-8: as it is, or a backslash, an x and two digits
abbrev pub shown_octet : ℕ → List ℕ
shown_octet octet = if is_printable octet then octet ∷ [] else codes "\\x" ++ encode_lower (octet ∷ [])

-- a dash if it has no octets
abbrev pub shown_text : List ℕ → List ℕ
shown_text [] = codes "-"
shown_text (octet ∷ octets) = flat_map shown_octet (octet ∷ octets)

abbrev pub text_lines : List (List ℕ) → List ℕ
text_lines texts = flat_map (λ t. line (codes "text") (shown_text t)) texts

abbrev pub optional_texts_lines : Option (List (List ℕ)) → List ℕ
optional_texts_lines None = []
optional_texts_lines (Some texts) = text_lines texts

-- PKIFailureInfo (RFC 3161, 2.4.2): the names of the bits that have one
abbrev pub fail_name : ℕ → Option (List ℕ)
fail_name n =
    if n == 0 then Some (codes "badAlg")
    else if n == 2 then Some (codes "badRequest")
    else if n == 5 then Some (codes "badDataFormat")
    else if n == 14 then Some (codes "timeNotAvailable")
    else if n == 15 then Some (codes "unacceptedPolicy")
    else if n == 16 then Some (codes "unacceptedExtension")
    else if n == 17 then Some (codes "addInfoNotAvailable")
    else if n == 25 then Some (codes "systemFailure")
    else None

abbrev pub fail_line : ℕ → List ℕ
fail_line n = line (codes "fail") (unwrap_or (fail_name n) (codes "bit " ++ decimal n))

-- the line of a bit, if it is set
abbrev pub set_line : (contents : List ℕ) → ℕ → List ℕ
set_line contents n = if has_bit n contents then fail_line n else []

-- those of this many bits from this one on, in ascending order
abbrev pub fail_lines : (contents : List ℕ) → (first count : ℕ) → List ℕ
fail_lines contents first count = flat_map (set_line contents) (range_with_len first count)

-- those of all bits: eight for each octet are enough, and no bit is set after the last octet
abbrev pub optional_fail_lines : Option (List ℕ) → List ℕ
optional_fail_lines None = []
optional_fail_lines (Some contents) = fail_lines contents 0 (8 * length contents)

abbrev pub token_text : Option (List ℕ) → List ℕ
token_text None = codes "absent"
token_text (Some token) = codes "present"

abbrev pub response_lines : ResponseValue → List ℕ
response_lines v = codes "response" ++ (10 ∷ [])
    ++ line (codes "status") (status_text v.status.number)
    ++ optional_texts_lines v.status.texts
    ++ optional_fail_lines v.status.fail
    ++ line (codes "token") (token_text v.token)

-- the octets encode a response, and these are its lines
pub record ShowsResponse (octets text : List ℕ) : Type 0 where
  pub value : ResponseValue
  pub encoded : EncodesResponse octets value
  pub lines : text ≡ response_lines value
