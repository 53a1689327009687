-- The words of a grammar as data, for a table of forms with one row for each part, and two forms that DER's own types
-- have. In the row above a form SEQ is the identifier 30, SET 31; [n] is an identifier of its own, EXPL if it encloses
-- the element; opt: may be absent; three: a DEFAULT that is absent, spelled out or another value; list keeps its order,
-- ordered must be in byte order; opaque is any element.
use Rattle.std.specs.Prelude.{ℕ, Bool, true, false, ◌==◌, List, [], ◌∷◌, if◌then◌else◌}
use Rattle.der_core.specs.declared.fault.Kind.TheVariants as kind
use Rattle.der_core.specs.Lists.{some}
use Rattle.der_core.specs.Contents.{is_boolean, is_integer, is_bits, is_oid}
use Rattle.der_core.specs.Times.{is_utc, is_generalized}
use Rattle.der_core.specs.Form.{One, Optional, Many, Ordered, Form, contents, full, part, opaques}

-- how a body goes on: this part and then the rest
infixr 3 ◌▸◌
abbrev pub ◌▸◌ : (Form → Form) → Form → Form
p ▸ after = p after

-- one element with this identifier, or none, and the form of its contents
abbrev pub one : ℕ → Form → Form → Form
one t f after = part One (t ∷ []) (λ _. f) after

abbrev pub opt : ℕ → Form → Form → Form
opt t f after = part Optional (t ∷ []) (λ _. f) after

-- a body of elements with this identifier
abbrev pub list : ℕ → Form → Form
list t f = part Many (t ∷ []) (λ _. f) full

abbrev pub ordered : ℕ → Form → Form
ordered t f = part Ordered (t ∷ []) (λ _. f) full

abbrev pub any : List ℕ → Bool
any _ = true

-- contents
abbrev pub boolean : Form
boolean = contents kind.Boolean is_boolean any

abbrev pub integer : Form
integer = contents kind.Integer is_integer any

abbrev pub bits : Form
bits = contents kind.Bits is_bits any

abbrev pub oid : Form
oid = contents kind.Oid is_oid any

abbrev pub utc : Form
utc = contents kind.Time is_utc any

abbrev pub generalized : Form
generalized = contents kind.Time is_generalized any

-- a version: one octet of these
abbrev pub is_of : List ℕ → List ℕ → Bool
is_of vs [] = false
is_of vs (v ∷ []) = some (λ u. u == v) vs
is_of vs (v ∷ w ∷ ws) = false

abbrev pub version : List ℕ → Form
version vs = contents kind.Integer is_integer (is_of vs)

-- ---- forms of several grammars (RFC 5280, 4.1.1.2 and 4.1.2.5)

-- AlgId: SEQ { OID, opaque opt }
abbrev pub algorithm : Form
algorithm =
    one 0x06 oid ▸
    opaques Optional ▸
    full

-- time: UTCTime or GeneralizedTime
abbrev pub time : ℕ → Form
time t = if t == 0x17 then utc else generalized

-- ---- whole inputs: one SEQUENCE of these parts, and nothing after it

abbrev pub file : Form → Form
file parts = one 0x30 parts full
