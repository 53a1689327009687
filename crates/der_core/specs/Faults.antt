-- Where an input departs from a grammar, and how.
use Rattle.std.specs.Prelude.{◌≡◌, ◌≢◌, ℕ, ◌+◌, ◌-◌, ◌<◌, ◌≤◌, ◌^◌, true, false, ◌⊎◌, List, [], ◌∷◌, ◌++◌, length}
use Rattle.der_core.specs.declared.fault.Fault.{Fault}
use Rattle.der_core.specs.declared.fault.Kind.{Kind}
use Rattle.der_core.specs.declared.fault.Kind.TheVariants.{End, HighTag, Indefinite, LengthForm, Overrun, Tag, Trailing}
use Rattle.der_core.specs.declared.fault.Kind.TheVariants.{Integer, Oid, Boolean, Bits, Time, Value, Order, Empty}
use Rattle.der_core.specs.Element.{is_tag, len, el, IsElement}
use Rattle.der_core.specs.Form.{Form, contents, full, part, opaques, switch, takes, inside_of, behind, may_drop}
use Rattle.der_core.specs.Form.{dropped, may_stand, body_of, is_filled, Element, passed_by, is_early, is_second}
use Rattle.der_core.specs.Encoding.{Encodes}

-- A place of an input: a position, the octets from there to the end of the enclosing body, the form that is due for
-- them, and, if they are within a list, the elements of that list before them.
pub record Place : Type 0 where
  pub at : ℕ
  pub rest : List ℕ
  pub due : Form
  pub passed : List Element

abbrev pub place : ℕ → List ℕ → Form → List Element → Place
place n s due ps = record { at = n; rest = s; due = due; passed = ps }

-- the first due part doesn't take the identifier at the front
abbrev pub StandsNot : Form → List ℕ → Type 0
StandsNot due [] = Unit {0}
StandsNot due (t ∷ s) = takes due t ≡ false

-- From a place where the first due part takes the element there, one gets to the place after that element and to the
-- place at the front of its contents. A part that may be absent, and a list, is dropped if its identifier isn't there.
pub data Reaches : Place → Place → Type 0 where
  stays : {p : Place} → Reaches p p
  passes : {n : ℕ} {due : Form} {ps : List Element} {q : Place} (t : ℕ) (b r : List ℕ)
      → IsElement t b → takes due t ≡ true
      → Reaches (place (n + length (el t b)) r (behind due b) (passed_by due ps (t, b))) q
      → Reaches (place n (el t b ++ r) due ps) q
  enters : {n : ℕ} {due : Form} {ps : List Element} {q : Place} (t : ℕ) (b r : List ℕ)
      → IsElement t b → takes due t ≡ true
      → Reaches (place (n + (1 + length (len (length b)))) b (body_of (inside_of due t)) []) q
      → Reaches (place n (el t b ++ r) due ps) q
  drops : {n : ℕ} {s : List ℕ} {due : Form} {ps : List Element} {q : Place} → may_drop due ≡ true → StandsNot due s
      → Reaches (place n s (dropped due) []) q
      → Reaches (place n s due ps) q

-- an element may be here
abbrev pub IsDue : Form → Type 0
IsDue (part count tags inside after) = Unit {0}
IsDue (opaques count after) = Unit {0}
IsDue (switch tag inside these same other) = Unit {0}
IsDue _ = ⊥

-- an element must be here
abbrev pub IsDemanded : Form → Type 0
IsDemanded due = IsDue due × (may_drop due ≡ false)

-- contents of this kind are due, and the octets aren't such contents
abbrev pub IsMalformed : Kind → Form → List ℕ → Type 0
IsMalformed k (contents k' formed allowed) s = (k ≡ k') × (formed s ≡ false)
IsMalformed k _ s = ⊥

-- contents are due, and the octets are such contents, but with a value that isn't allowed
abbrev pub IsOther : Form → List ℕ → Type 0
IsOther (contents k formed allowed) s = (formed s ≡ true) × (allowed s ≡ false)
IsOther _ s = ⊥

-- an identifier is due, and here is an octet, followed by these
abbrev pub Stands : Place → ℕ → List ℕ → Type 0
Stands p t s = IsDue p.due × (p.rest ≡ t ∷ s)

-- an element begins here: its identifier, and the octets that follow
abbrev pub Begins : Place → ℕ → List ℕ → Type 0
Begins p t s = Stands p t s × (is_tag t ≡ true)

-- after an identifier the octets end where a length octet must follow; k is how many octets are there
abbrev pub LengthEnds : List ℕ → ℕ → Type 0
LengthEnds [] k = k ≡ 0
LengthEnds (l ∷ s) k = (128 < l) × (l ≤ 132) × (length s < l - 128) × (k ≡ 1 + length s)

-- these octets don't begin with a length: they state more than four further octets, or the first further octet shows
-- that a shorter form would do
abbrev pub IsNoLength : List ℕ → Type 0
IsNoLength [] = ⊥
IsNoLength (l ∷ []) = 132 < l
IsNoLength (l ∷ o ∷ s) = (132 < l) ⊎ (((128 < l) × (o ≡ 0)) ⊎ ((l ≡ 129) × (o < 128)))

-- a complete element that the first due part takes is here
abbrev pub IsHere : Place → ℕ → List ℕ → Type 0
IsHere p t b = IsElement t b × (takes p.due t ≡ true) × (r : List ℕ) × (p.rest ≡ el t b ++ r)

-- What each kind of fault says of the octets at n, at a place.
abbrev pub Fact : Kind → Place → ℕ → Type 0
Fact End p n = (IsDemanded p.due × (p.rest ≡ []) × (n ≡ p.at))
    ⊎ ((t k : ℕ) × (s : List ℕ) × Begins p t s × LengthEnds s k × (n ≡ p.at + 1 + k))
Fact HighTag p n = (t : ℕ) × (s : List ℕ) × Stands p t s × (is_tag t ≡ false) × (n ≡ p.at)
Fact Indefinite p n = (t : ℕ) × (s : List ℕ) × Begins p t (128 ∷ s) × (n ≡ p.at + 1)
Fact LengthForm p n = (t : ℕ) × (s : List ℕ) × Begins p t s × IsNoLength s × (n ≡ p.at + 1)
Fact Overrun p n = (t l : ℕ) × (s : List ℕ) × Begins p t (len l ++ s) × (length s < l) × (l < 2 ^ 32) × (n ≡ p.at)
Fact Tag p n = (t : ℕ) × (s : List ℕ) × Begins p t s × (may_stand p.due t ≡ false) × (n ≡ p.at)
Fact Trailing p n = (p.due ≡ full) × (p.rest ≢ []) × (n ≡ p.at)
Fact Integer p n = IsMalformed Integer p.due p.rest × (n ≡ p.at)
Fact Oid p n = IsMalformed Oid p.due p.rest × (n ≡ p.at)
Fact Boolean p n = IsMalformed Boolean p.due p.rest × (n ≡ p.at)
Fact Bits p n = IsMalformed Bits p.due p.rest × (n ≡ p.at)
Fact Time p n = IsMalformed Time p.due p.rest × (n ≡ p.at)
Fact Value p n = (IsOther p.due p.rest × (n ≡ p.at)) ⊎ ((t : ℕ) × (b : List ℕ) × IsHere p t b
    × (is_second p.due p.passed (t, b) ≡ true) × Encodes [] (inside_of p.due t) b × (n ≡ p.at))
Fact Order p n = (t : ℕ) × (b : List ℕ) × IsHere p t b × (is_early p.due p.passed (t, b) ≡ true) × (n ≡ p.at)
Fact Empty p n = (t : ℕ) × IsHere p t [] × (is_filled (inside_of p.due t) ≡ true) × (n ≡ p.at)

-- a fault that an input has at this place or at one that is reached from it
abbrev pub FaultFrom : Place → Fault → Type 0
FaultFrom p f = (q : Place) × Reaches p q × Fact f.kind q f.at

-- a fault of an input that should have this form: it is at a place that is reached from the input's first octet
abbrev pub Faults : Form → List ℕ → Fault → Type 0
Faults form bytes f = FaultFrom (place 0 bytes form []) f
