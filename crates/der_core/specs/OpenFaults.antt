-- What can be said of an input before it is known whether its outer elements are complete. A place of such an input,
-- and a fault at it, is called open.
use Rattle.std.specs.Prelude.{◌≡◌, ℕ, ◌+◌, ◌-◌, ◌<◌, ◌≤◌, ◌^◌, true, ◌⊎◌, List, [], ◌∷◌, ◌++◌, length, take, Option}
use Rattle.std.specs.Prelude.{Some, None}
use Rattle.der_core.specs.declared.fault.Fault.{Fault}
use Rattle.der_core.specs.declared.fault.Kind.{Kind}
use Rattle.der_core.specs.Element.{is_tag, len, el, IsElement}
use Rattle.der_core.specs.Form.{Form, contents, takes, inside_of, behind, may_drop, dropped, body_of, Element}
use Rattle.der_core.specs.Form.{passed_by}
use Rattle.der_core.specs.Faults.{place, StandsNot, Fact, Faults}

-- an open place: a position; the octets that are present from there on, up to the stated end of the enclosing element
-- or to the end of the input; how many octets away that stated end is (none if there is no enclosing element); the form
-- that is due; and the elements passed
pub record OpenPlace : Type 0 where
  pub at : ℕ
  pub rest : List ℕ
  pub left : Option ℕ
  pub due : Form
  pub passed : List Element

abbrev pub open_place : ℕ → List ℕ → Option ℕ → Form → List Element → OpenPlace
open_place n s left due ps = record { at = n; rest = s; left = left; due = due; passed = ps }

-- this many octets don't go past the stated end
abbrev pub IsWithin : ℕ → Option ℕ → Type 0
IsWithin n None = Unit {0}
IsWithin n (Some left) = n ≤ left

-- the stated end, seen from this many octets further on
abbrev pub nearer : Option ℕ → ℕ → Option ℕ
nearer None n = None
nearer (Some left) n = Some (left - n)

-- how many octets an element has whose contents have l
abbrev pub whole_length : ℕ → ℕ
whole_length l = 1 + length (len l) + l

-- As `Reaches`; but to get to the contents of an element it is enough that its header is present and that it ends no
-- later than the stated end of the enclosing element.
pub data ReachesOpenly : OpenPlace → OpenPlace → Type 0 where
  stays : {p : OpenPlace} → ReachesOpenly p p
  passes : {n : ℕ} {left : Option ℕ} {due : Form} {ps : List Element} {q : OpenPlace} (t : ℕ) (b r : List ℕ)
      → IsElement t b → takes due t ≡ true
      → ReachesOpenly (open_place (n + length (el t b)) r (nearer left (length (el t b))) (behind due b)
      (passed_by due ps (t, b))) q
      → ReachesOpenly (open_place n (el t b ++ r) left due ps) q
  enters : {n : ℕ} {left : Option ℕ} {due : Form} {ps : List Element} {q : OpenPlace} (t l : ℕ) (s : List ℕ)
      → is_tag t ≡ true → l < 2 ^ 32 → takes due t ≡ true
      → IsWithin (whole_length l) left
      → ReachesOpenly (open_place (n + (1 + length (len l))) (take l s) (Some l) (body_of (inside_of due t)) []) q
      → ReachesOpenly (open_place n (t ∷ (len l ++ s)) left due ps) q
  drops : {n : ℕ} {s : List ℕ} {left : Option ℕ} {due : Form} {ps : List Element} {q : OpenPlace}
      → may_drop due ≡ true → StandsNot due s
      → ReachesOpenly (open_place n s left (dropped due) []) q
      → ReachesOpenly (open_place n s left due ps) q

-- these octets are all that is missing up to the stated end
abbrev pub Completes : Option ℕ → List ℕ → List ℕ → Type 0
Completes None s more = Unit {0}
Completes (Some left) s more = length s + length more ≡ left

-- the fact holds for all values of the missing octets: for contents, with any octets that may follow up to the stated
-- end; for parts, because of the octets that are present (that a length or an identifier is missing is such a fact too)
abbrev pub OpenFactIn : Form → Kind → OpenPlace → ℕ → Type 0
OpenFactIn (contents k' formed allowed) k p n = (more : List ℕ) → Completes p.left p.rest more
    → Fact k (place p.at (p.rest ++ more) p.due p.passed) n
OpenFactIn _ k p n = Fact k (place p.at p.rest p.due p.passed) n

abbrev pub OpenFact : Kind → OpenPlace → ℕ → Type 0
OpenFact k p n = OpenFactIn p.due k p n

-- the place at the front of an input
abbrev pub open_start : Form → List ℕ → OpenPlace
open_start form bytes = open_place 0 bytes None form []

-- an input that should have this form has this fault, or has it at an open place
abbrev pub FaultsOpenly : Form → List ℕ → Fault → Type 0
FaultsOpenly form bytes f = Faults form bytes f
    ⊎ ((q : OpenPlace) × ReachesOpenly (open_start form bytes) q × OpenFact f.kind q f.at)

-- the complete header of an element that the first due part takes is here, and states that the whole element has n
-- octets
abbrev pub States : OpenPlace → ℕ → Type 0
States p n = (t l : ℕ) × (s : List ℕ) × (p.rest ≡ t ∷ (len l ++ s)) × (is_tag t ≡ true) × (l < 2 ^ 32)
    × (takes p.due t ≡ true) × (n ≡ whole_length l)

-- at an open place of the input where this form is due, the header of an element states that the element has n octets
abbrev pub StatesAt : Form → List ℕ → Form → ℕ → Type 0
StatesAt form bytes due n = (q : OpenPlace) × ReachesOpenly (open_start form bytes) q × (q.due ≡ due) × States q n
