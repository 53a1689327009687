-- What was at the place where a cursor was, and what it took.
use Rattle.std.specs.Prelude.{◌≡◌, ℕ, ◌+◌, [], ◌++◌, length}
use Rattle.der_core.specs.declared.fault.Fault.{Fault}
use Rattle.der_core.specs.Element.{el, len, IsElement, IsBytes}
use Rattle.der_core.specs.Form.{Form}
use Rattle.der_core.specs.Grammar.{one, opt}
use Rattle.der_core.specs.Faults.{Place, place, IsDemanded, Fact}
use Rattle.der_core.specs.Reading.{Spot, Taken}

-- the element x is at s, and s' is right after it
pub record IsTaken (s : Spot) (x : Taken) (s' : Spot) : Type 0 where
  pub element : IsElement x.tag x.body
  pub whole : x.whole ≡ el x.tag x.body
  pub parts : s.rest ≡ el x.tag x.body ++ s'.rest
  pub moved : s'.pos ≡ s.pos + length (el x.tag x.body)
  pub octets : IsBytes x.body

-- a fault here, in every grammar that demands an element here
abbrev pub IsFaultAt : Spot → Fault → Type 0
IsFaultAt s f = (p : Place) → p.at ≡ s.pos → p.rest ≡ s.rest → IsDemanded p.due → Fact f.kind p f.at

-- a fault here, in every grammar in which one element with this identifier is due here, for any form of it and anything
-- that is due after it
abbrev pub IsFaultOfOne : ℕ → Spot → Fault → Type 0
IsFaultOfOne tag s f = (inside after : Form) → Fact f.kind (place s.pos s.rest (one tag inside after) []) f.at

-- a fault here, in every grammar in which such an element is due here and may be absent
abbrev pub IsFaultOfOptional : ℕ → Spot → Fault → Type 0
IsFaultOfOptional tag s f = (inside after : Form) → Fact f.kind (place s.pos s.rest (opt tag inside after) []) f.at

-- the element with this tag is at s, c is at its contents, and s' is right after it
pub record Enters (tag : ℕ) (s c s' : Spot) : Type 0 where
  pub element : IsElement tag c.rest
  pub parts : s.rest ≡ el tag c.rest ++ s'.rest
  pub moved : s'.pos ≡ s.pos + length (el tag c.rest)
  pub begin : c.pos ≡ s.pos + (1 + length (len (length c.rest)))
  pub fits : IsBytes c.rest
  pub fits_rest : IsBytes s'.rest
