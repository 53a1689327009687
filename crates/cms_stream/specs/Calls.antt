-- What a call of a reader does to a pass over a source. `Passes` joins the four facts that each call states; below it
-- stands, in a line or two each, what the kinds of calls fill in. `Parts` has a word for each call.
use Rattle.std.specs.Prelude.{◌≡◌, ℕ, ◌-◌, ◌<◌, ◌≤◌, ◌^◌, List, Result, IfOk}
use Rattle.devices.specs.declared.source.Source.{Ghosts}
use Rattle.der_core.specs.declared.fault.Fault.{Fault}
use Rattle.der_core.specs.Reading.{Spot}
use Rattle.cms_stream_laws.specs.OpenReading.{OpenSpot, OpenReader, OpenBody, body_of}
use Rattle.cms_stream.specs.declared.stream_fault.StreamFault.{StreamFault}
use Rattle.cms_stream.specs.declared.reader.Reader.{Reader}
use Rattle.cms_stream.specs.Passing.{Reads, Tries, Lacks, Finds, body_to, past}
use Rattle.cms_stream.specs.Readers.{seen}

-- A pass over a source at one moment: whether it is known which octets the source has still to hand out, how often the
-- source has failed, and where the pass is, with all octets that are to come.
pub record Moment : Type 1 where
  pub tells : Type 0
  pub failures : ℕ
  pub place : Spot

abbrev pub moment : {S : Type 0} → Ghosts S → Reader → S → Moment
moment g r s = record { tells = g.tells s; failures = g.failures s; place = seen r (g.rest s) }

-- the pass is within a body that ends there, or at its end, and the end is below 2^63
pub record IsInBody (r : Reader) (end : ℕ) : Type 0 where
  pub inside : r.at ≤ end
  pub near : end < 2 ^ 63

-- A call took a pass from one moment to another: its outcome and the count of failures are right; if it was known which
-- octets are to come, it still is; the pass is where it must be; and, after an answer, the octets to come are those
-- from that place on.
pub record Passes {X : Type 0} (Right Placed : Type 0) (place : Spot) (from : Moment) (result : Result X StreamFault)
    (to : Moment) : Type 0 where
  pub exact : Right
  pub telling : from.tells → to.tells
  pub at : Placed
  pub moved : from.tells → IfOk result (λ _. to.place ≡ place)

-- a kind of call: a relation between the moment before, the result and the moment after
abbrev pub Call : Type 0 → Type 1
Call X = Moment → Result X StreamFault → Moment → Type 0

-- A call of this kind was made: with a reader and its source as they were, it gave this result and left them so.
abbrev pub IsCall : {S X : Type 0} → Call X → Ghosts S → Reader → S → Result X StreamFault → Reader → S → Type 0
IsCall call g r s result r' s' = call (moment g r s) result (moment g r' s')

-- ---- what may be right of the outcome, and where the pass may have to be

-- the answer, seen so, or the fault is that of this reading
abbrev pub IsRead : {X Y : Type 0} → (X → Y) → Result Y Fault → Call X
IsRead view read from result to = Reads view result from.tells from.failures to.failures read

-- the answer is a part, by this relation, of what this reading gives, or the fault is its fault; or there was too
-- little room, for this reason
abbrev pub IsFound : {X Y : Type 0} → (X → Y → Type 0) → (long : Type 0) → Result Y Fault → Call X
IsFound gives long read from result to = Finds gives long result from.tells from.failures to.failures read

-- where it was
abbrev pub IsStill : Moment → Moment → Type 0
IsStill from to = to.place.pos ≡ from.place.pos

-- after an answer at the end of the body
abbrev pub IsAtEnd : {X : Type 0} → (end : ℕ) → Result X StreamFault → Moment → Type 0
IsAtEnd end result to = IfOk result (λ _. to.place.pos ≡ end)

-- after an answer further on in the body, or at least no further back
abbrev pub IsFurther : {X : Type 0} → (end : ℕ) → Call X
IsFurther end from result to = IfOk result (λ _. (from.place.pos < to.place.pos) × (to.place.pos ≤ end))

abbrev pub IsOnward : {X : Type 0} → (end : ℕ) → Call X
IsOnward end from result to = IfOk result (λ _. (from.place.pos ≤ to.place.pos) × (to.place.pos ≤ end))

-- ---- calls that pass nothing

-- it asked the source for octets
abbrev pub Asks : {X : Type 0} → Call X
Asks from result to = Passes (Tries result from.failures to.failures) (IsStill from to) from.place from result to

-- it met octets, or found that none are to come
abbrev pub Meets : {X : Type 0} → Call X
Meets from result to =
    Passes (Lacks result from.tells from.failures to.failures from.place) (IsStill from to) from.place from result to

-- it looked at the front of a body, as this reading does
abbrev pub Looks : {X : Type 0} → OpenBody X → (end : ℕ) → Call X
Looks reading end from result to =
    Passes (IsRead (λ x. x) (reading (body_to end from.place)) from result to) (IsStill from to) from.place from result
    to

-- it found that the body ends here, or a fault, as this reading does
abbrev pub Ends : OpenBody (Unit {0}) → (end : ℕ) → Call (Unit {0})
Ends reading end from result to =
    Passes (IsRead (λ u. u) (reading (body_to end from.place)) from result to)
    (IfOk result (λ _. (from.place.pos ≡ end) × (to.place.pos ≡ end))) from.place from result to

-- ---- calls that enter an element: the answer is where its contents end

-- it entered the element at the front of a body, as this reading does
abbrev pub Enters : (OpenSpot → Result (OpenSpot × OpenSpot) Fault) → (end : ℕ) → Call ℕ
Enters reading end from result to =
    Passes (IsRead (λ inner. (body_to inner to.place, body_to end (past inner to.place)))
    (reading (body_to end from.place)) from result to)
    (IfOk result (λ inner. (from.place.pos < to.place.pos) × (to.place.pos ≤ inner) × (inner ≤ end)
    × (inner - to.place.pos < 2 ^ 32))) (past to.place.pos from.place) from result to

-- it entered the outermost element, whose end nothing else states
abbrev pub Begins : (List ℕ → Result OpenSpot Fault) → Call ℕ
Begins reading from result to =
    Passes (IsRead (λ inner. body_to inner to.place) (reading from.place.rest) from result to)
    (IfOk result (λ inner. (to.place.pos ≤ inner) × (inner < 2 ^ 33))) (past to.place.pos from.place) from result to

-- ---- calls that pass the whole of a body

-- the answer, seen so, is what this reading gives
abbrev pub ReadsBody : {X Y : Type 0} → (X → Y) → OpenBody Y → (end : ℕ) → Call X
ReadsBody view reading end from result to =
    Passes (IsRead view (reading (body_to end from.place)) from result to) (IsAtEnd end result to)
    (past end from.place) from result to

-- what this reading gives is the octets of the body
abbrev pub PassesOctets : {X : Type 0} → OpenBody (List ℕ) → (end : ℕ) → Call X
PassesOctets reading end from result to =
    ReadsBody (λ _. body_of (body_to end from.place)) reading end from result to

-- a taker gained what this reading gives
abbrev pub HandsBody : (gains : List ℕ → Type 0) → OpenBody (List ℕ) → (end : ℕ) → Call (Unit {0})
HandsBody gains reading end from result to =
    Passes ((content : List ℕ) × IsRead (λ _. content) (reading (body_to end from.place)) from result to
    × (from.tells → IfOk result (λ _. gains content)))
    (IsAtEnd end result to) (past end from.place) from result to

-- the answer is a part, by this relation, of what this reading gives; or there was too little room, and why
abbrev pub FindsBody : {X A : Type 0} → (X → A → Type 0) → (long : OpenSpot → Type 0) → OpenBody A → (end : ℕ) → Call X
FindsBody gives long reading end from result to =
    Passes (IsFound gives (long (body_to end from.place)) (reading (body_to end from.place)) from result to)
    (IsAtEnd end result to) (past end from.place) from result to

-- this reading gives something
abbrev pub PassesBody : {A : Type 0} → OpenBody A → (end : ℕ) → Call (Unit {0})
PassesBody reading end from result to = FindsBody (λ _ _. Unit {0}) (λ _. ⊥) reading end from result to

-- ---- calls that pass the front of a body: the reading leaves of it what they leave

-- the answer is a part, by this relation, of what this reading gives; or there was too little room, and why
abbrev pub FindsFront : {X A : Type 0} → (X → A → Type 0) → (long : OpenSpot → Type 0) → OpenReader A → (end : ℕ)
    → Call X
FindsFront gives long reading end from result to =
    Passes (IsFound (λ x y. gives x y.0 × (y.1 ≡ body_to end to.place)) (long (body_to end from.place))
    (reading (body_to end from.place)) from result to)
    (IsFurther end from result to) (past to.place.pos from.place) from result to

-- the same of a part that may be absent
abbrev pub FindsOptional : {X A : Type 0} → (X → A → Type 0) → OpenReader A → (end : ℕ) → Call X
FindsOptional gives reading end from result to =
    Passes (IsFound (λ x y. gives x y.0 × (y.1 ≡ body_to end to.place)) ⊥
    (reading (body_to end from.place)) from result to)
    (IsOnward end from result to) (past to.place.pos from.place) from result to

-- this reading gives something, and the same of a part that may be absent
abbrev pub PassesFront : {A : Type 0} → OpenReader A → (end : ℕ) → Call (Unit {0})
PassesFront reading end from result to =
    Passes (IsFound (λ _ y. y.1 ≡ body_to end to.place) ⊥ (reading (body_to end from.place)) from result to)
    (IsFurther end from result to) (past to.place.pos from.place) from result to

abbrev pub PassesOptional : {A : Type 0} → OpenReader A → (end : ℕ) → Call (Unit {0})
PassesOptional reading end from result to =
    Passes (IsFound (λ _ y. y.1 ≡ body_to end to.place) ⊥ (reading (body_to end from.place)) from result to)
    (IsOnward end from result to) (past to.place.pos from.place) from result to
