-- Reading from the left if the octets may end before the stated end of the body: the end is a number, and all octets
-- that are still to come follow the position, whether they belong to the body or not. The readings are those of
-- `Reading`, over such a spot.
use Rattle.std.proofs.Common.{inl, inr}
use Rattle.std.specs.Prelude.{◌≡◌, ℕ, zero, suc, ◌+◌, ◌-◌, ◌≤◌, Bool, true, false, not, ◌&&◌, List, [], ◌∷◌, ◌++◌}
use Rattle.std.specs.Prelude.{length, take, drop, Option, Some, None, Result, Ok, Err, nat_lt, ◌==◌, if◌then◌else◌, ◌⊎◌}
use Rattle.der_core.specs.declared.fault.Fault.{Fault}
use Rattle.der_core.specs.declared.fault.Kind.{Kind}
use Rattle.der_core.specs.declared.fault.Kind.TheVariants.{End, HighTag, Overrun, Tag, Trailing}
use Rattle.der_core.specs.Element.{is_tag, len, has_tag}
use Rattle.der_core.specs.Lists.{is_same, some}
use Rattle.der_core.specs.Reading.{fault, Spot, spot, length_at, is_other, none_in}
use Rattle.der_core.specs.Results.{◌>>=◌}

-- a position, the octets from there on, and how many of them are left to the stated end of the body
pub record OpenSpot : Type 0 where
  pub left : ℕ
  pub pos : ℕ
  pub rest : List ℕ

abbrev pub open_spot : ℕ → ℕ → List ℕ → OpenSpot
open_spot left n xs = record { left = left; pos = n; rest = xs }

-- the octets of the body that are present
abbrev pub body_of : OpenSpot → List ℕ
body_of w = take w.left w.rest

-- the spot of a slice that is this body
abbrev pub closed : OpenSpot → Spot
closed w = spot w.pos (body_of w)

-- the octets end before the stated end
abbrev pub is_short : OpenSpot → Bool
is_short w = nat_lt (length w.rest) w.left

-- with more octets after them
abbrev pub grown : OpenSpot → List ℕ → OpenSpot
grown w more = open_spot w.left w.pos (w.rest ++ more)

-- n octets on
abbrev pub ahead : ℕ → OpenSpot → OpenSpot
ahead n w = open_spot (w.left - n) (w.pos + n) (drop n w.rest)

-- an octet of the body is missing: the outermost element isn't whole
abbrev pub lost : Fault
lost = fault Overrun 0

abbrev pub is_end : Kind → Bool
is_end End = true
is_end _ = false

-- that something is missing at the end of the octets is a fault of the body only if the body ends there
abbrev pub judged : {A : Type 0} → OpenSpot → Result A Fault → Result A Fault
judged w (Ok x) = Ok x
judged w (Err f) = if is_short w then (if is_end f.kind then Err lost else Err f) else Err f

-- the length that the element at the front states
abbrev pub length_in : OpenSpot → List ℕ → Result ℕ Fault
length_in w [] = Err (fault End w.pos)
length_in w (t ∷ xs) = if is_tag t then (length_at (w.pos + 1) xs >>= λ l. Ok l.0) else Err (fault HighTag w.pos)

-- how many octets come before the contents
abbrev pub heading : ℕ → ℕ
heading l = 1 + length (len l)

abbrev pub entered : OpenSpot → ℕ → Result (OpenSpot × OpenSpot) Fault
entered w l = if nat_lt w.left (heading l + l) then Err (fault Overrun w.pos)
    else Ok (open_spot l (w.pos + heading l) (drop (heading l) w.rest), ahead (heading l + l) w)

-- the contents of the element at the front, with any tag, and what follows it
abbrev pub next_openly : OpenSpot → Result (OpenSpot × OpenSpot) Fault
next_openly w = judged w (length_in w (body_of w)) >>= entered w

-- the same for an element that must have this tag
unfoldable pub enter_openly : ℕ → OpenSpot → Result (OpenSpot × OpenSpot) Fault
enter_openly tag w = if is_other tag (body_of w) then Err (fault Tag w.pos) else next_openly w

unfoldable pub end_openly : OpenSpot → Result (Unit {0}) Fault
end_openly w = if w.left == 0 then Ok tt else (if length w.rest == 0 then Err lost else Err (fault Trailing w.pos))

-- readings of a part, and of a whole body
abbrev pub OpenReader : Type 0 → Type 0
OpenReader A = OpenSpot → Result (A × OpenSpot) Fault

abbrev pub OpenBody : Type 0 → Type 0
OpenBody A = OpenSpot → Result A Fault

abbrev pub within_openly : {A : Type 0} → ℕ → OpenBody A → OpenReader A
within_openly tag inside w = enter_openly tag w >>= λ x. inside x.0 >>= λ a. Ok (a, x.1)

infixr 6 ◌then_openly◌
abbrev pub ◌then_openly◌ : {A B : Type 0} → OpenReader A → OpenReader B → OpenReader (A × B)
(first then_openly second) w = first w >>= λ x. second x.1 >>= λ y. Ok ((x.0, y.0), y.1)

abbrev pub whole_openly : {A : Type 0} → OpenReader A → OpenBody A
whole_openly parts w = parts w >>= λ x. end_openly x.1 >>= λ u. Ok x.0

abbrev pub made_openly : {A B : Type 0} → (A → B) → OpenBody A → OpenBody B
made_openly to read w = read w >>= λ x. Ok (to x)

-- an octet of the body is due, to see whether a part is present there
abbrev pub looked : {A : Type 0} → OpenSpot → Result A Fault → Result A Fault
looked w r = if w.left == 0 then r else (if length w.rest == 0 then Err lost else r)

abbrev pub maybe_openly : {A : Type 0} → ℕ → OpenBody A → OpenReader (Option A)
maybe_openly tag inside w =
    looked w (if has_tag tag (body_of w)
    then (within_openly tag inside w >>= λ x. Ok (Some x.0, x.1))
    else Ok (None, w))

abbrev pub last_openly : {A : Type 0} → ℕ → OpenBody A → OpenReader (Option A)
last_openly tag inside w =
    looked w (if has_tag tag (body_of w)
    then (within_openly tag inside w >>= λ x. Ok (Some x.0, x.1))
    else (none_in (closed w) (body_of w) >>= λ u. Ok (None, w)))

abbrev pub switched_openly : {A B : Type 0} → ℕ → OpenBody (List ℕ) → List ℕ → OpenBody A → OpenBody B
    → OpenBody (A ⊎ (List ℕ × B))
switched_openly tag inside these same other w =
    within_openly tag inside w
    >>= λ x. if is_same these x.0 then (same x.1 >>= λ a. Ok (inl a)) else (other x.1 >>= λ b. Ok (inr (x.0, b)))

-- the octets of an element that must be present whole: those from a spot to the spot after it
abbrev pub passed_whole : OpenSpot → OpenSpot × OpenSpot → Result (List ℕ × OpenSpot) Fault
passed_whole w x = if is_short x.0 then Err lost else Ok (take (x.1.pos - w.pos) w.rest, x.1)

-- the whole element at the front, with any tag
unfoldable pub opaque_openly : OpenReader (List ℕ)
opaque_openly w = next_openly w >>= passed_whole w

-- the same, unless the body ends here
unfoldable pub optional_opaque_openly : OpenReader (Option (List ℕ))
optional_opaque_openly w =
    looked w (if w.left == 0 then Ok (None, w) else (opaque_openly w >>= λ x. Ok (Some x.0, x.1)))

-- whether the tag at the front is none of these
abbrev pub is_none_of : List ℕ → List ℕ → Bool
is_none_of tags [] = false
is_none_of tags (t ∷ xs) = is_tag t && not (some (λ u. u == t) tags)

-- the whole element at the front, which must have one of these tags
unfoldable pub tagged_openly : List ℕ → OpenReader (List ℕ)
tagged_openly tags w = looked w (if is_none_of tags (body_of w) then Err (fault Tag w.pos) else opaque_openly w)

-- a body that is kept whole, and then read as a slice; so is one whose octets are passed on as they come
abbrev pub kept : {A : Type 0} → (Spot → Result A Fault) → OpenBody A
kept read w = if is_short w then Err lost else read (closed w)

-- readings one after the other to the stated end; the first number bounds how many
unfoldable pub many_openly_from : {A : Type 0} → OpenReader A → ℕ → OpenBody (List A)
many_openly_from read zero w = if w.left == 0 then Ok [] else Err lost
many_openly_from read (suc k) w =
    if w.left == 0 then Ok [] else (if length w.rest == 0 then Err lost
    else (read w >>= λ x. many_openly_from read k x.1 >>= λ xs. Ok (x.0 ∷ xs)))

abbrev pub many_openly : {A : Type 0} → OpenReader A → OpenBody (List A)
many_openly read w = many_openly_from read w.left w

-- ---- how such a reading relates to that of slices

-- a reading went on by octets that are present there, within the body
pub record Went (w w' : OpenSpot) : Type 0 where
  pub count : ℕ
  pub inside : count ≤ w.left
  pub there : count ≤ length w.rest
  pub is : w' ≡ ahead count w

-- all octets up to the stated end are present
abbrev pub IsMet : OpenSpot → Type 0
IsMet w = w.left ≤ length w.rest

-- what a reading gives for some octets, it gives with more octets after them, unless it reports that octets are missing
abbrev pub Stays : {A : Type 0} → Result (A × OpenSpot) Fault → Result (A × OpenSpot) Fault → List ℕ → Type 0
Stays (Ok y) r more = r ≡ Ok (y.0, grown y.1 more)
Stays (Err f) r more = (f ≡ lost) ⊎ (r ≡ Err f)

abbrev pub StaysBody : {A : Type 0} → Result A Fault → Result A Fault → Type 0
StaysBody (Ok x) r = r ≡ Ok x
StaysBody (Err f) r = (f ≡ lost) ⊎ (r ≡ Err f)
