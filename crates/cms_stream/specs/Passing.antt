-- One pass over a source: what its calls do, in terms of all octets that are to come.
use Rattle.std.specs.Prelude.{◌≡◌, ℕ, ◌+◌, ◌-◌, ◌<◌, ◌≤◌, ◌^◌, ◌⊎◌, Bool, true, false, ◌&&◌, Option, Some, None, List}
use Rattle.std.specs.Prelude.{[], ◌++◌, length, take, drop, Result, Ok, Err, nat_lt, ◌==◌, if◌then◌else◌}
use Rattle.der_core.specs.declared.fault.Fault.{Fault}
use Rattle.der_core.specs.declared.fault.Kind.TheVariants.{Tag, Overrun, Trailing}
use Rattle.der_core.specs.declared.tags.TheConstants.{OBJECT_IDENTIFIER, SEQUENCE}
use Rattle.der_core.specs.Element.{has_tag}
use Rattle.der_core.specs.Reading.{fault, Spot, spot, is_other, none_in}
use Rattle.der_core.specs.Results.{◌>>=◌}
use Rattle.devices.specs.Device.{raised}
use Rattle.cms_stream_laws.specs.OpenReading.{OpenSpot, open_spot, body_of, closed, lost, is_end, length_in, heading}
use Rattle.cms_stream_laws.specs.OpenReading.{enter_openly, looked, is_none_of}
use Rattle.der_core.specs.OpenFaults.{whole_length}
use Rattle.cms_types.specs.SignedDataValue.{EncapsulatedValue}
use Rattle.cms_stream_laws.specs.OpenContentInfo.{contents_of}
use Rattle.cms_stream.specs.declared.stream_fault.StreamFault.{StreamFault}
use Rattle.cms_stream.specs.declared.taker.Taker.{Ghosts}
use Rattle.cms_stream.specs.declared.stream_fault.StreamFault.TheVariants.{Malformed, ReadFailed, TooLong}

-- a body that ends at a position, from where a pass is
abbrev pub body_to : ℕ → Spot → OpenSpot
body_to end s = open_spot (end - s.pos) s.pos s.rest

-- where a pass is after that body
abbrev pub past : ℕ → Spot → Spot
past end s = spot end (drop (end - s.pos) s.rest)

-- what a header states, if more octets may be due than those that are looked at
abbrev pub heard : Bool → Result ℕ Fault → Result ℕ Fault
heard missing (Ok l) = Ok l
heard missing (Err f) = if missing then (if is_end f.kind then Err lost else Err f) else Err f

-- fewer octets than a header may have, and fewer than the body has left
abbrev pub is_missing : ℕ → List ℕ → Bool
is_missing left ahead = nat_lt (length ahead) 6 && nat_lt (length ahead) left

-- the length that the header at the front of a body states, with any tag, by the first octets of all that are to come
unfoldable pub next_header_in : (left at : ℕ) → List ℕ → Result ℕ Fault
next_header_in left at ahead =
    heard (is_missing left ahead) (length_in (open_spot 0 at []) (take left ahead))
    >>= λ l. if nat_lt left (heading l + l) then Err (fault Overrun at) else Ok l

-- the same for a header that must have this tag
unfoldable pub header_in : (tag left at : ℕ) → List ℕ → Result ℕ Fault
header_in tag left at ahead =
    if is_other tag (take left ahead) then Err (fault Tag at) else next_header_in left at ahead

-- How a call's outcome relates to a reading of all that was to come, if that is known: an answer or a fault is the
-- reading's, and the count of failures is unchanged; a failed read is counted.
abbrev pub Reads : {X Y : Type 0} → (X → Y) → Result X StreamFault → Type 0 → ℕ → ℕ → Result Y Fault → Type 0
Reads view (Ok x) tells before after read = (after ≡ before) × (tells → read ≡ Ok (view x))
Reads view (Err (Malformed f)) tells before after read = (after ≡ before) × (tells → read ≡ Err f)
Reads view (Err TooLong) tells before after read = ⊥
Reads view (Err ReadFailed) tells before after read = after ≡ raised before

-- that one of these tags is at the front of a body, if any is, whose first octet is looked at
abbrev pub tag_fits : List ℕ → OpenSpot → Result (Unit {0}) Fault
tag_fits tags w = looked w (if is_none_of tags (body_of w) then Err (fault Tag w.pos) else Ok tt)

-- whether an element with this tag is at the front of a body, whose first octet is looked at
abbrev pub peeked : ℕ → OpenSpot → Result Bool Fault
peeked tag w = looked w (Ok (has_tag tag (body_of w)))

-- a call that looks and finds no fault
abbrev pub Tries : {X : Type 0} → Result X StreamFault → ℕ → ℕ → Type 0
Tries (Ok x) before after = after ≡ before
Tries (Err (Malformed f)) before after = ⊥
Tries (Err TooLong) before after = ⊥
Tries (Err ReadFailed) before after = after ≡ raised before

-- a call that finds octets, or that none are to come
abbrev pub Lacks : {X : Type 0} → Result X StreamFault → Type 0 → ℕ → ℕ → Spot → Type 0
Lacks (Ok x) tells before after s = after ≡ before
Lacks (Err (Malformed f)) tells before after s = (after ≡ before) × (f ≡ lost) × (tells → s.rest ≡ [])
Lacks (Err TooLong) tells before after s = ⊥
Lacks (Err ReadFailed) tells before after s = after ≡ raised before

-- whether nothing is at the front of a body, after parts that may be absent
abbrev pub missed : OpenSpot → Result (Unit {0}) Fault
missed w = looked w (none_in (closed w) (body_of w))

-- the length that the outermost element states
unfoldable pub outer_size : List ℕ → Result ℕ Fault
outer_size bytes = if is_other SEQUENCE bytes then Err (fault Tag 0) else length_in (open_spot 0 0 []) bytes

-- its contents
unfoldable pub outer_in : List ℕ → Result OpenSpot Fault
outer_in bytes = outer_size bytes >>= λ l. Ok (contents_of bytes l)

-- nothing more is to come
unfoldable pub last_in : Spot → Result (Unit {0}) Fault
last_in s = if length s.rest == 0 then Ok tt else Err (fault Trailing s.pos)

-- the same for a value of which a call gives a part, by the relation p; and the call may refuse for lack of room, for
-- the reason long
abbrev pub Finds : {X Y : Type 0} → (X → Y → Type 0) → (long : Type 0) → Result X StreamFault → Type 0 → ℕ → ℕ
    → Result Y Fault → Type 0
Finds {X} {Y} p long (Ok x) tells before after read = (after ≡ before) × (tells → (y : Y) × (read ≡ Ok y) × p x y)
Finds p long (Err (Malformed f)) tells before after read = (after ≡ before) × (tells → read ≡ Err f)
Finds p long (Err TooLong) tells before after read = (after ≡ before) × (tells → long)
Finds p long (Err ReadFailed) tells before after read = after ≡ raised before

-- the header at the front of a body states an element of more octets than there is room for
abbrev pub IsTooLong : (room tag : ℕ) → OpenSpot → Type 0
IsTooLong room tag w = (x : OpenSpot × OpenSpot) × (enter_openly tag w ≡ Ok x) × (room < whole_length x.0.left)

-- the header at the front of the element here does so for its first part, the content's type
abbrev pub IsTypeTooLong : ℕ → OpenSpot → Type 0
IsTypeTooLong room w =
    (x : OpenSpot × OpenSpot) × (enter_openly SEQUENCE w ≡ Ok x) × IsTooLong room OBJECT_IDENTIFIER x.0

-- whether a content is present, and that a taker gained it, or nothing
abbrev pub Carries : (List ℕ → Type 0) → Bool → Option (List ℕ) → Type 0
Carries gains false content = (content ≡ None) × gains []
Carries gains true content = (c : List ℕ) × (content ≡ Some c) × gains c

-- a taker, which held what it holds before and after, gained these octets behind those that it had taken
abbrev pub Gains : (before after : List ℕ → Type 0) → List ℕ → Type 0
Gains before after octets = (m : List ℕ) → before m → after (m ++ octets)

-- the same for the taker itself, before and after
abbrev pub Gained : {K : Type 0} → Ghosts K → (before after : K) → List ℕ → Type 0
Gained taker before after octets = Gains (taker.held before) (taker.held after) octets

-- so many octets are at hand, or no more are to come
abbrev pub IsAtHand : (count : ℕ) → (window rest : List ℕ) → Type 0
IsAtHand count window rest = (count ≤ length window) ⊎ (rest ≡ [])

-- the whole element with n octets of contents fits into the room
abbrev pub HasRoom : (room n : ℕ) → Type 0
HasRoom room n = (n < 2 ^ 32) × (whole_length n ≤ room) × (n ≤ room)

-- of an EncapsulatedContentInfo the contents of its type were kept, these many octets at the front of the room; and a
-- taker gained its content, if it has one
abbrev pub IsKept : (gains : List ℕ → Type 0) → (room : List ℕ) → ℕ × Bool → EncapsulatedValue → Type 0
IsKept gains room x v = (v.content_type ≡ take x.0 room) × Carries gains x.1 v.content
