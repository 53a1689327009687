-- A grammar of elements as data.
use Rattle.std.specs.Prelude.{ℕ, Bool, true, false, ◌&&◌, ◌||◌, List, [], ◌∷◌, ◌++◌, ◌==◌, if◌then◌else◌}
use Rattle.der_core.specs.declared.fault.Kind.{Kind}
use Rattle.der_core.specs.Element.{is_tag, el}
use Rattle.der_core.specs.Lists.{some, is_same, is_front, is_less}

-- how many elements a part denotes: one; one or none; a list; a list in byte order; a list in which at most one element
-- begins with each of these object identifiers
pub data Count : Type 0 where
  One : Count
  Optional : Count
  Many : Count
  Ordered : Count
  Distinct : List (List ℕ) → Count

-- what a body is
pub data Form : Type 0 where
  -- any octets
  opaque : Form
  -- contents that pass the first test, which is that they are well formed (if not, they have a fault of this kind), and
  -- the second, which is that their value is allowed
  contents : Kind → (formed : List ℕ → Bool) → (allowed : List ℕ → Bool) → Form
  -- the end of the body
  full : Form
  -- elements with these identifiers, the contents of each of the form that `inside` gives for its identifier; after
  -- them the last form
  part : Count → (tags : List ℕ) → (inside : ℕ → Form) → (after : Form) → Form
  -- elements with any identifier and any contents; after them the last form
  opaques : Count → (after : Form) → Form
  -- one element with this identifier and contents of this form; after it the first of the two last forms if these are
  -- its contents, and otherwise the second
  switch : (tag : ℕ) → (inside : Form) → (these : List ℕ) → (same : Form) → (other : Form) → Form
  -- this form, with at least one member
  filled : Form → Form

-- ---- what a form says at its front

abbrev pub is_droppable : Count → Bool
is_droppable One = false
is_droppable Optional = true
is_droppable Many = true
is_droppable Ordered = true
is_droppable (Distinct ids) = true

abbrev pub is_list : Count → Bool
is_list One = false
is_list Optional = false
is_list Many = true
is_list Ordered = true
is_list (Distinct ids) = true

-- the first due part allows this identifier
abbrev pub takes : Form → ℕ → Bool
takes (part count tags inside after) t = some (λ u. u == t) tags
takes (opaques count after) t = is_tag t
takes (switch tag inside these same other) t = tag == t
takes _ t = false

-- the form of an element's contents there
abbrev pub inside_of : Form → ℕ → Form
inside_of (part count tags inside after) t = inside t
inside_of (opaques count after) t = opaque
inside_of (switch tag inside these same other) t = inside
inside_of _ t = full

-- what is due after an element with these contents: a list remains due
abbrev pub behind : Form → List ℕ → Form
behind (part count tags inside after) b = if is_list count then part count tags inside after else after
behind (opaques count after) b = if is_list count then opaques count after else after
behind (switch tag inside these same other) b = if is_same these b then same else other
behind _ b = full

-- the first due part may be absent
abbrev pub may_drop : Form → Bool
may_drop (part count tags inside after) = is_droppable count
may_drop (opaques count after) = is_droppable count
may_drop _ = false

-- what is due if it is dropped
abbrev pub dropped : Form → Form
dropped (part count tags inside after) = after
dropped (opaques count after) = after
dropped _ = full

-- an element with this identifier may be here, in some due part
abbrev pub may_stand : Form → ℕ → Bool
may_stand opaque t = true
may_stand (contents k formed allowed) t = true
may_stand full t = false
may_stand (part count tags inside after) t = some (λ u. u == t) tags || (is_droppable count && may_stand after t)
may_stand (opaques count after) t = is_tag t || (is_droppable count && may_stand after t)
may_stand (switch tag inside these same other) t = tag == t
may_stand (filled f) t = may_stand f t

-- a body that must have a member has the form of one that need not have one
abbrev pub body_of : Form → Form
body_of (filled f) = f
body_of f = f

abbrev pub is_filled : Form → Bool
is_filled (filled f) = true
is_filled f = false

-- ---- elements of a list

-- an element: its identifier and its contents
abbrev pub Element : Type 0
Element = ℕ × List ℕ

abbrev pub whole : Element → List ℕ
whole e = el e.0 e.1

abbrev pub count_of : Form → Count
count_of (part count tags inside after) = count
count_of (opaques count after) = count
count_of _ = One

-- the elements of the list here that have been passed after this element: none if the list is no longer due after it
abbrev pub passed_by : Form → List Element → Element → List Element
passed_by f ps e = if is_list (count_of f) then ps ++ e ∷ [] else []

-- the last of the elements passed, or no octets if there is none
abbrev pub last_of : List Element → List ℕ
last_of [] = []
last_of (e ∷ []) = whole e
last_of (e ∷ f ∷ es) = last_of (f ∷ es)

-- the contents of the element begin with this object identifier
abbrev pub has_id : List ℕ → Element → Bool
has_id id e = is_front (el 0x06 id) e.1

-- a list in byte order is due, and this element is less than the last one that was passed
abbrev pub is_early_in : Count → List Element → Element → Bool
is_early_in Ordered ps e = is_less (whole e) (last_of ps)
is_early_in _ ps e = false

abbrev pub is_early : Form → List Element → Element → Bool
is_early f ps e = is_early_in (count_of f) ps e

-- a list is due in which the object identifier of this element may occur once, and an element that was passed has it
abbrev pub is_second_in : Count → List Element → Element → Bool
is_second_in (Distinct ids) ps e = some (λ id. has_id id e && some (has_id id) ps) ids
is_second_in _ ps e = false

abbrev pub is_second : Form → List Element → Element → Bool
is_second f ps e = is_second_in (count_of f) ps e
