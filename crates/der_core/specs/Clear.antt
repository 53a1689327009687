-- Whether a form is well made, so that octets are read by it in one way: each part that may be absent can be
-- distinguished from what may follow it.
use Rattle.std.specs.Prelude.{Bool, true, false, not, ◌&&◌}
use Rattle.der_core.specs.declared.fault.Kind.{Kind}
use Rattle.der_core.specs.declared.fault.Kind.TheVariants.{Integer, Oid, Boolean, Bits, Time}
use Rattle.der_core.specs.Lists.{every, some}
use Rattle.der_core.specs.Form.{Form, opaque, contents, full, part, opaques, switch, filled, is_droppable, may_stand}

abbrev pub is_full : Form → Bool
is_full full = true
is_full _ = false

-- parts, or their end
abbrev pub are_parts : Form → Bool
are_parts opaque = false
are_parts (contents k formed allowed) = false
are_parts (filled f) = false
are_parts _ = true

-- the kinds of malformed contents
abbrev pub is_of_contents : Kind → Bool
is_of_contents Integer = true
is_of_contents Oid = true
is_of_contents Boolean = true
is_of_contents Bits = true
is_of_contents Time = true
is_of_contents _ = false

abbrev pub clear : Form → Bool
clear opaque = true
clear (contents k formed allowed) = is_of_contents k
clear full = true
clear (part count tags inside after) = (not (is_droppable count && some (λ t. may_stand after t) tags)
    && are_parts after) && (every (λ t. clear (inside t)) tags && clear after)
clear (opaques count after) = (not (is_droppable count && not (is_full after)) && are_parts after) && clear after
clear (switch tag inside these same other) = (clear inside && (clear same && clear other))
    && (are_parts same && are_parts other)
clear (filled f) = are_parts f && clear f
