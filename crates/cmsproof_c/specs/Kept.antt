-- What a handle of a list keeps, of the type that this row describes, and what it owns.
use base.Fml.{Fml, ftrue}
use denote.RattleType.{RattleType}
use denote.RawPtr.{Ptr}
use Rattle.std.specs.Prelude.{Option, Some, None}
use Rattle.std.specs.Box.Ownership.{box_owns}
use Rattle.std_heap.specs.contracts.GlobalAllocator.TheImpl.{ghosts}

-- the memory of a list, which a box of it owns; without one, none
abbrev pub kept_owns : (R : RattleType) → Ptr → Option R.Denot → Fml
kept_owns R at None = ftrue
kept_owns R at (Some list) = box_owns (ghosts.dealloc_token (record { memory = record { seal = tt } })) R at list
