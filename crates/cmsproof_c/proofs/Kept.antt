-- What is kept, if something is; and that it may go to another thread, if the list may.
use mir.Raw.{raw}
use base.Shift.{Keyless}
use denote.Memory.{lone}
use denote.RattleType.{RattleType}
use denote.RawPtr.{Ptr}
use denote.Param.Send.{IsSend}
use Rattle.std.proofs.Common.{◌≡◌, true, true≢false, sym, refl, Option, Some, None}
use Rattle.std.proofs.Crossing as heap
use Rattle.std.specs.Prelude.{is_some}
use Rattle.std_alloc.proofs.SendSync.{lies}
use Rattle.cmsproof_c.specs.Kept.{kept_owns}

pub kept_is : {T : Type 0} (k : Option T) → is_some k ≡ true → (x : T) × (k ≡ Some x)
kept_is (Some x) e = (x, refl)
kept_is None e = absurd (true≢false (sym e))

pub kept_keyless : (R : RattleType) → IsSend R → (at : Ptr) (kept : Option R.Denot) → Keyless (kept_owns R at kept)
kept_keyless R send at None = tt
kept_keyless R send at (Some list) =
    (lies R send at list, heap.frees.frees (record { memory = record { seal = tt } }) (raw (lone R.mir)) at)
