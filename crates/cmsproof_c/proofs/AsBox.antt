-- A box at these types, and what its parts own, which the seal of it owns too.
use mir.Syntax.{impl, tnil, dnil}
use mathlib.Core.List.{[]}
use denote.RattleType.{RattleType}
use denote.Param.Laws.{Laws}
use denote.Signature.{Slot, plain}
use Rattle.std_alloc.proofs.BoxSteps.Form.{Bx}
use Rattle.std_heap.specs.contracts.Global as Heap
use Rattle.std_heap.specs.contracts.GlobalAllocator.TheImpl.{ghosts, dict}
use Rattle.std_heap.proofs.Global.TheLaws as heap
use Rattle.cmsproof_c.specs.contracts.parts.Parts as Parts

abbrev pub boxed : (R : RattleType) → Laws R → Bx
boxed R laws = record {
  row = R;
  laws = laws;
  al = record { row = Heap.the_row; laws = heap.the_row_laws; g = ghosts; d = dict; drops = impl [] tnil dnil };
}

abbrev pub FromParts : RattleType → Slot 0
FromParts R = plain (λ _. Parts.the_row R Heap.the_row ghosts)

abbrev pub FromHeap : Slot 0
FromHeap = plain (λ _. Heap.the_row)
