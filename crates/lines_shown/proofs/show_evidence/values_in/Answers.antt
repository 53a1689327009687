use Rattle.std.proofs.Common.{arith}
use Rattle.std.proofs.lemmas.Grind.{common_steps}
use Rattle.lines_shown.proofs.Values.{values_below}
use Rattle.lines_shown.proofs.show_evidence.values_in.Goals as goal

pub overflow_add-count : goal.overflow_add-count
overflow_add-count c = grind (arith, common_steps, values_below _ c.requires, c.loop-list.invariant, c.in-Some.ensures)
