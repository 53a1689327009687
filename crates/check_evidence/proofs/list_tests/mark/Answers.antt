use Rattle.std.proofs.Common.{arith}
use Rattle.check_evidence.proofs.Marking.{one_marked}
use Rattle.check_evidence.proofs.list_tests.mark.Goals as goal

pub returns-then-place-lt-MARKS : goal.returns-then-place-lt-MARKS
returns-then-place-lt-MARKS c = λ due among old. one_marked due c.args.values.now c.args.marks.now c.in-Some.place
    c.args.value.now (omega arith) c.in-Some.ensures.place.1 among old
