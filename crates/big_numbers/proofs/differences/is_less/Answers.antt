use Rattle.std.proofs.Common.{IsTrue}
use Rattle.big_numbers.proofs.DifferenceSteps.{less_goes_on}
use Rattle.big_numbers.proofs.differences.is_less.Goals as goal

pub words-preserved : goal.words-preserved
words-preserved c =
    less_goes_on c.args.a.now c.args.b.now c.words.i (IsTrue c.words.less)
    (IsTrue c.is_less_with-less.result) c.words-test.true c.requires
    (λ k. (c.type_inv.a k).fits) (λ k. (c.type_inv.b k).fits) c.words.invariant c.is_less_with-less.ensures
