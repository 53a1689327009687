use Rattle.std.proofs.Common.{◌≢◌, get_or-set_other, ◌∙◌, arith}
use Rattle.std.specs.Int.{from_bool}
use Rattle.big_numbers.proofs.DifferenceSteps.{difference_goes_on}
use Rattle.big_numbers.proofs.differences.subtract.Goals as goal

pub words-preserved : goal.words-preserved
words-preserved c = record {
  difference = difference_goes_on c.words.t c.args.t.now c.args.n.now c.words.i (from_bool c.words.borrow)
      (from_bool c.borrowing_sub-word.result.1) c.borrowing_sub-word.result.0
      c.words-test.true c.words.auto.t c.requires c.words.invariant.difference
      (rw (c.words.invariant.rest c.words.i (omega arith)) at c.borrowing_sub-word.ensures);
  rest = λ k h.
      let ne : k ≢ c.words.i = omega arith in
      get_or-set_other c.words.t c.words.i k c.borrowing_sub-word.result.0 0 ne
      ∙ c.words.invariant.rest k (omega arith);
}
