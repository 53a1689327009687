use Rattle.std.proofs.Common.{◌+◌, ◌≢◌, get_or-set_other, ◌∙◌, arith}
use Rattle.big_numbers.proofs.RowSteps.{row_goes_on}
use Rattle.big_numbers.proofs.rows.add_word.Goals as goal

pub returns : goal.returns
returns c = λ u l row. record {
  sum = row_goes_on c.args.t.now u c.args.b.now c.args.n.now c.args.j c.args.word c.args.m c.args.carries.0
      c.args.carries.1
      c.carrying_mul_add-sum.result.0 c.carrying_mul_add-sum.result.1
      c.carrying_mul_add-total.result.0 c.carrying_mul_add-total.result.1
      (omega arith) (omega arith) (omega arith) (omega arith) row.sum
      (rw (row.rest (c.args.j + 1) (omega arith)) at c.carrying_mul_add-sum.ensures)
      c.carrying_mul_add-total.ensures;
  rest = λ k h.
      let ne : k ≢ c.args.j = omega arith in
      get_or-set_other c.args.t.now c.args.j k c.carrying_mul_add-total.result.0 0 ne ∙ row.rest k (omega arith);
}
