use Rattle.std.proofs.Common.{◌≡◌, ℕ, ◌-◌, ◌*◌, ◌%◌, ◌^◌, length, refl, ◌∙◌, arith, rules}
use Rattle.std.proofs.Math.Nat.{mod-lt}
use Rattle.big_numbers.proofs.RowSteps.{row_begins, row_ends}
use Rattle.big_numbers.proofs.rows.add_row.Goals as goal

pub fours-init : goal.fours-init
fours-init c = record {
  sum = row_begins c.args.t.now c.args.b.now c.args.n.now c.args.word c.args.inverse
      c.carrying_mul_add-low.result.0 c.carrying_mul_add-low.result.1
      c.carrying_mul_add-zero.result.0 c.carrying_mul_add-zero.result.1
      c.requires.some c.requires.b c.requires.n c.requires.inverse
      c.carrying_mul_add-low.ensures c.carrying_mul_add-zero.ensures (search rules);
  rest = λ k h. refl;
}

pub returns : goal.returns
returns c =
    let m : ℕ = (c.carrying_mul_add-low.result.0 * c.args.inverse) % 2 ^ 64 in (
      m,
      mod-lt (c.carrying_mul_add-low.result.0 * c.args.inverse) (omega arith),
      row_ends c.words.t c.args.t.now c.args.b.now c.args.n.now
          (length c.args.t.now - 1) c.args.word m c.words.carries.0 c.words.carries.1
          c.args.top (omega arith) (c.words.auto.t ∙ c.fours.auto.t) c.requires.b c.requires.n
          (let e : c.words.j ≡ length c.args.t.now - 1 = omega arith in rw e at c.words.invariant.sum),
    )
