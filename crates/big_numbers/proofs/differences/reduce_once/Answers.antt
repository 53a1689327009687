use Rattle.std.proofs.Common.{◌^◌, length, inl, inr, arith}
use Rattle.std.proofs.lemmas.Bool.{cases_lt, iff_false}
use Rattle.big_numbers.specs.Numbers.{value}
use Rattle.big_numbers.proofs.Values.{value_below}
use Rattle.big_numbers.proofs.DifferenceSteps.{rest_after}
use Rattle.big_numbers.proofs.differences.reduce_once.Goals as goal
use Rattle.big_numbers.proofs.differences.reduce_once.Goals.{then-top-ne0-via-then-top-ne0}
use Rattle.big_numbers.proofs.differences.reduce_once.Goals.{then-top-ne0-via-else-top-ne0+then-not-is_less}

pub returns-then-top-ne0 : goal.returns-then-top-ne0
returns-then-top-ne0 c =
    rest_after (value c.args.t.now) ((2 ^ 64) ^ length c.args.t.now) c.args.top (value c.args.n.now)
    (value c.subtract-larger.new.t)
    c.subtract-larger.result
    (value_below c.subtract-larger.new.t (length c.args.t.now) c.subtract-larger.auto.t (λ k. (c.type_inv.t k).fits))
    (value_below c.args.n.now (length c.args.t.now) c.requires.length (λ k. (c.type_inv.n k).fits))
    c.requires.below
    (elim c.then-top-ne0.branch [
      | then-top-ne0-via-then-top-ne0 w ↦ inl (omega arith)
      | then-top-ne0-via-else-top-ne0+then-not-is_less w ↦
          inr (elim (cases_lt (value c.args.t.now) (value c.args.n.now)) [
            | inl l ↦ absurd (iff_false w.is_less.ensures w.if-not-is_less.true l)
            | inr h ↦ h
          ])
    ])
    c.subtract-larger.ensures
