use Rattle.std.proofs.Common.{◌*◌, ◌∙◌, arith}
use Rattle.std.proofs.Math.Nat.{mod-lt}
use Rattle.big_numbers.specs.Numbers.{value}
use Rattle.big_numbers.proofs.DoublingSteps.{once_more}
use Rattle.big_numbers.proofs.doublings.double_often.Goals as goal

pub times-preserved : goal.times-preserved
times-preserved c = record {
  below = rw c.double.ensures (mod-lt (2 * value c.times.x) (omega arith));
  doubled = c.double.ensures
      ∙ once_more (value c.args.n.now) (value c.times.x) (value c.args.x.now) c.times._done c.times.invariant.doubled;
}
