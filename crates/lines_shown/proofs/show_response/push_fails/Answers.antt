use Rattle.std.proofs.Common.{arith}
use Rattle.lines_shown.proofs.Bits.{more_bits}
use Rattle.lines_shown.proofs.show_response.push_fails.Goals as goal

pub loop-bit-preserved : goal.loop-bit-preserved
loop-bit-preserved c = record {
  within = omega (arith, c.loop-bit-test.true);
  lines = more_bits _ _ _ _ _ _ c.loop-bit-test.true c.in_ok-push_set.ensures c.loop-bit.invariant.lines;
}
