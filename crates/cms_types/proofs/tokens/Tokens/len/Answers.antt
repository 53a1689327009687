use Rattle.std.proofs.Common.{length, arith, ap}
use Rattle.cms_types.proofs.FewerTokens.{fewer_in_all}
use Rattle.cms_types.proofs.tokens.Tokens.len.Goals as goal

pub loop-first-init : goal.loop-first-init
loop-first-init c =
    record {
      counted = omega (arith, ap length c.again-left.ensures);
      room = omega (
        arith,
        fewer_in_all c.self.inside.current c.self.inside.left c.bytes.ensures.each c.bytes-2.ensures.each,
        ap length c.bytes.ensures.joined,
        ap length c.bytes-2.ensures.joined,
        ap length c.self.view_is,
      );
    }
