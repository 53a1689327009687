use Rattle.std.proofs.Common.{arith}
use Rattle.std.proofs.lemmas.Grind.{common_steps}
use Rattle.cms_stream.proofs.Versions.{version_passed}
use Rattle.cms_stream.proofs.reader.Reader.version.Goals as goal

pub returns-in-Err : goal.returns-in-Err
returns-in-Err g c = record {
  exact = version_passed g.S.Source c.look.new.self c.look.new.source _ _ c.args.allowed.now c.args.end
      c.in_ok-look.ensures.asks c.in_ok-look.ensures.looked c.bytes.ensures.octets c.in_ok-pour.ensures.passes
      c.in-Err.ensures;
  telling = grind (arith, common_steps);
  at = grind (arith, common_steps);
  moved = grind (arith, common_steps);
}

pub returns-in-Ok : goal.returns-in-Ok
returns-in-Ok g c = record {
  exact = version_passed g.S.Source c.look.new.self c.look.new.source _ _ c.args.allowed.now c.args.end
      c.in_ok-look.ensures.asks c.in_ok-look.ensures.looked c.bytes.ensures.octets c.in_ok-pour.ensures.passes
      c.in-Ok.ensures;
  telling = grind (arith, common_steps);
  at = grind (arith, common_steps);
  moved = grind (arith, common_steps);
}
