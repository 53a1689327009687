use Rattle.std.proofs.Common.{rules, ◌-◌, length, arith}
use Rattle.std.proofs.lemmas.Grind.{common_steps}
use Rattle.cms_stream.proofs.Windowing.{brought}
use Rattle.cms_stream.proofs.window.bring.Goals as goal

pub returns : goal.returns
returns g c = record {
  size = first_of (search rules, grind (arith, common_steps));
  front = first_of (search rules, grind (arith, common_steps));
  bound = first_of (search rules, grind (arith, common_steps));
  count = first_of (search rules, grind (arith, common_steps));
  telling = first_of (search rules, grind (arith, common_steps));
  same = λ t. brought c.args.len
      (length c.args.octets.now - c.args.len) c.in_ok-count.count _ c.args.octets.now c.fill.new.buf _ _ c.requires
      c.in_ok-count.ensures.bound (c.in_ok-count.ensures.handed t);
  end = first_of (search rules, grind (arith, common_steps));
}
