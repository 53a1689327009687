use Rattle.std.proofs.Common.{rules, arith}
use Rattle.std.proofs.lemmas.Grind.{common_steps}
use Rattle.cms_stream.proofs.Heading.{stated_there}
use Rattle.cms_stream.proofs.header.stated.Goals as goal

pub returns : goal.returns
returns c = record {
  gives = first_of (search rules, grind (arith, common_steps));
  there =
      stated_there c.args.at c.args.octets.now c.in_ok-len.len (λ i. (c.type_inv.octets i).fits) c.in_ok-len.ensures;
}
