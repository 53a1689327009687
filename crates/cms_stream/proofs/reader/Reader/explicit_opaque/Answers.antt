use Rattle.std.proofs.Common.{◌∙◌, arith}
use Rattle.std.proofs.lemmas.Grind.{common_steps}
use Rattle.cms_stream.proofs.Sequences.{found_at, opaque_is}
use Rattle.cms_stream.proofs.reader.Reader.explicit_opaque.Goals as goal

pub returns : goal.returns
returns g c = record {
  exact =
      let o = c.in_ok-opaque.ensures in
      let d = c.in_ok-ended.ensures in (
        d.exact.0 ∙ o.exact.0,
        λ t. let (element, is, rest) = o.exact.1 t in
            (element.0, opaque_is _ _ element.0 (found_at _ element _ is rest) (d.exact.1 (o.telling t)), tt),
      );
  telling = grind (arith, common_steps);
  at = grind (arith, common_steps);
  moved = grind (arith, common_steps);
}
