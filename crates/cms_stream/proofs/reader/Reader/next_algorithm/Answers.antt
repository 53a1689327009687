use Rattle.std.proofs.Common.{◌∙◌, refl, arith}
use Rattle.std.proofs.lemmas.Grind.{common_steps}
use Rattle.cms_stream_laws.specs.OpenContentInfo.{algorithm_openly}
use Rattle.cms_stream.specs.Passing.{body_to}
use Rattle.cms_stream.specs.Readers.{seen}
use Rattle.cms_stream.proofs.Standing.{within_at}
use Rattle.cms_stream.proofs.reader.Reader.next_algorithm.Goals as goal

pub returns : goal.returns
returns g c = record {
  exact =
      let e = c.in_ok-inner.ensures in
      let o = c.in_ok-algorithm.ensures in (
        o.exact.0 ∙ e.exact.0,
        λ t.
            let y = o.exact.1 (e.telling t) in (
              (y.0, body_to c.args.end (seen c.algorithm.new.self (g.S.Source.rest c.algorithm.new.source))),
              within_at 0x30 algorithm_openly c.args.end c.in_ok-inner.inner _ _ _ _ (e.exact.1 t) y.1
                  (o.moved (e.telling t)),
              refl,
            ),
      );
  telling = grind (arith, common_steps);
  at = grind (arith, common_steps);
  moved = grind (arith, common_steps);
}
