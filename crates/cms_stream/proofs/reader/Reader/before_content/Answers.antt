use Rattle.std.proofs.Common.{◌∙◌, [], ◌∷◌, refl, arith}
use Rattle.std.proofs.lemmas.Grind.{common_steps}
use Rattle.der_core.specs.Reading.{version_in}
use Rattle.cms_stream_laws.specs.OpenReading.{within_openly, kept}
use Rattle.cms_stream_laws.specs.OpenContentInfo.{algorithms_openly}
use Rattle.cms_stream.specs.Passing.{body_to}
use Rattle.cms_stream.specs.Readers.{seen}
use Rattle.cms_stream.proofs.Sequences.{then_at}
use Rattle.cms_stream.proofs.Standing.{within_at}
use Rattle.cms_stream.proofs.reader.Reader.before_content.Goals as goal

pub returns : goal.returns
returns g c = record {
  exact =
      let e = c.in_ok-inside.ensures in
      let v = c.in_ok-version.ensures in
      let f = c.in_ok-inner.ensures in
      let a = c.in_ok-algorithms.ensures in (
        a.exact.0 ∙ f.exact.0 ∙ v.exact.0 ∙ e.exact.0,
        λ t.
            let t1 = e.telling t in
            let t2 = v.telling t1 in
            let t3 = f.telling t2 in
            let y = a.exact.1 t3 in (
              (
                (c.in_ok-version.version ∷ [], y.0),
                body_to c.args.end (seen c.algorithms.new.self (g.S.Source.rest c.algorithms.new.source)),
              ),
              then_at (within_openly 0x02 (kept (version_in (1 ∷ 3 ∷ 4 ∷ 5 ∷ []))))
                  (within_openly 0x31 (λ w. algorithms_openly w)) _ _ _ _ _
                  (within_at 0x02 (kept (version_in (1 ∷ 3 ∷ 4 ∷ 5 ∷ []))) c.args.end c.in_ok-inside.inside _ _ _ _
                  (e.exact.1 t) (v.exact.1 t1) (v.moved t1))
                  (within_at 0x31 (λ w. algorithms_openly w) c.args.end c.in_ok-inner.inner _ _ _ _ (f.exact.1 t2) y.1
                  (a.moved t3)),
              (refl, refl),
            ),
      );
  telling = grind (arith, common_steps);
  at = grind (arith, common_steps);
  moved = grind (arith, common_steps);
}
