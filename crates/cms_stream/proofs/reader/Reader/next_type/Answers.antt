use Rattle.std.proofs.Common.{◌∙◌, refl, arith}
use Rattle.std.proofs.lemmas.Grind.{common_steps}
use Rattle.der_core.specs.Reading.{oid_in}
use Rattle.cms_stream_laws.specs.OpenReading.{body_of, kept}
use Rattle.cms_stream.specs.Passing.{body_to}
use Rattle.cms_stream.specs.Readers.{seen}
use Rattle.cms_stream.proofs.Standing.{within_at}
use Rattle.cms_stream.proofs.reader.Reader.next_type.Goals as goal

pub returns : goal.returns
returns g c = record {
  exact =
      let e = c.in_ok-inner.ensures in
      let o = c.in_ok-signed.ensures in (
        o.passes.exact.0 ∙ e.exact.0,
        λ t. (
          (
            body_of (body_to c.in_ok-inner.inner (seen c.enter.new.self (g.S.Source.rest c.enter.new.source))),
            body_to c.args.end
                (seen c.type_of.new.self (g.S.Source.rest c.type_of.new.source)),
          ),
          within_at 0x06 (kept oid_in) c.args.end c.in_ok-inner.inner _ _ _ _ (e.exact.1 t)
              (o.passes.exact.1 (e.telling t)) (o.passes.moved (e.telling t)),
          (o.signed (e.telling t), refl),
        ),
      );
  telling = grind (arith, common_steps);
  at = grind (arith, common_steps);
  moved = grind (arith, common_steps);
}
