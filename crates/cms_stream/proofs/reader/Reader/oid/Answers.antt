use Rattle.std.proofs.Common.{◌∙◌, [], arith}
use Rattle.std.proofs.lemmas.Grind.{common_steps}
use Rattle.cms_stream_laws.specs.OpenReading.{OpenSpot, body_of}
use Rattle.cms_stream.specs.Passing.{body_to}
use Rattle.cms_stream.specs.Readers.{seen}
use Rattle.cms_stream.proofs.Keeping.{oid_passes, oid_fails}
use Rattle.cms_stream.proofs.reader.Reader.oid.Goals as goal

pub returns-then-not-is_whole : goal.returns-then-not-is_whole
returns-then-not-is_whole g c = record {
  exact =
      let w : OpenSpot = body_to c.args.end (seen c.args.self.now (g.S.Source.rest c.args.source.now)) in
      let p = c.in_ok-pour.ensures in (
        p.passes.exact.0,
        λ t. rw c.new.ensures
            (oid_fails w _ (p.passes.exact.1 t)
            (c.is_whole.ensures.whole (body_of w) (p.taken t [] c.new-test.ensures) ∙ c.if-not-is_whole.true)),
      );
  telling = grind (arith, common_steps);
  at = grind (arith, common_steps);
  moved = grind (arith, common_steps);
}

pub returns : goal.returns
returns g c = record {
  exact =
      let w : OpenSpot = body_to c.args.end (seen c.args.self.now (g.S.Source.rest c.args.source.now)) in
      let p = c.in_ok-pour.ensures in (
        p.passes.exact.0,
        λ t. oid_passes w _ (p.passes.exact.1 t)
            (c.is_whole.ensures.whole (body_of w) (p.taken t [] c.new-test.ensures) ∙ c.if-not-is_whole.false),
      );
  telling = grind (arith, common_steps);
  at = grind (arith, common_steps);
  moved = grind (arith, common_steps);
}
