use Rattle.std.proofs.Common.{◌∙◌, [], arith}
use Rattle.std.proofs.lemmas.Grind.{common_steps}
use Rattle.cms_stream_laws.specs.OpenReading.{OpenSpot, body_of}
use Rattle.cms_stream.specs.Passing.{body_to}
use Rattle.cms_stream.specs.Readers.{seen}
use Rattle.cms_stream.proofs.Keeping.{oid_passes, oid_fails}
use Rattle.cms_stream.proofs.reader.Reader.type_of.Goals as goal

pub returns-then-not-is_whole-clause-passes : goal.returns-then-not-is_whole-clause-passes
returns-then-not-is_whole-clause-passes g c = record {
  exact =
      let w : OpenSpot = body_to c.args.end (seen c.args.self.now (g.S.Source.rest c.args.source.now)) in
      let p = c.in_ok-pour.ensures in
      let n = c.new-test.ensures in (
        p.passes.exact.0,
        λ t. rw c.new.ensures
            (oid_fails w _ (p.passes.exact.1 t)
            (c.is_whole.ensures.whole (body_of w) (p.taken t [] (n.oid, n.signed_data)).0 ∙ c.if-not-is_whole.true)),
      );
  telling = grind (arith, common_steps);
  at = grind (arith, common_steps);
  moved = grind (arith, common_steps);
}

pub returns-clause-passes : goal.returns-clause-passes
returns-clause-passes g c = record {
  exact =
      let w : OpenSpot = body_to c.args.end (seen c.args.self.now (g.S.Source.rest c.args.source.now)) in
      let p = c.in_ok-pour.ensures in
      let n = c.new-test.ensures in (
        p.passes.exact.0,
        λ t. oid_passes w _ (p.passes.exact.1 t)
            (c.is_whole.ensures.whole (body_of w) (p.taken t [] (n.oid, n.signed_data)).0 ∙ c.if-not-is_whole.false),
      );
  telling = grind (arith, common_steps);
  at = grind (arith, common_steps);
  moved = grind (arith, common_steps);
}

pub returns-clause-signed : goal.returns-clause-signed
returns-clause-signed g c t =
    let w : OpenSpot = body_to c.args.end (seen c.args.self.now (g.S.Source.rest c.args.source.now)) in
    let n = c.new-test.ensures in
    c.is_whole-2.ensures (body_of w) (c.in_ok-pour.ensures.taken t [] (n.oid, n.signed_data)).1
