use Rattle.std.proofs.Common.{rules, ◌∙◌, arith}
use Rattle.std.proofs.lemmas.Grind.{common_steps}
use Rattle.cms_stream.specs.Passing.{body_to}
use Rattle.cms_stream.specs.Readers.{seen}
use Rattle.cms_stream.proofs.Sequences.{found_at, encapsulated_is}
use Rattle.cms_stream.proofs.reader.Reader.encapsulated.Goals as goal

pub returns : goal.returns
returns g c = record {
  finds = record {
    exact =
        let e = c.in_ok-count.ensures.finds in
        let f = c.in_ok-present.ensures in
        let d = c.in_ok-ended.ensures in (
          d.exact.0 ∙ f.exact.0 ∙ e.exact.0,
          λ t.
              let (id, reads, (kept, behind)) = e.exact.1 t in
              let (content, is, (carried, rest)) = f.exact.1 (e.telling t) in (
                record { content_type = id.0; content = content.0 },
                encapsulated_is _ _ _ id.0 content.0
                    (found_at _ id (body_to c.args.end
                    (seen c.content_type.new.self (g.S.Source.rest c.content_type.new.source))) reads behind)
                    (found_at _ content
                    (body_to c.args.end (seen c.content.new.self (g.S.Source.rest c.content.new.source))) is rest)
                    (d.exact.1 (f.telling (e.telling t))),
                (kept, carried),
              ),
        );
    telling = grind (arith, common_steps);
    at = grind (arith, common_steps);
    moved = grind (arith, common_steps);
  };
  room = first_of (search rules, grind (arith, common_steps));
  states = first_of (search rules, grind (arith, common_steps));
  size = first_of (search rules, grind (arith, common_steps));
}
