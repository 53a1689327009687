use Rattle.std.proofs.Common.{rules, ◌∙◌, refl, arith}
use Rattle.std.proofs.lemmas.Grind.{common_steps}
use Rattle.cms_types.specs.SignedDataValue.{SignedContent, OtherContent}
use Rattle.cms_stream.proofs.Sequences.{found_at, signed_content_at, other_content_at}
use Rattle.cms_stream.proofs.reader.Reader.content_info.Goals as goal

pub returns-then-not-branch : goal.returns-then-not-branch
returns-then-not-branch g c = record {
  finds = record {
    exact =
        let n = c.in_ok-next_type.ensures in
        let o = c.in_ok-other_content.ensures in (
          o.exact.0 ∙ n.exact.0,
          λ t.
              let (type, is, (other, rest)) = n.exact.1 t in
              let (content, reads, _) = o.exact.1 (n.telling t) in (
                OtherContent type.0 content,
                other_content_at _ _ type.0 content (found_at _ type _ is rest) (other ∙ c.if-not-branch.true) reads,
                (type.0, content, refl),
              ),
        );
    telling = grind (arith, common_steps);
    at = grind (arith, common_steps);
    moved = grind (arith, common_steps);
  };
  room = first_of (search rules, grind (arith, common_steps));
}

pub returns : goal.returns
returns g c = record {
  finds = record {
    exact =
        let n = c.in_ok-next_type.ensures in
        let o = c.in_ok-opened.ensures.finds in (
          o.exact.0 ∙ n.exact.0,
          λ t.
              let (type, is, (signed, rest)) = n.exact.1 t in
              let (value, reads, opened) = o.exact.1 (n.telling t) in (
                SignedContent value,
                signed_content_at _ _ type.0 value (found_at _ type _ is rest) (signed ∙ c.if-not-branch.false) reads,
                (value, refl, opened),
              ),
        );
    telling = grind (arith, common_steps);
    at = grind (arith, common_steps);
    moved = grind (arith, common_steps);
  };
  room = first_of (search rules, grind (arith, common_steps));
}
