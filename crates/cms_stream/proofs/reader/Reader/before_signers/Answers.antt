use Rattle.std.proofs.Common.{rules, ◌∙◌, refl, arith}
use Rattle.std.proofs.lemmas.Grind.{common_steps}
use Rattle.cms_stream.specs.Passing.{body_to}
use Rattle.cms_stream.specs.Readers.{seen}
use Rattle.cms_stream.proofs.Listing.{moved_on}
use Rattle.cms_stream.proofs.Sequences.{found_at, head_at}
use Rattle.cms_stream.proofs.reader.Reader.before_signers.Goals as goal

pub returns : goal.returns
returns g c = record {
  finds = record {
    exact =
        let a = c.in_ok-before_content.ensures in
        let b = c.in_ok-found.ensures.finds in
        let d = c.in_ok-choices.ensures in
        let e = c.in_ok-choices-2.ensures in (
          e.exact.0 ∙ d.exact.0 ∙ b.exact.0 ∙ a.exact.0,
          λ t.
              let t1 = a.telling t in
              let t2 = b.telling t1 in
              let t3 = d.telling t2 in
              let (head, reads_head, (_, after_head)) = a.exact.1 t in
              let (content, reads_content, (kept, after_content)) = b.exact.1 t1 in
              let (certificates, reads_certificates, after_certificates) = d.exact.1 t2 in
              let (crls, reads_crls, after_crls) = e.exact.1 t3 in
              let v =
              body_to c.args.end (seen c.before_content.new.self (g.S.Source.rest c.before_content.new.source)) in
              let w = body_to c.args.end (seen c.choices-2.new.self (g.S.Source.rest c.choices-2.new.source)) in
              let first = found_at _ head v reads_head after_head in (
                ((head.0.0, (head.0.1, (content.0, (certificates.0, crls.0)))), w),
                head_at _ w head.0 content.0 certificates.0 crls.0
                    (record {
                      after = _;
                      first = first;
                      behind = _;
                      second = found_at _ content _ reads_content after_content;
                      last = _;
                      third = found_at _ certificates _ reads_certificates after_certificates;
                      fourth = found_at _ crls _ reads_crls after_crls;
                    }),
                (kept, refl),
              ),
        );
    telling = grind (arith, common_steps);
    at = grind (arith, common_steps);
    moved = λ t.
        let a = c.in_ok-before_content.ensures in
        let b = c.in_ok-found.ensures.finds in
        let d = c.in_ok-choices.ensures in
        let e = c.in_ok-choices-2.ensures in
        let t1 = a.telling t in
        let t2 = b.telling t1 in
        moved_on _ _ _ _ _ (moved_on _ _ _ _ _
        (moved_on _ _ _ _ _ (a.moved t) (b.moved t1) (omega (arith, a.at.0)) (omega (arith, b.at.0))) (d.moved t2)
        (omega (arith, a.at.0, b.at.0)) d.at.0) (e.moved (d.telling t2)) (omega (arith, a.at.0, b.at.0, d.at.0)) e.at.0;
  };
  room = first_of (search rules, grind (arith, common_steps));
  states = first_of (search rules, grind (arith, common_steps));
  size = first_of (search rules, grind (arith, common_steps));
}
