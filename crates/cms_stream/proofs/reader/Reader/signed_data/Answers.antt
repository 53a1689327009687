use Rattle.std.proofs.Common.{rules, ◌∙◌, List, ℕ, ap, sym, take, arith}
use Rattle.std.proofs.lemmas.Grind.{common_steps}
use Rattle.std.proofs.lemmas.List.{take-take}
use Rattle.cms_stream.specs.Opening.{OpenedValue}
use Rattle.cms_stream.specs.Passing.{Gains}
use Rattle.cms_stream.specs.Stages.{encapsulated_of, signed_from}
use Rattle.cms_stream.proofs.Sequences.{found_at, signed_at, carried}
use Rattle.cms_stream.proofs.reader.Reader.signed_data.Goals as goal

pub returns : goal.returns
returns g c = record {
  finds = record {
    exact =
        let b = c.in_ok-count.ensures.finds in
        let s = c.in_ok-signers.ensures.finds in
        let d = c.in_ok-ended.ensures in (
          d.exact.0 ∙ s.exact.0 ∙ b.exact.0,
          λ t.
              let t1 = b.telling t in
              let (head, reads_head, ((kept, carries), after_head)) = b.exact.1 t in
              let (signers, reads_signers, (same, after_signers)) = s.exact.1 t1 in (
                signed_from head.0 signers.0,
                signed_at _ _ _ head.0 signers.0 (found_at _ head _ reads_head after_head)
                    (found_at _ signers _ reads_signers after_signers)
                    (d.exact.1 (s.telling t1)),
                (
                  ap (λ (o : OpenedValue). o.content_type) c.new.ensures
                      ∙ ap (λ (xs : List ℕ). take c.in_ok-count.count xs) c.split_at_mut-front.ensures.front
                      ∙ take-take c.in_ok-count.count c.whole.result c.before_signers.new.room
                      (omega (arith, c.whole.ensures)) ∙ sym kept,
                  ap (λ (o : OpenedValue). o.signers) c.new.ensures ∙ sym same,
                  carried (Gains (g.K.Taker.held c.args.taker.now) (g.K.Taker.held c.before_signers.new.taker)) _ _
                      (encapsulated_of head.0).content
                      (ap (λ (o : OpenedValue). o.attached) c.new.ensures) carries,
                ),
              ),
        );
    telling = grind (arith, common_steps);
    at = grind (arith, common_steps);
    moved = grind (arith, common_steps);
  };
  room = first_of (search rules, grind (arith, common_steps));
}
