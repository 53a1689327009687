use Rattle.std.proofs.Common.{◌∙◌, ℕ, List, None, refl, sym, subst, append-nil, arith}
use Rattle.std.proofs.lemmas.Grind.{common_steps}
use Rattle.cms_stream_laws.specs.OpenReading.{last_openly}
use Rattle.cms_stream_laws.specs.OpenContentInfo.{explicit_octets_openly}
use Rattle.cms_stream.specs.Passing.{Gained, body_to}
use Rattle.cms_stream.specs.Readers.{seen}
use Rattle.cms_stream.proofs.Moments.{optional_read}
use Rattle.cms_stream.proofs.Standing.{last_stands, last_missed}
use Rattle.cms_stream.proofs.reader.Reader.content.Goals as goal

pub returns-then-not-branch : goal.returns-then-not-branch
returns-then-not-branch g c = record {
  exact =
      let p = c.in_ok-has_tag.ensures in
      let a = c.in_ok-absent.ensures in (
        a.exact.0 ∙ p.exact.0,
        λ t. (
          (None, body_to c.args.end (seen c.absent.new.self (g.S.Source.rest c.absent.new.source))),
          last_missed 0xa0 explicit_octets_openly c.args.end c.in_ok-has_tag.field-0 _ _ _ _
              (p.exact.1 t) c.if-not-branch.true (p.moved t)
              (a.exact.1 (p.telling t)) (a.moved (p.telling t)),
          (
            (refl, λ m held. subst (λ (xs : List ℕ). g.K.Taker.held c.args.taker.now xs) (sym (append-nil m)) held),
            refl,
          ),
        ),
      );
  telling = grind (arith, common_steps);
  at = grind (arith, common_steps);
  moved = grind (arith, common_steps);
}

pub returns : goal.returns
returns g c =
    let b = c.in_ok-explicit_octets.ensures in
    optional_read 0xa0 explicit_octets_openly (last_openly 0xa0 explicit_octets_openly)
    (last_stands 0xa0 explicit_octets_openly) c.args.end c.in_ok-inner.inner _ _ _ _ c.in_ok-has_tag.ensures
    c.if-not-branch.false c.in_ok-inner.ensures
    {Z = Unit {0}} {z = tt} {Q = Gained g.K.Taker c.args.taker.now c.explicit_octets.new.taker}
    (record {
      exact = (b.exact.1.0, λ t. (b.exact.0, b.exact.1.1 t, b.exact.2 t));
      telling = b.telling;
      at = b.at;
      moved = b.moved;
    })
    (λ y gained. ((y, refl, gained), refl))
