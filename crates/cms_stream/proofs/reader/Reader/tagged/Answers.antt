use Rattle.std.proofs.Common.{◌≡◌, ◌∙◌, ℕ, List, refl, ap, sym, arith, Err}
use Rattle.std.proofs.lemmas.Grind.{common_steps}
use Rattle.der_core.specs.Reading.{Spot}
use Rattle.cms_stream_laws.specs.OpenReading.{OpenSpot, opaque_openly}
use Rattle.cms_stream.specs.Passing.{body_to}
use Rattle.cms_stream.specs.Readers.{seen}
use Rattle.cms_stream.specs.Calls.{moment}
use Rattle.cms_stream.proofs.Moments.{hands_on, hands_over}
use Rattle.cms_stream.proofs.Opaques.{tagged_found, tagged_not, tagged_fails}
use Rattle.cms_stream.proofs.reader.Reader.tagged.Goals as goal

pub returns-in_err-tag_fits : goal.returns-in_err-tag_fits
returns-in_err-tag_fits g c =
    let a = moment g.S.Source c.args.self.now c.args.source.now in
    let d = moment g.S.Source c.tag_fits.new.self c.tag_fits.new.source in
    let w : OpenSpot = body_to c.args.end a.place in
    let e = c.in_err-tag_fits.ensures in
    let is : c.from_residual.result ≡ Err c.in_err-tag_fits.field-0.0 = grind (arith, common_steps) in
    rw is (hands_over {Y = Unit {0}} {W = List ℕ × OpenSpot} a a d
    (record { tells = λ t. t; same = refl; faults = λ f t p. tagged_not c.args.tags.now w f p }) {X = Unit {0}}
    {Z = Unit {0}} (λ u. u) (λ x y. y.1 ≡ body_to c.args.end d.place) c.in_err-tag_fits.field-0.0 e.telling e.exact)

pub returns-in_err-opaque : goal.returns-in_err-opaque
returns-in_err-opaque g c =
    let a = moment g.S.Source c.args.self.now c.args.source.now in
    let b = moment g.S.Source c.tag_fits.new.self c.tag_fits.new.source in
    let d = moment g.S.Source c.opaque.new.self c.opaque.new.source in
    let e = c.in_ok-tag_fits.ensures in
    let o = c.in_err-opaque.ensures in
    let is : c.from_residual-in_err-opaque.result ≡ Err c.in_err-opaque.field-0.0 = grind (arith, common_steps) in
    rw is (hands_on {Y = List ℕ × OpenSpot} {W = List ℕ × OpenSpot} a b d
    (record {
      tells = e.telling;
      same = e.exact.0;
      faults = λ f t p. tagged_fails c.args.tags.now (body_to c.args.end a.place) _ f (e.exact.1 t)
          (ap (λ (s : Spot). opaque_openly (body_to c.args.end s)) (sym (e.moved t)) ∙ p);
    })
    {X = Unit {0}} {Z = Unit {0}} (λ x y. y.1 ≡ body_to c.args.end d.place)
    (λ x y. y.1 ≡ body_to c.args.end d.place) c.in_err-opaque.field-0.0 (λ t l. l) o.telling o.exact)

pub returns : goal.returns
returns g c = record {
  exact =
      let w : OpenSpot = body_to c.args.end (seen c.args.self.now (g.S.Source.rest c.args.source.now)) in
      let e = c.in_ok-tag_fits.ensures in
      let o = c.in_ok-opaque.ensures in (
        o.exact.0 ∙ e.exact.0,
        λ t. let y = o.exact.1
            (e.telling t) in (
              y.0,
              tagged_found c.args.tags.now w _ y.0 (e.exact.1 t)
                  (ap (λ (s : Spot). opaque_openly (body_to c.args.end s)) (sym (e.moved t)) ∙ y.1),
              y.2,
            ),
      );
  telling = grind (arith, common_steps);
  at = grind (arith, common_steps);
  moved = grind (arith, common_steps);
}
