use Rattle.std.proofs.Common.{◌≡◌, ◌<◌, ℕ, List, Option, Some, None, refl, arith, Err}
use Rattle.std.proofs.lemmas.Grind.{common_steps}
use Rattle.cms_stream_laws.specs.OpenReading.{OpenSpot}
use Rattle.cms_stream.specs.Passing.{body_to}
use Rattle.cms_stream.specs.Readers.{seen}
use Rattle.cms_stream.specs.Calls.{moment}
use Rattle.cms_stream.proofs.Moments.{hands_on}
use Rattle.cms_stream.proofs.Opaques.{optional_absent, optional_found, optional_not}
use Rattle.cms_stream.proofs.reader.Reader.parameters.Goals as goal

pub returns-then-self-end : goal.returns-then-self-end
returns-then-self-end g c = record {
  exact =
      let w : OpenSpot = body_to c.args.end (seen c.args.self.now (g.S.Source.rest c.args.source.now)) in
      let none : w.left ≡ 0 = omega (arith, c.if-self-end.true) in
      (refl, λ t. ((None, w), optional_absent w none, refl));
  telling = grind (arith, common_steps);
  at = grind (arith, common_steps);
  moved = grind (arith, common_steps);
}

pub returns-in_err-opaque : goal.returns-in_err-opaque
returns-in_err-opaque g c =
    let a = moment g.S.Source c.args.self.now c.args.source.now in
    let d = moment g.S.Source c.opaque.new.self c.opaque.new.source in
    let w : OpenSpot = body_to c.args.end a.place in
    let v : OpenSpot = body_to c.args.end d.place in
    let some : 0 < w.left = omega (arith, c.if-self-end.false, c.requires.inside) in
    let e = c.in_err-opaque.ensures in
    let is : c.from_residual.result ≡ Err c.in_err-opaque.field-0.0 = grind (arith, common_steps) in
    rw is (hands_on {Y = List ℕ × OpenSpot} {W = Option (List ℕ) × OpenSpot} a a d
    (record { tells = λ t. t; same = refl; faults = λ f t p. optional_not w f some p }) {X = Unit {0}} {Z = Unit {0}}
    (λ x y. y.1 ≡ v) (λ x y. y.1 ≡ v) c.in_err-opaque.field-0.0 (λ t l. l) e.telling e.exact)

pub returns : goal.returns
returns g c = record {
  exact =
      let w : OpenSpot = body_to c.args.end (seen c.args.self.now (g.S.Source.rest c.args.source.now)) in
      let v : OpenSpot = body_to c.args.end (seen c.opaque.new.self (g.S.Source.rest c.opaque.new.source)) in
      let some : 0 < w.left = omega (arith, c.if-self-end.false, c.requires.inside) in
      let e = c.in_ok-opaque.ensures in (
        e.exact.0,
        λ t. let (element, is, rest) = e.exact.1 t in
            ((Some element.0, v), optional_found w v element some is rest, refl),
      );
  telling = grind (arith, common_steps);
  at = grind (arith, common_steps);
  moved = grind (arith, common_steps);
}
