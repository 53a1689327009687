use Rattle.std.proofs.Common.{◌≡◌, ◌∙◌, ◌-◌, ℕ, List, take, refl, arith, Err}
use Rattle.std.proofs.lemmas.Grind.{common_steps}
use Rattle.cms_stream_laws.specs.OpenReading.{OpenSpot, body_of}
use Rattle.cms_stream.specs.Passing.{body_to, past}
use Rattle.cms_stream.specs.Readers.{seen}
use Rattle.cms_stream.specs.Calls.{moment}
use Rattle.cms_stream.proofs.Moments.{hands_over}
use Rattle.cms_stream.proofs.Opaques.{opaque_found, opaque_not, opaque_cut}
use Rattle.cms_stream.proofs.reader.Reader.opaque.Goals as goal

pub returns-in_err-inner : goal.returns-in_err-inner
returns-in_err-inner g c =
    let a = moment g.S.Source c.args.self.now c.args.source.now in
    let d = moment g.S.Source c.next.new.self c.next.new.source in
    let e = c.in_err-inner.ensures in
    let is : c.from_residual.result ≡ Err c.in_err-inner.field-0.0 = grind (arith, common_steps) in
    rw is (hands_over {Y = OpenSpot × OpenSpot} {W = List ℕ × OpenSpot} a a d
    (record { tells = λ t. t; same = refl; faults = λ f t p. opaque_not (body_to c.args.end a.place) f p }) {X = ℕ}
    {Z = Unit {0}}
    (λ inner. (body_to inner d.place, body_to c.args.end (past inner d.place)))
    (λ x y. y.1 ≡ body_to c.args.end d.place) c.in_err-inner.field-0.0 e.telling e.exact)

pub returns-in_err-pour : goal.returns-in_err-pour
returns-in_err-pour g c =
    let a = moment g.S.Source c.args.self.now c.args.source.now in
    let b = moment g.S.Source c.next.new.self c.next.new.source in
    let d = moment g.S.Source c.pour.new.self c.pour.new.source in
    let inner : OpenSpot = body_to c.in_ok-inner.inner b.place in
    let e = c.in_ok-inner.ensures in
    let p = c.in_err-pour.ensures.passes in
    let is : c.from_residual-in_err-pour.result ≡ Err c.in_err-pour.field-0.0 = grind (arith, common_steps) in
    rw is (hands_over {Y = List ℕ} {W = List ℕ × OpenSpot} a b d
    (record {
      tells = e.telling;
      same = e.exact.0;
      faults = λ f t h. opaque_cut (body_to c.args.end a.place) inner
          (body_to c.args.end (past c.in_ok-inner.inner b.place)) f (e.exact.1 t) h;
    })
    {X = Unit {0}} {Z = Unit {0}} (λ u. body_of inner) (λ x y. y.1 ≡ body_to c.args.end d.place)
    c.in_err-pour.field-0.0 p.telling p.exact)

pub returns : goal.returns
returns g c = record {
  exact =
      let e = c.in_ok-inner.ensures in
      let p = c.in_ok-pour.ensures in
      let s = seen c.args.self.now (g.S.Source.rest c.args.source.now) in (
        p.passes.exact.0 ∙ e.exact.0,
        λ t. (
          (
            take (c.in_ok-inner.inner - s.pos) s.rest,
            body_to c.args.end (seen c.pour.new.self (g.S.Source.rest c.pour.new.source)),
          ),
          opaque_found c.args.end c.in_ok-inner.inner _ _ _ _ (e.exact.1 t) (p.passes.exact.1 (e.telling t))
              (p.passes.moved (e.telling t)),
          refl,
        ),
      );
  telling = grind (arith, common_steps);
  at = grind (arith, common_steps);
  moved = grind (arith, common_steps);
}
