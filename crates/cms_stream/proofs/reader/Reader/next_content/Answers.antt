use Rattle.std.proofs.Common.{rules, ◌≡◌, ℕ, List, Bool, Err, refl, arith}
use Rattle.std.proofs.lemmas.Grind.{common_steps}
use Rattle.cms_stream_laws.specs.OpenContentInfo.{encapsulated_openly}
use Rattle.cms_stream.specs.Calls.{moment}
use Rattle.cms_stream.specs.Passing.{body_to, past, Gained, IsKept}
use Rattle.cms_stream.specs.Readers.{seen}
use Rattle.cms_stream.proofs.Moments.{front_read, front_not}
use Rattle.cms_stream.proofs.reader.Reader.next_content.Goals as goal

pub returns : goal.returns
returns g c = record {
  finds = front_read 0x30 encapsulated_openly c.args.end c.in_ok-inner.inner _ _ _ c.in_ok-inner.ensures
      c.in_ok-found.ensures.finds (λ y kept. (kept, refl));
  room = first_of (search rules, grind (arith, common_steps));
  states = first_of (search rules, grind (arith, common_steps));
  size = first_of (search rules, grind (arith, common_steps));
}

pub returns-in_err-found : goal.returns-in_err-found
returns-in_err-found g c = record {
  finds =
      let e = c.in_ok-inner.ensures in
      let o = c.in_err-found.ensures.finds in
      let s = seen c.enter.new.self (g.S.Source.rest c.enter.new.source) in
      let v = moment g.S.Source c.encapsulated.new.self c.encapsulated.new.source in
      let gains : List ℕ → Type 0 = Gained g.K.Taker c.args.taker.now c.encapsulated.new.taker in
      let is : c.from_residual-in_err-found.result ≡ Err c.in_err-found.field-0.0 = grind (arith, common_steps) in
      rw is (front_not 0x30 encapsulated_openly c.args.end c.in_ok-inner.inner _ _ v e {X = ℕ × Bool} {Z = ℕ × Bool}
      (λ x y. IsKept gains c.encapsulated.new.room x y)
      (λ x y. IsKept gains c.encapsulated.new.room x y.0 × (y.1 ≡ body_to c.args.end v.place))
      c.in_err-found.field-0.0
      (λ t long. ((body_to c.in_ok-inner.inner s, body_to c.args.end (past c.in_ok-inner.inner s)), e.exact.1 t, long))
      o.telling o.exact);
  room = first_of (search rules, grind (arith, common_steps));
  states = first_of (search rules, grind (arith, common_steps));
  size = first_of (search rules, grind (arith, common_steps));
}
