use Rattle.std.proofs.Common.{◌≡◌, ℕ, ◌%◌, ◌^◌, ◌<◌, length, take, ap, sym, subst, ◌∙◌, arith}
use Rattle.std.proofs.lemmas.List.{length-take-le}
use Rattle.big_numbers.specs.Numbers.{i2osp, os2ip, value}
use Rattle.big_numbers.specs.Exponents.{exponent_of}
use Rattle.big_numbers.proofs.ModulusSteps.{number_kept, size_kept}
use Rattle.big_numbers.proofs.moduli.Modulus.raise.Goals as goal

pub write_power-requires-clause-power : goal.write_power-requires-clause-power
write_power-requires-clause-power c =
    let v : ℕ = value (take c.self.inside.count c.self.inside.words) in
    let l : length c.args.self.now ≡ c.self.inside.size =
    size_kept c.args.self.now v c.self.inside.size c.self.view_is in
    let t = length-take-le c.self.inside.count c.self.inside.words
    (omega (arith, c.self.invariant.room, c.self.invariant.most)) in
    omega (arith, t, l, c.self.invariant.enough, c.size-size.ensures.count, c.if-power-size.false)

pub write_power-requires-clause-base : goal.write_power-requires-clause-base
write_power-requires-clause-base c =
    let v : ℕ = value (take c.self.inside.count c.self.inside.words) in
    let l : length c.args.self.now ≡ c.self.inside.size =
    size_kept c.args.self.now v c.self.inside.size c.self.view_is in
    let t = length-take-le c.self.inside.count c.self.inside.words
    (omega (arith, c.self.invariant.room, c.self.invariant.most)) in
    omega (arith, t, l, c.self.invariant.enough, c.size-size.ensures.count, c.if-base-size.false)

pub write_power-requires-clause-fits : goal.write_power-requires-clause-fits
write_power-requires-clause-fits c =
    let v : ℕ = value (take c.self.inside.count c.self.inside.words) in
    let l : length c.args.self.now ≡ c.self.inside.size =
    size_kept c.args.self.now v c.self.inside.size c.self.view_is in
    let e : c.self.inside.size ≡ length c.args.power.now =
    omega (arith, l, c.size-size.ensures.count, c.if-power-size.false) in
    subst (λ k. v < 256 ^ k) e c.self.invariant.fits

pub returns-clause-below : goal.returns-clause-below
returns-clause-below c =
    let v : ℕ = value (take c.self.inside.count c.self.inside.words) in
    let n : os2ip c.args.self.now ≡ v =
    number_kept c.args.self.now v c.self.inside.size c.self.invariant.fits c.self.view_is in
    let b : length c.args.base.now ≡ length c.args.self.now =
    omega (arith, c.size-size.ensures.count, c.if-base-size.false) in
    let p : length c.args.power.now ≡ length c.args.self.now =
    omega (arith, c.size-size.ensures.count, c.if-power-size.false) in (
      λ t. (b, p, subst (λ z. os2ip c.args.base.now < z) (sym n) (c.write_power.ensures.below.0 t)),
      λ h. c.write_power.ensures.below.1 (subst (λ z. os2ip c.args.base.now < z) n h.2),
    )

pub returns-clause-power : goal.returns-clause-power
returns-clause-power c = λ t.
    let v : ℕ = value (take c.self.inside.count c.self.inside.words) in
    let n : os2ip c.args.self.now ≡ v =
    number_kept c.args.self.now v c.self.inside.size c.self.invariant.fits c.self.view_is in
    let p : length c.args.power.now ≡ length c.args.self.now =
    omega (arith, c.size-size.ensures.count, c.if-power-size.false) in
    c.write_power.ensures.power t
    ∙ ap (λ z. i2osp (os2ip c.args.base.now ^ exponent_of c.args.exponent % z) (length c.args.power.now)) (sym n)
    ∙ ap (λ k. i2osp (os2ip c.args.base.now ^ exponent_of c.args.exponent % os2ip c.args.self.now) k) p
