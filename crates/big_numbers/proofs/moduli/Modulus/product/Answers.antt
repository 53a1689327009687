use Rattle.std.proofs.Common.{◌≡◌, ℕ, ◌*◌, ◌%◌, ◌^◌, ◌<◌, length, take, ap, sym, subst, ◌∙◌, arith}
use Rattle.std.proofs.lemmas.List.{length-take-le}
use Rattle.big_numbers.specs.Numbers.{i2osp, os2ip, value}
use Rattle.big_numbers.proofs.ModulusSteps.{number_kept, size_kept}
use Rattle.big_numbers.proofs.moduli.Modulus.product.Goals as goal

pub write_product-requires-clause-product : goal.write_product-requires-clause-product
write_product-requires-clause-product c =
    let v : ℕ = value (take c.self.inside.count c.self.inside.words) in
    let l : length c.args.self.now ≡ c.self.inside.size =
    size_kept c.args.self.now v c.self.inside.size c.self.view_is in
    let t = length-take-le c.self.inside.count c.self.inside.words
    (omega (arith, c.self.invariant.room, c.self.invariant.most)) in
    omega (arith, t, l, c.self.invariant.enough, c.size-size.ensures.count, c.if-product-size.false)

pub write_product-requires-clause-first : goal.write_product-requires-clause-first
write_product-requires-clause-first c =
    let v : ℕ = value (take c.self.inside.count c.self.inside.words) in
    let l : length c.args.self.now ≡ c.self.inside.size =
    size_kept c.args.self.now v c.self.inside.size c.self.view_is in
    let t = length-take-le c.self.inside.count c.self.inside.words
    (omega (arith, c.self.invariant.room, c.self.invariant.most)) in
    omega (arith, t, l, c.self.invariant.enough, c.size-size.ensures.count, c.if-a-size.false)

pub write_product-requires-clause-second : goal.write_product-requires-clause-second
write_product-requires-clause-second c =
    let v : ℕ = value (take c.self.inside.count c.self.inside.words) in
    let l : length c.args.self.now ≡ c.self.inside.size =
    size_kept c.args.self.now v c.self.inside.size c.self.view_is in
    let t = length-take-le c.self.inside.count c.self.inside.words
    (omega (arith, c.self.invariant.room, c.self.invariant.most)) in
    omega (arith, t, l, c.self.invariant.enough, c.size-size.ensures.count, c.if-b-size.false)

pub write_product-requires-clause-fits : goal.write_product-requires-clause-fits
write_product-requires-clause-fits c =
    let v : ℕ = value (take c.self.inside.count c.self.inside.words) in
    let l : length c.args.self.now ≡ c.self.inside.size =
    size_kept c.args.self.now v c.self.inside.size c.self.view_is in
    let e : c.self.inside.size ≡ length c.args.product.now =
    omega (arith, l, c.size-size.ensures.count, c.if-product-size.false) in
    subst (λ k. v < 256 ^ k) e c.self.invariant.fits

pub returns-clause-below : goal.returns-clause-below
returns-clause-below c =
    let v : ℕ = value (take c.self.inside.count c.self.inside.words) in
    let n : os2ip c.args.self.now ≡ v =
    number_kept c.args.self.now v c.self.inside.size c.self.invariant.fits c.self.view_is in
    let a : length c.args.a.now ≡ length c.args.self.now =
    omega (arith, c.size-size.ensures.count, c.if-a-size.false) in
    let b : length c.args.b.now ≡ length c.args.self.now =
    omega (arith, c.size-size.ensures.count, c.if-b-size.false) in
    let p : length c.args.product.now ≡ length c.args.self.now =
    omega (arith, c.size-size.ensures.count, c.if-product-size.false) in (
      λ t.
          let h = c.write_product.ensures.below.0 t in (
            a,
            b,
            p,
            subst (λ z. os2ip c.args.a.now < z) (sym n) h.0,
            subst (λ z. os2ip c.args.b.now < z) (sym n) h.1,
          ),
      λ h.
          c.write_product.ensures.below.1
          (subst (λ z. os2ip c.args.a.now < z) n h.3, subst (λ z. os2ip c.args.b.now < z) n h.4),
    )

pub returns-clause-product : goal.returns-clause-product
returns-clause-product c = λ t.
    let v : ℕ = value (take c.self.inside.count c.self.inside.words) in
    let n : os2ip c.args.self.now ≡ v =
    number_kept c.args.self.now v c.self.inside.size c.self.invariant.fits c.self.view_is in
    let p : length c.args.product.now ≡ length c.args.self.now =
    omega (arith, c.size-size.ensures.count, c.if-product-size.false) in
    c.write_product.ensures.product t
    ∙ ap (λ z. i2osp (os2ip c.args.a.now * os2ip c.args.b.now % z) (length c.args.product.now)) (sym n)
    ∙ ap (λ k. i2osp (os2ip c.args.a.now * os2ip c.args.b.now % os2ip c.args.self.now) k) p
