use Rattle.std.proofs.Common.{◌≡◌, ℕ, ◌+◌, ◌*◌, ◌%◌, ◌^◌, length, get_or, ap, ◌∙◌, arith}
use Rattle.std.proofs.lemmas.Nat.{mul-mod_first}
use Rattle.big_numbers.specs.Numbers.{value}
use Rattle.big_numbers.proofs.Values.{value_zeros, value_whole}
use Rattle.big_numbers.proofs.ProductSteps.{row_below, product_goes_on}
use Rattle.big_numbers.proofs.products.multiply.Goals as goal

pub rows-init : goal.rows-init
rows-init c =
    let none : value c.fill.new.self ≡ 0 = ap value (c.fill.ensures.after (λ y e. e))
    ∙ value_zeros (length c.args.t.now) in
    record {
      below = rw none (omega arith);
      product = rw none (ap (λ z. z % value c.args.n.now) (omega arith));
    }

pub rows-preserved : goal.rows-preserved
rows-preserved c =
    let e : length c.add_row-top.new.t ≡ length c.rows.t = c.add_row-top.auto.t in
    let s : ℕ = value c.rows.t + (2 ^ 64) ^ length c.rows.t * c.rows.top in
    let z : ℕ = value c.add_row-top.new.t + (2 ^ 64) ^ length c.rows.t * c.add_row-top.result in
    let m : ℕ = c.add_row-top.ensures.0 in
    let f : 2 ^ 64 * z ≡ s + get_or c.args.a.now c.rows.i 0 * value c.args.b.now + m * value c.args.n.now =
    c.add_row-top.ensures.2 in
    rw e (record {
      below = row_below (2 ^ 64) s z (get_or c.args.a.now c.rows.i 0) (value c.args.b.now) m (value c.args.n.now) f
          (c.type_inv.a c.rows.i).fits c.add_row-top.ensures.1 c.rows.invariant.below;
      product = product_goes_on c.args.a.now c.rows.i s z (value c.args.b.now) m
          (value c.args.n.now) c.rows-test.true f c.rows.invariant.product;
    })

pub returns-clause-product : goal.returns-clause-product
returns-clause-product c =
    let n : ℕ = value c.args.n.now in
    let s : ℕ = value c.rows.t + (2 ^ 64) ^ length c.rows.t * c.rows.top in
    let all : length c.args.n.now ≡ c.rows.i = omega arith in
    rw (c.reduce_once.ensures, all) (
    mul-mod_first s ((2 ^ 64) ^ c.rows.i) n ∙ c.rows.invariant.product
    ∙ ap (λ v. (v * value c.args.b.now) % n) (value_whole c.args.a.now c.rows.i (omega arith)))
