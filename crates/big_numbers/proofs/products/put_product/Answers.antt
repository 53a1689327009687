use Rattle.std.proofs.Common.{ℕ, ◌^◌, length}
use Rattle.big_numbers.specs.Numbers.{value}
use Rattle.big_numbers.proofs.Forms.{cancels_base, half_product, into_form}
use Rattle.big_numbers.proofs.products.put_product.Goals as goal

pub returns-clause-product : goal.returns-clause-product
returns-clause-product c =
    let n : ℕ = value c.args.n.now in
    let k : ℕ = length c.args.n.now in
    let p : ℕ = (2 ^ 64) ^ k in
    let cancels = cancels_base n k c.requires.ready.odd in
    half_product n p (value c.multiply.new.t) (value c.args.b.now) (value c.multiply-2.new.t)
    (value c.args.a.now) cancels
    c.multiply-2.ensures.below c.multiply-2.ensures.product
    (into_form n p (value c.args.square.now) (value c.args.a.now)
    (value c.multiply.new.t) cancels c.multiply.ensures.below
    c.multiply.ensures.product c.requires.ready.is_square)
