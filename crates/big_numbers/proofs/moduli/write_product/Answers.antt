use Rattle.std.proofs.Common.{ℕ, ◌*◌, ◌%◌, ◌^◌, ◌<◌, length, ap, ◌∙◌, arith}
use Rattle.big_numbers.specs.Numbers.{i2osp, os2ip, value}
use Rattle.big_numbers.proofs.moduli.write_product.Goals as goal

pub write_number-requires-clause-fits : goal.write_number-requires-clause-fits
write_number-requires-clause-fits c =
    let fits : value c.args.n.now < 256 ^ length c.args.product.now = c.requires.fits in
    omega (arith, c.put_product.ensures.below)

pub returns-clause-product : goal.returns-clause-product
returns-clause-product c = λ t.
    let n : ℕ = value c.args.n.now in
    c.write_number.ensures
    ∙ ap (λ z. i2osp z (length c.args.product.now))
    (c.put_product.ensures.product ∙ ap (λ z. z * value c.read_octets-2.new.words % n) c.read_octets.ensures
    ∙ ap (λ z. os2ip c.args.factors.0.now * z % n) c.read_octets-2.ensures)
