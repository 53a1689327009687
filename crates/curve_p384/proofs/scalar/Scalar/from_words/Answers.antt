use Rattle.std.proofs.Common.{◌*◌, ◌^◌, arith}
use Rattle.curve_points.proofs.Congruence.{equal, chained}
use Rattle.curve_words.proofs.Meaning.{of_scaled, below}
use Rattle.curve_p384.specs.Numbers.{six_words, order, order_unscale}
use Rattle.curve_p384.proofs.Forms.{order_form, order_square}
use Rattle.curve_p384.proofs.scalar.Scalar.from_words.Goals as goal

pub returns-clause-value : goal.returns-clause-value
returns-clause-value c =
    of_scaled order order_unscale (2 ^ 384) order_form _ _ _ order_square
    (chained c.product-words.ensures.value
    (equal order ((six_words c.args.words.w0 c.args.words.w1 c.args.words.w2 c.args.words.w3 c.args.words.w4
    c.args.words.w5) * six_words 0x2d319b2419b409a9 0xff3d81e5df1aa419 0xbc3e483afcb82947 0xd40d49174aab1cc5
    0x3fb05b7a28266895 0xc84ee012b39bf21)
    (six_words 0x2d319b2419b409a9 0xff3d81e5df1aa419 0xbc3e483afcb82947 0xd40d49174aab1cc5 0x3fb05b7a28266895
    0xc84ee012b39bf21 * six_words c.args.words.w0 c.args.words.w1 c.args.words.w2 c.args.words.w3 c.args.words.w4
    c.args.words.w5) (omega arith)))

pub returns-clause-reduced : goal.returns-clause-reduced
returns-clause-reduced c = below order order_unscale (2 ^ 384) order_form _
