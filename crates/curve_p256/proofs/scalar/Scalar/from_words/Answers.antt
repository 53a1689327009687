use Rattle.std.proofs.Common.{◌*◌, ◌^◌, arith}
use Rattle.curve_points.proofs.Congruence.{equal, chained}
use Rattle.curve_words.proofs.Meaning.{of_scaled, below}
use Rattle.curve_p256.specs.Numbers.{four_words, order, order_unscale}
use Rattle.curve_p256.proofs.Forms.{order_form, order_square}
use Rattle.curve_p256.proofs.scalar.Scalar.from_words.Goals as goal

pub returns-clause-value : goal.returns-clause-value
returns-clause-value c =
    of_scaled order order_unscale (2 ^ 256) order_form _ _ _ order_square
    (chained c.product-words.ensures.value
    (equal order ((four_words c.args.words.w0 c.args.words.w1 c.args.words.w2 c.args.words.w3)
    * four_words 0x83244c95be79eea2 0x4699799c49bd6fa6 0x2845b2392b6bec59 0x66e12d94f3d95620)
    (four_words 0x83244c95be79eea2 0x4699799c49bd6fa6 0x2845b2392b6bec59 0x66e12d94f3d95620
    * four_words c.args.words.w0 c.args.words.w1 c.args.words.w2 c.args.words.w3) (omega arith)))

pub returns-clause-reduced : goal.returns-clause-reduced
returns-clause-reduced c = below order order_unscale (2 ^ 256) order_form _
