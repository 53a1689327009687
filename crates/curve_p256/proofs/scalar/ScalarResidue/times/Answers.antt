use Rattle.std.proofs.Common.{◌≡◌, ◌^◌}
use Rattle.curve_points.proofs.Congruence.{equal, chained, multiplied}
use Rattle.curve_words.specs.Forms.{meant}
use Rattle.curve_words.proofs.Meaning.{of_product, below}
use Rattle.curve_p256.specs.Numbers.{four_words, order, order_unscale}
use Rattle.curve_p256.proofs.Forms.{order_form}
use Rattle.curve_p256.proofs.scalar.ScalarResidue.times.Goals as goal

pub returns-clause-product : goal.returns-clause-product
returns-clause-product c =
    let here : meant order order_unscale (four_words c.self.inside.words.w0 c.self.inside.words.w1
    c.self.inside.words.w2 c.self.inside.words.w3) ≡ c.args.self.now =
    c.self.view_is in
    let there : meant order order_unscale (four_words c.other.inside.words.w0 c.other.inside.words.w1
    c.other.inside.words.w2 c.other.inside.words.w3) ≡ c.args.other.now =
    c.other.view_is in
    chained (of_product order order_unscale (2 ^ 256) order_form _ _ _ c.product-words.ensures.value)
    (multiplied (equal order _ _ here) (equal order _ _ there))

pub returns-clause-reduced : goal.returns-clause-reduced
returns-clause-reduced c = below order order_unscale (2 ^ 256) order_form _
