use Rattle.std.proofs.Common.{◌≡◌, ◌^◌}
use Rattle.curve_points.proofs.Congruence.{equal, chained, multiplied}
use Rattle.curve_words.specs.Forms.{meant}
use Rattle.curve_words.proofs.Meaning.{of_product, below}
use Rattle.curve_p384.specs.Numbers.{six_words, order, order_unscale}
use Rattle.curve_p384.proofs.Forms.{order_form}
use Rattle.curve_p384.proofs.scalar.ScalarResidue.times.Goals as goal

pub returns-clause-product : goal.returns-clause-product
returns-clause-product c =
    let here : meant order order_unscale (six_words c.self.inside.words.w0 c.self.inside.words.w1 c.self.inside.words.w2
    c.self.inside.words.w3 c.self.inside.words.w4 c.self.inside.words.w5) ≡ c.args.self.now =
    c.self.view_is in
    let there : meant order order_unscale (six_words c.other.inside.words.w0 c.other.inside.words.w1
    c.other.inside.words.w2 c.other.inside.words.w3 c.other.inside.words.w4 c.other.inside.words.w5)
    ≡ c.args.other.now =
    c.other.view_is in
    chained (of_product order order_unscale (2 ^ 384) order_form _ _ _ c.product-words.ensures.value)
    (multiplied (equal order _ _ here) (equal order _ _ there))

pub returns-clause-reduced : goal.returns-clause-reduced
returns-clause-reduced c = below order order_unscale (2 ^ 384) order_form _
