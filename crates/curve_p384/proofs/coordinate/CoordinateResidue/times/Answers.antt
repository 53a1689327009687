use Rattle.std.proofs.Common.{◌≡◌, ◌^◌}
use Rattle.curve_points.proofs.Congruence.{equal, chained, multiplied}
use Rattle.curve_words.specs.Forms.{meant}
use Rattle.curve_words.proofs.Meaning.{of_product, below}
use Rattle.curve_p384.specs.Numbers.{six_words, prime, unscale}
use Rattle.curve_p384.proofs.Forms.{prime_form}
use Rattle.curve_p384.proofs.coordinate.CoordinateResidue.times.Goals as goal

pub returns-clause-product : goal.returns-clause-product
returns-clause-product c =
    let here : meant prime unscale (six_words c.self.inside.words.w0 c.self.inside.words.w1 c.self.inside.words.w2
    c.self.inside.words.w3 c.self.inside.words.w4 c.self.inside.words.w5) ≡ c.args.self.now =
    c.self.view_is in
    let there : meant prime unscale (six_words c.other.inside.words.w0 c.other.inside.words.w1 c.other.inside.words.w2
    c.other.inside.words.w3 c.other.inside.words.w4 c.other.inside.words.w5) ≡ c.args.other.now =
    c.other.view_is in
    chained (of_product prime unscale (2 ^ 384) prime_form _ _ _ c.product-words.ensures.value)
    (multiplied (equal prime _ _ here) (equal prime _ _ there))

pub returns-clause-reduced : goal.returns-clause-reduced
returns-clause-reduced c = below prime unscale (2 ^ 384) prime_form _
