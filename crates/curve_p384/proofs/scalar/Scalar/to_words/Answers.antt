use Rattle.std.proofs.Common.{◌≡◌, ◌^◌, ◌<◌, ◌∙◌, subst}
use Rattle.curve_words.specs.Forms.{meant}
use Rattle.curve_words.proofs.Meaning.{of_words, below}
use Rattle.curve_p384.specs.Numbers.{six_words, order, order_unscale}
use Rattle.curve_p384.proofs.Forms.{order_form}
use Rattle.curve_p384.proofs.scalar.Scalar.to_words.Goals as goal

pub returns-clause-value : goal.returns-clause-value
returns-clause-value c =
    let here : meant order order_unscale (six_words c.self.inside.words.w0 c.self.inside.words.w1 c.self.inside.words.w2
    c.self.inside.words.w3 c.self.inside.words.w4 c.self.inside.words.w5) ≡ c.args.self.now =
    c.self.view_is in
    of_words order order_unscale (2 ^ 384) order_form _ _ c.product.ensures.reduced c.product.ensures.value ∙ here

pub returns-clause-reduced : goal.returns-clause-reduced
returns-clause-reduced c =
    let here : meant order order_unscale (six_words c.self.inside.words.w0 c.self.inside.words.w1 c.self.inside.words.w2
    c.self.inside.words.w3 c.self.inside.words.w4 c.self.inside.words.w5) ≡ c.args.self.now =
    c.self.view_is in
    subst (λ k. k < order) here (below order order_unscale (2 ^ 384) order_form _)
