use Rattle.std.proofs.Common.{◌≡◌, ◌^◌, ◌<◌, ◌∙◌, subst}
use Rattle.curve_words.specs.Forms.{meant}
use Rattle.curve_words.proofs.Meaning.{of_words, below}
use Rattle.curve_p256.specs.Numbers.{four_words, prime, unscale}
use Rattle.curve_p256.proofs.Forms.{prime_form}
use Rattle.curve_p256.proofs.coordinate.Coordinate.to_words.Goals as goal

pub returns-clause-value : goal.returns-clause-value
returns-clause-value c =
    let here : meant prime unscale (four_words c.self.inside.words.w0 c.self.inside.words.w1 c.self.inside.words.w2
    c.self.inside.words.w3) ≡ c.args.self.now =
    c.self.view_is in
    of_words prime unscale (2 ^ 256) prime_form _ _ c.product.ensures.reduced c.product.ensures.value ∙ here

pub returns-clause-reduced : goal.returns-clause-reduced
returns-clause-reduced c =
    let here : meant prime unscale (four_words c.self.inside.words.w0 c.self.inside.words.w1 c.self.inside.words.w2
    c.self.inside.words.w3) ≡ c.args.self.now =
    c.self.view_is in
    subst (λ k. k < prime) here (below prime unscale (2 ^ 256) prime_form _)
