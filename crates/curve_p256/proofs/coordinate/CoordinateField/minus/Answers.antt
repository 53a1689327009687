use Rattle.std.proofs.Common.{◌≡◌, ◌^◌, refl}
use Rattle.curve_points.proofs.Congruence.{equal, turned, chained, summed}
use Rattle.curve_words.specs.Forms.{meant}
use Rattle.curve_words.proofs.Meaning.{of_difference}
use Rattle.curve_p256.specs.Numbers.{four_words, prime, unscale}
use Rattle.curve_p256.proofs.Forms.{prime_form}
use Rattle.curve_p256.proofs.coordinate.CoordinateField.minus.Goals as goal

pub returns : goal.returns
returns c =
    let here : meant prime unscale (four_words c.self.inside.words.w0 c.self.inside.words.w1 c.self.inside.words.w2
    c.self.inside.words.w3) ≡ c.args.self.now =
    c.self.view_is in
    let there : meant prime unscale (four_words c.other.inside.words.w0 c.other.inside.words.w1 c.other.inside.words.w2
    c.other.inside.words.w3) ≡ c.args.other.now =
    c.other.view_is in
    chained (summed (equal prime _ _ refl) (turned (equal prime _ _ there)))
    (chained (of_difference prime unscale (2 ^ 256) prime_form _ _ _ c.difference-words.ensures.value)
    (equal prime _ _ here))
