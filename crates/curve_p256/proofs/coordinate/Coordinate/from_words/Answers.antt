use Rattle.std.proofs.Common.{◌^◌}
use Rattle.curve_words.proofs.Meaning.{of_scaled_below}
use Rattle.curve_p256.specs.Numbers.{prime, unscale}
use Rattle.curve_p256.proofs.Forms.{prime_form, prime_square}
use Rattle.curve_p256.proofs.coordinate.Coordinate.from_words.Goals as goal

pub returns : goal.returns
returns c =
    of_scaled_below prime unscale (2 ^ 256) prime_form _ _ _ c.requires prime_square c.product-words.ensures.value
