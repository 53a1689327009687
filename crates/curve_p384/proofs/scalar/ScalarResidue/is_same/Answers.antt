use Rattle.std.proofs.Common.{◌≡◌, ◌^◌}
use Rattle.curve_points.proofs.Congruence.{equal, turned, chained}
use Rattle.curve_words.specs.Forms.{meant}
use Rattle.curve_words.proofs.Meaning.{is_same}
use Rattle.curve_p384.specs.Numbers.{six_words, order, order_unscale}
use Rattle.curve_p384.proofs.Forms.{order_form}
use Rattle.curve_p384.proofs.scalar.ScalarResidue.is_same.Goals as goal

pub returns : goal.returns
returns c =
    let here : meant order order_unscale (six_words c.self.inside.words.w0 c.self.inside.words.w1 c.self.inside.words.w2
    c.self.inside.words.w3 c.self.inside.words.w4 c.self.inside.words.w5) ≡ c.args.self.now =
    c.self.view_is in
    let there : meant order order_unscale (six_words c.other.inside.words.w0 c.other.inside.words.w1
    c.other.inside.words.w2 c.other.inside.words.w3 c.other.inside.words.w4 c.other.inside.words.w5)
    ≡ c.args.other.now =
    c.other.view_is in
    let both =
    is_same order order_unscale (2 ^ 384) order_form _ _ _ c.self.invariant c.other.invariant c.is_same.ensures in (
      (λ h. chained (turned (equal order _ _ here)) (chained (both.0 h) (equal order _ _ there))),
      (λ h. both.1 (chained (equal order _ _ here) (chained h (turned (equal order _ _ there))))),
    )
