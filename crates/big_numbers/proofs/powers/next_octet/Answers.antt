use Rattle.std.proofs.Common.{◌≡◌, ◌+◌, ◌-◌, ◌*◌, ◌/◌, ◌^◌, ap, ◌∙◌, arith}
use Rattle.std.proofs.Math.Nat.{div-eq_of_lt, div-one}
use Rattle.big_numbers.specs.Montgomery.{form}
use Rattle.big_numbers.proofs.PowerSteps.{bit_more}
use Rattle.big_numbers.proofs.powers.next_octet.Goals as goal

pub bits-init : goal.bits-init
bits-init c = record {
  below = c.requires.below;
  form = λ s k base x.
      let none : c.args.octet / 2 ^ 8 ≡ 0 = div-eq_of_lt c.ranges.octet.fits in
      let q : k ≡ k * 1 + c.args.octet / 2 ^ 8 = omega (arith, none) in
      x ∙ ap (λ j. form c.args.n.now (s ^ j)) q;
}

pub bits-preserved : goal.bits-preserved
bits-preserved c = record {
  below = c.next_power.ensures.below;
  form = λ s k base x.
      c.next_power.ensures.form s (k * 2 ^ c.bits.i + c.args.octet / 2 ^ (8 - c.bits.i)) base
      (c.bits.invariant.form s k base x)
      ∙ ap (λ j. form c.args.n.now (s ^ j)) (bit_more k c.args.octet c.bits.i (omega arith));
}

pub returns-clause-form : goal.returns-clause-form
returns-clause-form c = λ s k base x.
    let all : c.bits.i ≡ 8 = omega arith in
    let q : k * 2 ^ 8 + c.args.octet / 2 ^ (8 - 8) ≡ k * 256 + c.args.octet =
    ap (λ j. k * 256 + j) (div-one c.args.octet) in
    c.bits.invariant.form s k base x
    ∙ ap (λ i. form c.args.n.now (s ^ (k * 2 ^ i + c.args.octet / 2 ^ (8 - i)))) all
    ∙ ap (λ j. form c.args.n.now (s ^ j)) q
