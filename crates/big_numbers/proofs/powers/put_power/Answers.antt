use Rattle.std.proofs.Common.{◌≡◌, ℕ, ◌*◌, ◌/◌, ◌%◌, ◌^◌, ◌<◌, length, set, ap, sym, ◌∙◌, arith}
use Rattle.std.proofs.Math.Nat.{div-one, mod-eq_of_lt, pow-zero}
use Rattle.big_numbers.specs.Numbers.{value}
use Rattle.big_numbers.proofs.Values.{value_of_one, some_words}
use Rattle.big_numbers.proofs.Forms.{cancels_base, into_form, out_of_form}
use Rattle.big_numbers.proofs.PowerSteps.{highest_bit, next_bit, power_one}
use Rattle.big_numbers.proofs.powers.put_power.Goals as goal

pub bits-init : goal.bits-init
bits-init c =
    let n : ℕ = value c.args.n.now in
    let k : ℕ = length c.args.n.now in
    let p : ℕ = (2 ^ 64) ^ k in
    let s : ℕ = value c.args.s.now in
    record {
      length = sym (ap length c.copy_from_slice.ensures.after) ∙ c.copy_from_slice.ensures.len ∙ c.requires.x;
      bits = omega arith;
      below = rw c.copy_from_slice.ensures.after c.multiply.ensures.below;
      form = ap value c.copy_from_slice.ensures.after
          ∙ into_form n p (value c.args.square.now) s (value c.multiply.new.t) (cancels_base n k c.requires.ready.odd)
          c.multiply.ensures.below c.multiply.ensures.product c.requires.ready.is_square
          ∙ ap (λ z. (z * p) % n) (sym (power_one s))
          ∙ ap (λ i. (s ^ i * p) % n) (sym (highest_bit c.args.e (omega arith) c.ranges.e.fits));
    }

pub bits-preserved : goal.bits-preserved
bits-preserved c =
    let n : ℕ = value c.args.n.now in
    let k : ℕ = length c.args.n.now in
    let p : ℕ = (2 ^ 64) ^ k in
    let s : ℕ = value c.args.s.now in
    record {
      length = c.bits.invariant.length;
      bits = omega arith;
      below = c.next_power.ensures.below;
      form = c.next_power.ensures.form s (c.args.e / 2 ^ c.bits.i)
          (into_form n p (value c.args.square.now) s (value c.multiply.new.t) (cancels_base n k c.requires.ready.odd)
          c.multiply.ensures.below c.multiply.ensures.product c.requires.ready.is_square)
          c.bits.invariant.form
          ∙ ap (λ i. (s ^ i * p) % n) (next_bit c.args.e c.bits.i (omega arith));
    }

pub multiply-requires-2-clause-below : goal.multiply-requires-2-clause-below
multiply-requires-2-clause-below c =
    let large : 1 < value c.args.n.now = c.requires.ready.large in
    let some : 0 < length c.args.n.now = some_words c.args.n.now (omega arith) in
    let is = value_of_one c.fill-2.new.self _ (c.fill-2.ensures.after (λ y e. e)) (omega arith) in
    rw is large

pub returns-then-e-eq0 : goal.returns-then-e-eq0
returns-then-e-eq0 c =
    let large : 1 < value c.args.n.now = c.requires.ready.large in
    let some : 0 < length c.args.n.now = some_words c.args.n.now (omega arith) in
    value_of_one c.fill.new.self _ (c.fill.ensures.after (λ y e. e)) (omega arith)
    ∙ sym (mod-eq_of_lt large)
    ∙ ap (λ z. z % value c.args.n.now) (sym (pow-zero (value c.args.s.now)))
    ∙ ap (λ i. value c.args.s.now ^ i % value c.args.n.now) (sym c.if-e-eq0.true)

pub returns : goal.returns
returns c =
    let n : ℕ = value c.args.n.now in
    let k : ℕ = length c.args.n.now in
    let p : ℕ = (2 ^ 64) ^ k in
    let s : ℕ = value c.args.s.now in
    let large : 1 < n = c.requires.ready.large in
    let some : 0 < k = some_words c.args.n.now (omega arith) in
    let none : c.bits.i ≡ 0 = omega arith in
    let whole : c.args.e / 2 ^ c.bits.i ≡ c.args.e = ap (λ i. c.args.e / 2 ^ i) none ∙ div-one c.args.e in
    out_of_form n p (value c.bits.x) (value (set c.fill-2.new.self 0 1)) (value c.multiply-2.new.t) (s ^ c.args.e)
    (cancels_base n k c.requires.ready.odd) c.multiply-2.ensures.below
    (rw c.copy_from_slice-2.ensures.after at c.multiply-2.ensures.product)
    (value_of_one c.fill-2.new.self _ (c.fill-2.ensures.after (λ y e. e)) (omega arith))
    (c.bits.invariant.form ∙ ap (λ i. (s ^ i * p) % n) whole)
