use Rattle.std.proofs.Common.{◌≡◌, ℕ, ◌+◌, ◌-◌, ◌*◌, ◌%◌, ◌^◌, ◌<◌, length, ap, ◌∙◌, arith}
use Rattle.std.proofs.Math.Nat.{mod-lt}
use Rattle.big_numbers.specs.Numbers.{value}
use Rattle.big_numbers.proofs.Values.{value_of_one_at, some_words}
use Rattle.big_numbers.proofs.Forms.{cancels_base, product_of_forms}
use Rattle.big_numbers.proofs.PowerSteps.{first_form, squared_form, base_power}
use Rattle.big_numbers.proofs.powers.square_of_base.Goals as goal

pub double_often-requires-clause-below : goal.double_often-requires-clause-below
double_often-requires-clause-below c =
    let k : ℕ = length c.args.n.now in
    let some : 0 < k = some_words c.args.n.now (omega (arith, c.requires.long)) in
    let is =
    value_of_one_at c.fill.new.self (length c.args.x.now) (k - 1) (c.fill.ensures.after (λ y e. e)) (omega arith) in
    rw is c.requires.long

pub squares-init : goal.squares-init
squares-init c =
    let k : ℕ = length c.args.n.now in
    let n : ℕ = value c.args.n.now in
    let some : 0 < k = some_words c.args.n.now (omega (arith, c.requires.long)) in
    let is =
    value_of_one_at c.fill.new.self (length c.args.x.now) (k - 1) (c.fill.ensures.after (λ y e. e)) (omega arith) in
    record {
      below = rw c.double_often.ensures (mod-lt _ (omega arith));
      form = c.double_often.ensures ∙ ap (λ z. (2 ^ (64 + k) * z) % n) is
          ∙ ap (λ z. z % n) (first_form k (k - 1) (omega arith));
    }

pub squares-preserved : goal.squares-preserved
squares-preserved c =
    let k : ℕ = length c.args.n.now in
    let n : ℕ = value c.args.n.now in
    let a : ℕ = 2 ^ (k * 2 ^ c.squares._done) in
    record {
      below = c.square.ensures.below;
      form = product_of_forms n ((2 ^ 64) ^ k) (value c.squares.x) (value c.squares.x) (value c.square.new.x) a a
          (cancels_base n k c.requires.odd)
          c.square.ensures.below c.square.ensures.product c.squares.invariant.form c.squares.invariant.form
          ∙ ap (λ z. (z * (2 ^ 64) ^ k) % n) (squared_form k c.squares._done);
    }

pub returns-clause-form : goal.returns-clause-form
returns-clause-form c =
    let k : ℕ = length c.args.n.now in
    let n : ℕ = value c.args.n.now in
    let six : c.squares._done ≡ 6 = omega arith in
    c.squares.invariant.form ∙ ap (λ j. (2 ^ (k * 2 ^ j) * (2 ^ 64) ^ k) % n) six
    ∙ ap (λ z. (z * (2 ^ 64) ^ k) % n) (base_power k)
