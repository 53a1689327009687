use Rattle.std.proofs.Common.{◌≡◌, ℕ, ◌+◌, ◌*◌, ◌%◌, ◌^◌, length, ap, sym, ◌∙◌, arith}
use Rattle.std.specs.Int.{from_bool}
use Rattle.big_numbers.specs.Numbers.{value}
use Rattle.big_numbers.proofs.Forms.{cancels_base, product_of_forms}
use Rattle.big_numbers.proofs.PowerSteps.{squared, and_once_more}
use Rattle.big_numbers.proofs.powers.next_power.Goals as goal

pub returns-then-is_wanted-clause-form : goal.returns-then-is_wanted-clause-form
returns-then-is_wanted-clause-form c = λ s k base x.
    let n : ℕ = value c.args.n.now in
    let p : ℕ = (2 ^ 64) ^ length c.args.n.now in
    let cancels = cancels_base n (length c.args.n.now) c.requires.odd in
    let square =
    product_of_forms n p (value c.args.x.now) (value c.args.x.now) (value c.square.new.x) (s ^ k) (s ^ k) cancels
    c.square.ensures.below c.square.ensures.product x x in
    product_of_forms n p (value c.square.new.x) (value c.args.base.now) (value c.times.new.x) (s ^ k * s ^ k) s cancels
    c.times.ensures.below c.times.ensures.product square base
    ∙ ap (λ z. (z * p) % n) (and_once_more s k)
    ∙ ap (λ b. (s ^ (2 * k + from_bool b) * p) % n) (sym c.if-is_wanted.true)

pub returns-else-is_wanted-clause-form : goal.returns-else-is_wanted-clause-form
returns-else-is_wanted-clause-form c = λ s k base x.
    let n : ℕ = value c.args.n.now in
    let p : ℕ = (2 ^ 64) ^ length c.args.n.now in
    product_of_forms n p (value c.args.x.now) (value c.args.x.now) (value c.square.new.x) (s ^ k) (s ^ k)
    (cancels_base n (length c.args.n.now) c.requires.odd) c.square.ensures.below c.square.ensures.product x x
    ∙ ap (λ z. (z * p) % n) (squared s k)
    ∙ ap (λ i. (s ^ i * p) % n) (let q : 2 * k ≡ 2 * k + 0 = omega arith in q)
    ∙ ap (λ b. (s ^ (2 * k + from_bool b) * p) % n) (sym c.if-is_wanted.false)
