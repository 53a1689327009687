use Rattle.std.proofs.Common.{◌≡◌, ℕ, ◌+◌, ◌*◌, ◌%◌, ◌^◌, ◌<◌, length, get_or, set, take, ap, sym, ◌∙◌, arith}
use Rattle.std.proofs.Math.Nat.{pow-zero}
use Rattle.std.proofs.lemmas.List.{take_all}
use Rattle.big_numbers.specs.Numbers.{os2ip, value}
use Rattle.big_numbers.proofs.Values.{value_of_one, some_words}
use Rattle.big_numbers.proofs.Forms.{cancels_base, into_form, out_of_form}
use Rattle.big_numbers.proofs.OctetSteps.{os2ip_more}
use Rattle.big_numbers.proofs.powers.put_long_power.Goals as goal

pub multiply-requires-2-clause-below : goal.multiply-requires-2-clause-below
multiply-requires-2-clause-below c =
    let large : 1 < value c.args.n.now = c.requires.ready.large in
    let some : 0 < length c.args.n.now = some_words c.args.n.now (omega arith) in
    let is = value_of_one c.fill.new.self _ (c.fill.ensures.after (λ y e. e)) (omega arith) in
    rw is large

pub multiply-requires-3-clause-below : goal.multiply-requires-3-clause-below
multiply-requires-3-clause-below c =
    let large : 1 < value c.args.n.now = c.requires.ready.large in
    let some : 0 < length c.args.n.now = some_words c.args.n.now (omega arith) in
    let is = value_of_one c.fill-2.new.self _ (c.fill-2.ensures.after (λ y e. e)) (omega arith) in
    rw is large

pub octets-init : goal.octets-init
octets-init c =
    let n : ℕ = value c.args.n.now in
    let k : ℕ = length c.args.n.now in
    let p : ℕ = (2 ^ 64) ^ k in
    let s : ℕ = value c.args.s.now in
    let large : 1 < n = c.requires.ready.large in
    let some : 0 < k = some_words c.args.n.now (omega arith) in
    record {
      length = c.multiply.ensures.length;
      below = c.multiply-2.ensures.below;
      form = into_form n p (value c.args.square.now) (value (set c.fill.new.self 0 1)) (value c.multiply-2.new.t)
          (cancels_base n k c.requires.ready.odd) c.multiply-2.ensures.below c.multiply-2.ensures.product
          c.requires.ready.is_square
          ∙ ap (λ z. (z * p) % n)
          (value_of_one c.fill.new.self _ (c.fill.ensures.after (λ y e. e)) (omega arith) ∙ sym (pow-zero s));
    }

pub octets-preserved : goal.octets-preserved
octets-preserved c =
    let n : ℕ = value c.args.n.now in
    let k : ℕ = length c.args.n.now in
    let p : ℕ = (2 ^ 64) ^ k in
    let s : ℕ = value c.args.s.now in
    let more : os2ip (take c.octets.i c.args.exponent.now) * 256 + get_or c.args.exponent.now c.octets.i 0
    ≡ os2ip (take (c.octets.i + 1) c.args.exponent.now) =
    sym (os2ip_more c.args.exponent.now c.octets.i c.octets-test.true) in
    record {
      length = c.octets.invariant.length;
      below = c.next_octet.ensures.below;
      form = c.next_octet.ensures.form s (os2ip (take c.octets.i c.args.exponent.now))
          (into_form n p (value c.args.square.now) s (value c.multiply.new.t) (cancels_base n k c.requires.ready.odd)
          c.multiply.ensures.below c.multiply.ensures.product c.requires.ready.is_square)
          c.octets.invariant.form
          ∙ ap (λ i. (s ^ i * p) % n) more;
    }

pub returns : goal.returns
returns c =
    let n : ℕ = value c.args.n.now in
    let k : ℕ = length c.args.n.now in
    let p : ℕ = (2 ^ 64) ^ k in
    let s : ℕ = value c.args.s.now in
    let large : 1 < n = c.requires.ready.large in
    let some : 0 < k = some_words c.args.n.now (omega arith) in
    out_of_form n p (value c.octets.x) (value (set c.fill-2.new.self 0 1)) (value c.multiply-3.new.t)
    (s ^ os2ip c.args.exponent.now) (cancels_base n k c.requires.ready.odd) c.multiply-3.ensures.below
    (rw c.copy_from_slice.ensures.after at c.multiply-3.ensures.product)
    (value_of_one c.fill-2.new.self _ (c.fill-2.ensures.after (λ y e. e)) (omega arith))
    (c.octets.invariant.form
    ∙ ap (λ xs. (s ^ os2ip xs * p) % n) (take_all c.octets.i c.args.exponent.now (omega arith)))
