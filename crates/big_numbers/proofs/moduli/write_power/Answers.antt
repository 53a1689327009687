use Rattle.std.proofs.Common.{ℕ, ◌%◌, ◌^◌, ◌<◌, length, ap, sym, subst, ◌∙◌, arith}
use Rattle.std.proofs.Math.Nat.{mod-lt}
use Rattle.big_numbers.specs.Numbers.{i2osp, value}
use Rattle.big_numbers.specs.Exponents.{exponent_of}
use Rattle.big_numbers.proofs.moduli.write_power.Goals as goal

pub write_number-requires-clause-fits : goal.write_number-requires-clause-fits
write_number-requires-clause-fits c =
    let n : ℕ = value c.args.n.now in
    let large : 1 < n = c.requires.ready.large in
    let below : value c.read_octets.new.words ^ exponent_of c.args.exponent % n < n = mod-lt _ (omega arith) in
    let fits : n < 256 ^ length c.args.power.now = c.requires.fits in
    subst (λ z. z < 256 ^ length c.args.power.now) (sym c.put_any_power.ensures) (omega arith)

pub returns-clause-power : goal.returns-clause-power
returns-clause-power c = λ t.
    let n : ℕ = value c.args.n.now in
    c.write_number.ensures
    ∙ ap (λ z. i2osp z (length c.args.power.now))
    (c.put_any_power.ensures ∙ ap (λ s. s ^ exponent_of c.args.exponent % n) c.read_octets.ensures)
