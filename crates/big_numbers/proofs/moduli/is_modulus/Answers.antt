use Rattle.std.proofs.Common.{◌-◌, length, refl, arith}
use Rattle.std.proofs.lemmas.Bool.{false≢true}
use Rattle.big_numbers.proofs.OctetLaws.{large_by_length, last_octet}
use Rattle.big_numbers.proofs.moduli.is_modulus.Goals as goal

pub returns-then-octets-size-eq0 : goal.returns-then-octets-size-eq0
returns-then-octets-size-eq0 c =
    let last = last_octet c.args.octets.now (length c.args.octets.now - 1) (omega arith) in (
      λ never. absurd (false≢true never),
      λ k. absurd (omega (arith, last, k.odd, c.if-octets-size-eq0.true)),
    )

pub returns-then-size-gt1 : goal.returns-then-size-gt1
returns-then-size-gt1 c =
    let last = last_octet c.args.octets.now (length c.args.octets.now - 1) (omega arith) in (
      λ t. record {
        short = omega arith;
        first = omega arith;
        odd = omega (arith, last, c.if-octets-size-eq0.false);
        large = large_by_length c.args.octets.now (omega arith) c.if-size-gt1.true;
      },
      λ k. refl,
    )
