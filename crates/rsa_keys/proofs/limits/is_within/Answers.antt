use Rattle.std.proofs.Common.{◌-◌, length, arith}
use Rattle.std.proofs.lemmas.Bool.{false≢true, le-leb, leb-true}
use Rattle.big_numbers.proofs.OctetLaws.{last_octet}
use Rattle.rsa_keys.proofs.limits.is_within.Goals as goal

pub returns-then-n-size-eq0 : goal.returns-then-n-size-eq0
returns-then-n-size-eq0 c =
    let last = last_octet c.args.n.now (length c.args.n.now - 1) (omega arith) in (
      λ never. absurd (false≢true never),
      λ k. absurd (omega (arith, last, k.odd, c.if-n-size-eq0.true)),
    )

pub returns : goal.returns
returns c =
    let last = last_octet c.args.n.now (length c.args.n.now - 1) (omega arith) in (
      λ t. record {
        first = omega arith;
        least = omega (arith, c.if-size-n-lt-LEAST_BITS.false);
        most = omega arith;
        odd = omega (arith, last, c.if-n-size-eq0.false);
        exponent_first = omega arith;
        exponent_most = omega arith;
        exponent_odd = omega (arith, c.word_of-exponent.ensures, c.if-exponent-eq0.false);
        exponent_least = omega (arith, c.word_of-exponent.ensures, leb-true 3 c.word_of-exponent.result t);
      },
      λ k. le-leb 3 c.word_of-exponent.result (omega (arith, c.word_of-exponent.ensures, k.exponent_least)),
    )
