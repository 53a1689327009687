use Rattle.std.proofs.Common.{ℕ, arith}
use Rattle.std.proofs.lemmas.Bool.{false≢true}
use Rattle.big_numbers.specs.Numbers.{os2ip}
use Rattle.big_numbers.proofs.OctetLaws.{length-i2osp}
use Rattle.digests.specs.Digests.{alg_of}
use Rattle.rsa_signatures.specs.Pkcs1.{rsavp1}
use Rattle.rsa_signatures.specs.Pss.{em_len_of}
use Rattle.rsa_signatures.proofs.MaskSteps.{least}
use Rattle.rsa_signatures.proofs.salted_signatures.is_signature_in.Goals as goal

pub returns-then-size-lt2 : goal.returns-then-size-lt2
returns-then-size-lt2 c =
    let y : ℕ = rsavp1 (os2ip c.args.modulus.now) c.args.exponent (os2ip c.args.signature.now) in (
      λ never. absurd (false≢true never),
      λ r.
          absurd (omega (
            arith,
            r.consistent.room,
            least (alg_of c.args.digest.now),
            length-i2osp y (em_len_of c.args.modulus.now),
            c.bits-bits.ensures.count,
            c.bits-bits.ensures.octets,
            c.size-size.ensures.count,
            c.if-size-lt2.true,
          )),
    )
