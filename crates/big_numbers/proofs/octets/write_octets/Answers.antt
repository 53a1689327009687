use Rattle.std.proofs.Common.{length, refl}
use Rattle.big_numbers.proofs.WriteSteps.{write_goes_on}
use Rattle.big_numbers.proofs.octets.write_octets.Goals as goal

pub octets-preserved : goal.octets-preserved
octets-preserved c =
    write_goes_on c.octets.octets c.args.words.now
    (length c.args.octets.now) c.octets.i _ c.octets.auto.octets c.octets-test.true
    c.requires (λ k. (c.type_inv.words k).fits) refl c.octets.invariant
