use Rattle.std.proofs.Common.{take}
use Rattle.big_numbers.specs.Numbers.{value}
use Rattle.big_numbers.proofs.ModulusSteps.{bits_kept, octets_filled}
use Rattle.big_numbers.proofs.moduli.Modulus.bits.Goals as goal

pub returns-clause-bits : goal.returns-clause-bits
returns-clause-bits c =
    bits_kept c.args.self.now
    (value (take c.self.inside.count c.self.inside.words)) c.self.inside.size c.self.inside.bits
    c.self.invariant.fits c.self.view_is c.self.invariant.modulus c.self.invariant.are_bits

pub returns-clause-octets : goal.returns-clause-octets
returns-clause-octets c =
    octets_filled c.args.self.now (value (take c.self.inside.count c.self.inside.words)) c.self.inside.size
    c.self.inside.bits c.self.invariant.fits c.self.view_is c.self.invariant.modulus c.self.invariant.are_bits
