use Rattle.std.proofs.Common.{arith}
use Rattle.ecdsa_octets.proofs.ValueReaders.{found, only, none}
use Rattle.ecdsa_octets.proofs.value.SignatureFields.read.Goals as goal

pub returns-clause-found : goal.returns-clause-found
returns-clause-found c =
    found c.whole_of.result c.args.bytes.now (λ i. omega (arith, c.type_inv.bytes i)) c.whole_of.ensures

pub returns-clause-only : goal.returns-clause-only
returns-clause-only c v h = only c.whole_of.result c.args.bytes.now v c.whole_of.ensures h

pub returns-clause-none : goal.returns-clause-none
returns-clause-none c = none c.whole_of.result c.args.bytes.now c.whole_of.ensures
