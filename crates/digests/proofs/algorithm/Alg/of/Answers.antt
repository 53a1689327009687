use Rattle.digests.proofs.Named.{plain_named, other_named}
use Rattle.digests.proofs.algorithm.Alg.of.Goals as goal

pub returns-then-is_plain-clause-named : goal.returns-then-is_plain-clause-named
returns-then-is_plain-clause-named c =
    plain_named _ _ _ _ c.bytes.ensures.octets c.is_plain.ensures c.if-is_plain.true c.identified.ensures.found
    c.identified.ensures.only

pub returns-else-is_plain-clause-named : goal.returns-else-is_plain-clause-named
returns-else-is_plain-clause-named c = other_named c.args.oid.now _ _ c.is_plain.ensures c.if-is_plain.false
