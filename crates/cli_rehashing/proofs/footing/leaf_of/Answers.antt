use Rattle.std.proofs.Common.{refl}
use Rattle.cli_rehashing.proofs.Lines.{no_leaf}
use Rattle.cli_rehashing.proofs.footing.leaf_of.Goals as goal

pub returns-in-Err-clause-refused : goal.returns-in-Err-clause-refused
returns-in-Err-clause-refused c =
    rw c.from.ensures
    (no_leaf c.args.octets.now c.args.alone c.args.digests.now _ c.in-Err.fault refl c.in-Err.ensures.no_stamp.0
    c.in-Err.ensures.unnamed.0 c.in-Err.ensures.malformed)
