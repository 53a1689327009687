use Rattle.std.proofs.Common.{IsSome, rules}
use Rattle.digests.specs.Digests.{octets_of}
use Rattle.library_records.proofs.Records.{leaf_of_digest, leads_up}
use Rattle.library_records.proofs.record.lists_in.Goals as goal

pub returns-in-Some-clause-leaf : goal.returns-in-Some-clause-leaf
returns-in-Some-clause-leaf c =
    leaf_of_digest (IsSome c.lists_of.result) c.args.tree.now c.args.digest.now c.in-Some.leaf
    (c.in-Some.ensures.some.0 (search rules)) c.in-Some.ensures.is c.lists_of.ensures.some

pub returns-in-Some-clause-up : goal.returns-in-Some-clause-up
returns-in-Some-clause-up c =
    leads_up c.lists_of.result c.args.tree.now (octets_of c.in-Some.leaf) c.args.digest.now c.in-Some.ensures.is.is
    c.lists_of.ensures.way c.lists_of.ensures.lists
