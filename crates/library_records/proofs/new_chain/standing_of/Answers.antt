use Rattle.library_records.proofs.NewChains.{stands_on_nothing}
use Rattle.library_records.proofs.new_chain.standing_of.Goals as goal

pub returns-in-Err-clause-refused : goal.returns-in-Err-clause-refused
returns-in-Err-clause-refused c =
    rw c.from.ensures
    (stands_on_nothing c.args.octets.now c.args.alone c.args.digests.now c.rehash_leaf.result c.in-Err.fault c.in-Err.is
    c.rehash_leaf.ensures.no_stamp c.rehash_leaf.ensures.unnamed c.rehash_leaf.ensures.malformed)
