use Rattle.library_records.proofs.Trees.{stamps_not}
use Rattle.library_records.proofs.tree.moment_of.Goals as goal

pub returns-in-Err-clause-refused : goal.returns-in-Err-clause-refused
returns-in-Err-clause-refused c =
    stamps_not c.args.tree.now c.args.token.now c.root-root.result
    (record { algorithm = c.root-root.ensures.algorithm; octets = c.root-root.ensures.octets }) c.stamp_of_root.result
    c.in-Err.fault c.in-Err.is c.stamp_of_root.ensures.malformed c.stamp_of_root.ensures.differs
    c.stamp_of_root.ensures.no_order
