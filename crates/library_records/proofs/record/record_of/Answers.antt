use Rattle.std.proofs.Common.{◌∙◌, rules}
use Rattle.library_records.proofs.Records.{record_is, not_made}
use Rattle.library_records.proofs.record.record_of.Goals as goal

pub returns-in-Ok-clause-made : goal.returns-in-Ok-clause-made
returns-in-Ok-clause-made c =
    record_is c.args.tree.now c.args.digest.now c.args.token.now (c.in-Some.ensures.leaf.0 (search rules))
    c.in_ok-moment_of.field-0 c.in_ok-moment_of.ensures.found c.alg.result (c.alg.ensures ∙ c.root.ensures.algorithm)
    c.in-Some.values c.in-Some.ensures.up c.in-Ok.octets.items c.in-Ok.ensures.made c.in-Ok.ensures.shows

pub returns-in-Err-clause-refused : goal.returns-in-Err-clause-refused
returns-in-Err-clause-refused c =
    rw c.from.ensures
    (not_made c.args.tree.now c.args.digest.now c.args.token.now (c.in-Some.ensures.leaf.0 (search rules))
    c.in_ok-moment_of.field-0 c.in_ok-moment_of.ensures.found c.alg.result (c.alg.ensures ∙ c.root.ensures.algorithm)
    c.in-Some.values c.in-Some.ensures.up c.make_record.result c.in-Err.fault c.in-Err.is
    c.make_record.ensures.too_long.0)
