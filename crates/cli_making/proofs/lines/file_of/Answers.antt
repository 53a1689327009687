use Rattle.std.proofs.Common.{◌≡◌, Err, rules}
use Rattle.std.proofs.lemmas.Result.{err_from_is_err_and}
use Rattle.cli_making.proofs.Records.{its_file, not_made}
use Rattle.cli_making.proofs.lines.file_of.Goals as goal

pub returns-in_err-octets-clause-fails : goal.returns-in_err-octets-clause-fails
returns-in_err-octets-clause-fails c =
    let p = err_from_is_err_and c.from_residual.result c.from_residual.ensures.1 in
    let failed : c.record_of.result ≡ Err c.in_err-octets.field-0.0 = search rules in
    rw (p.1, p.2)
    (not_made c.args.by.now.tree.now c.args.by.now.token.now c.args.sum.now c.record_of.result
    c.in_err-octets.field-0.0 failed c.record_of.ensures.too_long)

pub returns-clause-made : goal.returns-clause-made
returns-clause-made c =
    its_file c.args.by.now.tree.now c.args.by.now.token.now c.args.sum.now c.in_ok-name.name.items
    c.in_ok-octets.octets.items c.in_ok-name.ensures c.in_ok-octets.ensures.made
