use Rattle.std.proofs.Common.{◌∙◌}
use Rattle.std.proofs.lemmas.Result.{err_from_is_err_and}
use Rattle.cli_making.proofs.Records.{fails_at, was_put}
use Rattle.cli_making.proofs.Adding.{adds_none}
use Rattle.cli_making.proofs.lines.write_line.Goals as goal

pub returns-in_err-file-clause-none : goal.returns-in_err-file-clause-none
returns-in_err-file-clause-none g c =
    let p = err_from_is_err_and c.from_residual.result c.from_residual.ensures.1 in
    rw p.1 (adds_none _)

pub returns-clause-put : goal.returns-clause-put
returns-clause-put g c =
    was_put c.args.by.now.tree.now c.args.by.now.token.now c.args.sum.now g.P.Puts.ways c.args.folder.now _ _ _ _
    (c.text_of-name.ensures ∙ c.as_slice.ensures.value) c.as_slice-2.ensures.value c.in_ok-file.ensures.made
    g.P.Puts.did _
    _ c.put_file.result c.put_file.ensures.did c.put_file.ensures.adds

pub returns-clause-fails : goal.returns-clause-fails
returns-clause-fails g c =
    fails_at c.args.by.now.tree.now c.args.by.now.token.now c.args.sum.now g.P.Puts.ways c.args.folder.now _ _ _ _
    (c.text_of-name.ensures ∙ c.as_slice.ensures.value) c.as_slice-2.ensures.value c.in_ok-file.ensures.made
    c.put_file.result c.put_file.ensures.fails
