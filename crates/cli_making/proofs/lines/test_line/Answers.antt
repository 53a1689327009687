use Rattle.std.proofs.Common.{◌∙◌}
use Rattle.cli_making.proofs.Records.{can_put, fails_at}
use Rattle.cli_making.proofs.lines.test_line.Goals as goal

pub returns-clause-can : goal.returns-clause-can
returns-clause-can g c =
    can_put c.args.by.now.tree.now c.args.by.now.token.now c.args.sum.now g.P.Puts.ways c.args.folder.now _ _ _ _
    (c.text_of-name.ensures ∙ c.as_slice.ensures.value) c.as_slice-2.ensures.value c.in_ok-file.ensures.made
    c.test_file.result c.test_file.ensures.can

pub returns-clause-fails : goal.returns-clause-fails
returns-clause-fails g c =
    fails_at c.args.by.now.tree.now c.args.by.now.token.now c.args.sum.now g.P.Puts.ways c.args.folder.now _ _ _ _
    (c.text_of-name.ensures ∙ c.as_slice.ensures.value) c.as_slice-2.ensures.value c.in_ok-file.ensures.made
    c.test_file.result c.test_file.ensures.fails
