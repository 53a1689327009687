use Rattle.std.proofs.Common.{◌∙◌, ◌++◌, codes, ap, sym, append_assoc}
use Rattle.std.proofs.lemmas.Result.{IfOk-weaker}
use Rattle.cli_failures.proofs.folder.path_of.Goals as goal

pub returns : goal.returns
returns c = IfOk-weaker c.format.result _ _ (λ s h. h ∙ sym (
    ap (λ x. x ++ codes ".ers") (append_assoc c.args.folder.now (codes "/") c.args.name.now)
    ∙ append_assoc c.args.folder.now (codes "/" ++ c.args.name.now) (codes ".ers"))) c.format.ensures.ok
