use Rattle.std.proofs.Common.{ap}
use Rattle.std.specs.Option.{option_copied}
use Rattle.check_evidence.proofs.OneDigest.{one_is_root, none_is_root, one_if_covered}
use Rattle.check_evidence.proofs.list_root.root_of.Goals as goal

pub returns-in_default-clause-root : goal.returns-in_default-clause-root
returns-in_default-clause-root c = λ due are. one_is_root c.args.alg (option_copied c.args.lists) due c.only.result
    (ap option_copied c.in_default.is) (c.only.ensures.one due are)

pub returns-in_default-clause-none : goal.returns-in_default-clause-none
returns-in_default-clause-none c = λ due are. none_is_root c.args.alg (option_copied c.args.lists) due c.only.result
    (ap option_copied c.in_default.is) (c.only.ensures.one due are)

pub returns-in_default-clause-some : goal.returns-in_default-clause-some
returns-in_default-clause-some c = λ due are h some. one_if_covered (option_copied c.args.lists) due c.only.result
    (ap option_copied c.in_default.is) (c.only.ensures.one due are) h
