use Rattle.std.proofs.Common.{◌∙◌, ap, Some}
use Rattle.std.specs.Option.{option_copied}
use Rattle.check_evidence.proofs.Tests.{covered_by, one_covered, covers_first}
use Rattle.check_evidence.proofs.list_tests.are_covered.Goals as goal

pub returns-in_default-clause-covered : goal.returns-in_default-clause-covered
returns-in_default-clause-covered c = λ due are. one_covered (option_copied c.args.lists) due c.only.result
    c.is_some.result (ap option_copied c.in_default.is) (c.only.ensures.one due are) c.is_some.ensures

pub returns-in_default-clause-first : goal.returns-in_default-clause-first
returns-in_default-clause-first c = λ due are h some. covers_first (option_copied c.args.lists) due
    ((one_covered (option_copied c.args.lists) due c.only.result c.is_some.result (ap option_copied c.in_default.is)
    (c.only.ensures.one due are) c.is_some.ensures).0 h) some

pub returns-in-Some-next-clause-covered : goal.returns-in-Some-next-clause-covered
returns-in-Some-next-clause-covered c = λ due are.
    covered_by (option_copied c.args.lists) c.in-Some-next.first c.in-Some-next.field-0-1 due c.are_among.result
    (ap option_copied c.in-Some.is ∙ ap Some c.in-Some-next.ensures) (c.are_among.ensures due are)

pub returns-in-Some-next-clause-first : goal.returns-in-Some-next-clause-first
returns-in-Some-next-clause-first c = λ due are h some. covers_first (option_copied c.args.lists) due
    ((covered_by (option_copied c.args.lists) c.in-Some-next.first c.in-Some-next.field-0-1 due c.are_among.result
    (ap option_copied c.in-Some.is ∙ ap Some c.in-Some-next.ensures) (c.are_among.ensures due are)).0 h) some
