use Rattle.std.proofs.Common.{◌∙◌, ap, Some}
use Rattle.std.specs.Option.{option_copied}
use Rattle.check_evidence.proofs.Tests.{no_others}
use Rattle.check_evidence.proofs.list_tests.has_no_others.Goals as goal

pub returns-in-Some-next : goal.returns-in-Some-next
returns-in-Some-next c = λ due are. no_others (option_copied c.args.lists) c.in-Some-next.first
    c.in-Some-next.field-0-1 due c.are_all_of.result (ap option_copied c.in-Some.is ∙ ap Some c.in-Some-next.ensures)
    (c.are_all_of.ensures due are)
