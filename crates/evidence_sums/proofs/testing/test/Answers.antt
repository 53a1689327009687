use Rattle.std.proofs.Common.{sym, ◌∙◌}
use Rattle.evidence_sums.specs.LineTests.{is_line}
use Rattle.evidence_sums.specs.Lines.{lines_of}
use Rattle.evidence_sums.proofs.Places.{all_pass, some_line}
use Rattle.evidence_sums.proofs.Tested.{all_passed}
use Rattle.evidence_sums.proofs.testing.test.Goals as goal

pub other_name-requires : goal.other_name-requires
other_name-requires c =
    all_pass (is_line c.args.may_continue c.args.alg) 1 (lines_of c.args.text.now)
    (sym c.other_line.ensures ∙ c.in_default-other_line.is)

pub returns-in-None-clause-lines : goal.returns-in-None-clause-lines
returns-in-None-clause-lines c =
    all_pass (is_line c.args.may_continue c.args.alg) 1 (lines_of c.args.text.now)
    (sym c.other_line.ensures ∙ c.in_default-other_line.is)

pub returns-in-None-clause-tested : goal.returns-in-None-clause-tested
returns-in-None-clause-tested c =
    all_passed c.args.may_continue c.args.alg (lines_of c.args.text.now)
    (sym c.first_continued.ensures ∙ c.in_default.is) (sym c.other_line.ensures ∙ c.in_default-other_line.is)
    (some_line c.args.text.now (sym c.is_empty.ensures ∙ c.if-is_empty.false))
    (sym c.other_name.ensures ∙ c.in-None.is)
