use Rattle.lines_report.proofs.Lines.{lines_are_unique}
use Rattle.lines_report.proofs.laws.answers_have_one_line.Goals as goal

pub returns : goal.returns
returns c = lines_are_unique
