use Rattle.std.proofs.Common.{sym, ◌∙◌}
use Rattle.evidence_sums.specs.Lines.{lines_of}
use Rattle.evidence_sums.proofs.Places.{no_octets}
use Rattle.evidence_sums.proofs.Recorded.{next_formed, next_record, next_sum, no_record}
use Rattle.evidence_sums.proofs.records.RecordSums.next.Goals as goal

pub returns-then-is_empty : goal.returns-then-is_empty
returns-then-is_empty c = sym c.self.view_is
    ∙ no_record c.self.inside.alg (lines_of c.self.inside.left.now)
    (sym c.behind_continued-left.ensures
    ∙ no_octets c.behind_continued-left.result.now (sym c.is_empty.ensures ∙ c.if-is_empty.true))

pub invariant_of-result : goal.invariant_of-result
invariant_of-result c = (
  next_sum c.self.inside.alg (lines_of c.self.inside.left.now) c.first_line.result.0.now
      (lines_of c.first_line.result.1.now) (sym c.behind_continued-left.ensures ∙ c.first_line.ensures.cut)
      c.self.invariant,
  next_formed c.self.inside.alg (lines_of c.self.inside.left.now) c.first_line.result.0.now
      (lines_of c.first_line.result.1.now) (sym c.behind_continued-left.ensures ∙ c.first_line.ensures.cut)
      c.self.invariant,
)

pub invariant_of-result-2 : goal.invariant_of-result-2
invariant_of-result-2 c =
    next_formed c.self.inside.alg (lines_of c.self.inside.left.now) c.first_line.result.0.now
    (lines_of c.first_line.result.1.now) (sym c.behind_continued-left.ensures ∙ c.first_line.ensures.cut)
    c.self.invariant

pub returns : goal.returns
returns c = sym c.self.view_is
    ∙ next_record c.self.inside.alg (lines_of c.self.inside.left.now) c.first_line.result.0.now
    (lines_of c.first_line.result.1.now) (sym c.behind_continued-left.ensures ∙ c.first_line.ensures.cut)
