use Rattle.std.proofs.Common.{inl, inr}
use Rattle.cli_commands.proofs.Malformed.{fault_reported, refusal_reported}
use Rattle.cli_commands.proofs.Undone.{reported}
use Rattle.cli_words.specs.declared.meaning.Meaning.TheVariants as meaning
use Rattle.cmsproof.proofs.NeverDone.{many_done, many_failed, many_malformed, many_refused}
use Rattle.cmsproof.proofs.run.run.Goals as goal

pub returns-in-Ok-Task-clause-malformed : goal.returns-in-Ok-Task-clause-malformed
returns-in-Ok-Task-clause-malformed g c = λ ends. inl (c.run.ensures.malformed ends)

pub returns-in-Ok-Task-clause-refused : goal.returns-in-Ok-Task-clause-refused
returns-in-Ok-Task-clause-refused g c = λ ends. inl (c.run.ensures.refused ends)

pub returns-in-Ok-Many-clause-done : goal.returns-in-Ok-Many-clause-done
returns-in-Ok-Many-clause-done g c = λ ends.
    let told = many_done g.R.File.Read.remaining g.R.File.Describes.says c.in-Ok-Many.many c.run-in-Ok-Many.result _ _
    c.run-in-Ok-Many.ensures.told ends in
    (meaning.Many c.in-Ok-Many.many, told.0, told.1, told.2)

pub returns-in-Ok-Many-clause-cut : goal.returns-in-Ok-Many-clause-cut
returns-in-Ok-Many-clause-cut g c = λ ends.
    inl (
      meaning.Many c.in-Ok-Many.many,
      many_failed g.R.File.Read.remaining g.R.File.Describes.says c.in-Ok-Many.many c.run-in-Ok-Many.result _ _
          c.run-in-Ok-Many.ensures.told ends,
    )

pub returns-in-Ok-Many-clause-malformed : goal.returns-in-Ok-Many-clause-malformed
returns-in-Ok-Many-clause-malformed g c = λ ends.
    inr (
      c.in-Ok-Many.many,
      many_malformed g.R.File.Read.remaining g.R.File.Describes.says c.in-Ok-Many.many c.run-in-Ok-Many.result _ _
          c.run-in-Ok-Many.ensures.told ends,
    )

pub returns-in-Ok-Many-clause-refused : goal.returns-in-Ok-Many-clause-refused
returns-in-Ok-Many-clause-refused g c = λ ends.
    inr (
      c.in-Ok-Many.many,
      many_refused g.R.File.Read.remaining g.R.File.Describes.says c.in-Ok-Many.many c.run-in-Ok-Many.result _ _
          c.run-in-Ok-Many.ensures.told ends,
    )

pub returns-in-Ok-Evidence-clause-malformed : goal.returns-in-Ok-Evidence-clause-malformed
returns-in-Ok-Evidence-clause-malformed g c = λ ends. inl (c.run-in-Ok-Evidence.ensures.malformed ends)

pub returns-in-Ok-Evidence-clause-refused : goal.returns-in-Ok-Evidence-clause-refused
returns-in-Ok-Evidence-clause-refused g c = λ ends. inl (c.run-in-Ok-Evidence.ensures.refused ends)

pub returns-in-Err-clause-done : goal.returns-in-Err-clause-done
returns-in-Err-clause-done g c = λ ends. absurd (reported c.in-Err.failure c.report.result c.report.ensures.status ends)

pub returns-in-Err-clause-malformed : goal.returns-in-Err-clause-malformed
returns-in-Err-clause-malformed g c = λ ends.
    inl (fault_reported c.in-Err.failure c.report.result _ _ c.report.ensures.status c.report.ensures.told ends)

pub returns-in-Err-clause-refused : goal.returns-in-Err-clause-refused
returns-in-Err-clause-refused g c = λ ends.
    inl (refusal_reported c.in-Err.failure c.report.result _ _ c.report.ensures.status c.report.ensures.refused ends)
