use Rattle.std.proofs.Common.{◌≡◌, ℕ, List, Result, Ok, Err, refl, rules}
use Rattle.check_fit.specs.declared.rules.Refused.{Refused}
use Rattle.lines_report.specs.VerdictLine.{IsVerdictLine}
use Rattle.cli_commands.specs.Checking.{TellsAccepted}
use Rattle.cli_commands.proofs.checking.line_of.Goals as goal

-- the line of a verdict that isn't a refusal
accepted_line : (verdict : Result ℕ Refused) (line : List ℕ) → ((why : Refused) → verdict ≡ Err why → ⊥)
    → IsVerdictLine verdict line → TellsAccepted verdict line
accepted_line (Ok m) line accepts is = is
accepted_line (Err why) line accepts is = absurd (accepts why refl)

pub returns-in-Ok : goal.returns-in-Ok
returns-in-Ok c =
    accepted_line c.args.verdict c.into_inner.result.items c.in_default.not-Err (search rules)
