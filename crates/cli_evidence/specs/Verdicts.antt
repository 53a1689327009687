-- What a verdict about an evidence record says.
use Rattle.std.specs.Prelude.{◌≡◌, ℕ, List, Result, Ok, Err}
use Rattle.check_evidence.specs.declared.rules.EvidenceRefused.{EvidenceRefused}
use Rattle.lines_report.specs.VerdictLine.{IsVerdictLine}
use Rattle.cli_failures.specs.declared.failure.Failure.{Failure}
use Rattle.cli_failures.specs.declared.failure.Failure.TheVariants as failure

-- a record is accepted, and the text is the line that says so
abbrev pub TellsAccepted : Result ℕ EvidenceRefused → (text : List ℕ) → Type 0
TellsAccepted (Ok m) text = IsVerdictLine (Ok m) text
TellsAccepted (Err why) text = ⊥

-- the failure is that of a verdict: it was a refusal, or memory ran out for the line
abbrev pub TellsRefused : Result ℕ EvidenceRefused → Failure → Type 0
TellsRefused (Ok m) f = f ≡ failure.Memory
TellsRefused (Err why) f = f ≡ failure.Unshown why
