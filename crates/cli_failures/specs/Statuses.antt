-- The exit statuses.
use Rattle.std.specs.Prelude.{ℕ}
use Rattle.cli_failures.specs.declared.status.Status.{Status}
use Rattle.cli_failures.specs.declared.status.Status.TheVariants.{Done, Refused, Malformed, Usage, Failed}

abbrev pub code_of : Status → ℕ
code_of Done = 0
code_of Refused = 1
code_of Malformed = 2
code_of Usage = 3
code_of Failed = 4
