use Rattle.std.proofs.Common.{◌≡◌, ◌++◌, length}
use Rattle.cli_files.specs.Names.{shown, shown_behind}
use Rattle.cli_files.proofs.names.push_shown.Given as goal

-- the line so far, and what is shown of the octets that are left, are all
abbrev pub invariant-loop-first : goal.invariant-loop-first
invariant-loop-first l = l.line.items ++ shown_behind l.colon l.left ≡ l.fn.line.items ++ shown l.octets

abbrev pub decreases-loop-first : goal.decreases-loop-first
decreases-loop-first l = length l.left
