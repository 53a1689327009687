use Rattle.std.proofs.Common.{◌≡◌, ◌≤◌, ◌-◌, ◌++◌}
use Rattle.std.specs.String.{string_bytes}
use Rattle.lines_shown.specs.ResponseLines.{fail_lines}
use Rattle.lines_shown.proofs.show_response.push_fails.Given as goal

-- the lines so far, and those of the bits that are left, are all
abbrev pub invariant-loop-bit : goal.invariant-loop-bit
invariant-loop-bit l = record {
  within : l.bit ≤ l.total;
  lines : string_bytes l.text ++ fail_lines l.fn.bits l.bit (l.total - l.bit)
      ≡ string_bytes l.fn.text ++ fail_lines l.fn.bits 0 l.total;
}

abbrev pub decreases-loop-bit : goal.decreases-loop-bit
decreases-loop-bit l = l.total - l.bit
