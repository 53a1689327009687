use Rattle.std.proofs.Common.{◌≡◌, ◌+◌, ◌++◌, length}
use Rattle.std.specs.String.{string_bytes}
use Rattle.lines_shown.specs.SignedLines.{signers_lines}
use Rattle.lines_shown.proofs.show_signed.push_signers.Given as goal

-- the signers that were shown and those that are left are all, and so are their lines
abbrev pub invariant-loop-signer : goal.invariant-loop-signer
invariant-loop-signer l = record {
  counted : l.number + length l.left ≡ l.total;
  lines : string_bytes l.text ++ signers_lines (l.number + 1) l.left
      ≡ string_bytes l.fn.text ++ signers_lines 1 l.fn.signers;
}

abbrev pub decreases-loop-signer : goal.decreases-loop-signer
decreases-loop-signer l = length l.left
