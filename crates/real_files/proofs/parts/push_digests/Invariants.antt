use Rattle.std.proofs.Common.{◌≡◌, ◌++◌, length}
use Rattle.std.specs.String.{string_bytes}
use Rattle.real_files.specs.PartLines.{digest_lines}
use Rattle.real_files.proofs.parts.push_digests.Given as goal

-- the lines so far, and those of the algorithms that are left, are all
abbrev pub invariant-loop-algorithm : goal.invariant-loop-algorithm
invariant-loop-algorithm l =
    string_bytes l.text ++ digest_lines l.left ≡ string_bytes l.fn.text ++ digest_lines l.fn.listed

abbrev pub decreases-loop-algorithm : goal.decreases-loop-algorithm
decreases-loop-algorithm l = length l.left
