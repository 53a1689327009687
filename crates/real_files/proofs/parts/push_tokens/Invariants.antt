use Rattle.std.proofs.Common.{◌≡◌, ◌++◌, length}
use Rattle.std.specs.String.{string_bytes}
use Rattle.real_files.specs.PartLines.{token_lines}
use Rattle.real_files.proofs.parts.push_tokens.Given as goal

-- the lines so far, and those of the tokens that are left, are all
abbrev pub invariant-loop-token : goal.invariant-loop-token
invariant-loop-token l = string_bytes l.text ++ token_lines l.left ≡ string_bytes l.fn.text ++ token_lines l.fn.tokens

abbrev pub decreases-loop-token : goal.decreases-loop-token
decreases-loop-token l = length l.left
