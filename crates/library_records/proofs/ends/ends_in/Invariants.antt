use Rattle.std.proofs.Common.{length}
use denote.Text.{Utf8}
use denote.Shadow.{shadow}
use Rattle.library_records.proofs.Stated.{EndsSoFar}
use Rattle.library_records.proofs.ends.ends_in.Given as goal

-- the ends so far, and those of the words that are left
abbrev pub invariant-loop-word : goal.invariant-loop-word
invariant-loop-word l = shadow (Utf8 l.left) × EndsSoFar l.text l.left l.ends.items

abbrev pub decreases-loop-word : goal.decreases-loop-word
decreases-loop-word l = length l.left
