use Rattle.std.proofs.Common.{take}
use Rattle.cli_evidence.specs.Checking.{AreEndsIn}
use Rattle.cli_evidence.proofs.stated.ends_of.Given as goal

-- the ends that the words so far state
abbrev pub invariant-loop-word : goal.invariant-loop-word
invariant-loop-word l = AreEndsIn (take l.word-index l.words.items) l.ends.items
