use Rattle.std.proofs.Common.{◌≡◌, ◌+◌, ◌<◌, ◌^◌}
use Rattle.std.specs.Option.{option_copied}
use Rattle.list_answers.specs.TextSteps.{lines_left, room_of}
use Rattle.list_answers.proofs.texts.Lines.next.Given as goal

-- the lines that say something are those of what is left
abbrev pub invariant-loop-rest : goal.invariant-loop-rest
invariant-loop-rest l = record {
  lines : lines_left l.initial.before (option_copied l.initial.rest) ≡ lines_left l.before (option_copied l.rest);
  room : l.before + room_of (option_copied l.rest) < 2 ^ 64;
}

abbrev pub decreases-loop-rest : goal.decreases-loop-rest
decreases-loop-rest l = room_of (option_copied l.rest)
