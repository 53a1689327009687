use Rattle.std.proofs.Common.{◌≡◌, ◌≤◌, ◌-◌}
use Rattle.std.specs.Io.KnownBytes.{Keeps}
use Rattle.cli_commands.specs.Rereading.{IsUnread}
use Rattle.cli_commands.proofs.asking.asked_within.Given as goal

-- the step is within the limit; nothing was read of the file that counts, nothing was printed, and nothing failed
abbrev pub invariant-loop-rooms : goal.invariant-loop-rooms
invariant-loop-rooms g l = record {
  unread : IsUnread g.F.Seek.stream_position l.fn.file.file l.file.file;
  failed : l.file.failed ≡ l.fn.file.failed;
  within : l.rooms.step ≤ l.limit;
  kept : Keeps (g.O.Write.contents l.fn.out) (g.O.Write.contents l.out);
}

abbrev pub decreases-loop-rooms : goal.decreases-loop-rooms
decreases-loop-rooms g l = l.limit - l.rooms.now
