use Rattle.std.proofs.Common.{◌≡◌, ◌≤◌, ◌-◌, Bool}
use Rattle.trust_lists.specs.Asking.{Asked, is_among}
use Rattle.cli_commands.specs.Rereading.{IsUnread}
use Rattle.cli_commands.proofs.checking.verdict_within.Given as goal

-- the step is within the limit; nothing was read of the file that counts, nothing of the content, and nothing failed
abbrev pub invariant-loop-rooms : goal.invariant-loop-rooms
invariant-loop-rooms g l = record {
  unread : IsUnread g.F.Seek.stream_position l.fn.file.file l.file.file;
  failed : l.file.failed ≡ l.fn.file.failed;
  within : l.rooms.step ≤ l.limit;
  content : l.content ≡ l.fn.content;
  stays : l.checker ≡ l.fn.checker;
  vouched : ◌≡◌ {A = Asked → Bool} (λ q. is_among l.answers q) (λ q. is_among l.fn.answers q);
}

abbrev pub decreases-loop-rooms : goal.decreases-loop-rooms
decreases-loop-rooms g l = l.limit - l.rooms.now
