use Rattle.std.proofs.Common.{◌≡◌, ◌+◌, length, take}
use Rattle.std.specs.Prelude.{sum}
use Rattle.library_records.proofs.data_objects.have_lengths.Given as goal

-- those so far, and the octets that are left
abbrev pub invariant-loop-length : goal.invariant-loop-length
invariant-loop-length l = sum (take l.length-index l.lengths) + l.left ≡ length l.joined
