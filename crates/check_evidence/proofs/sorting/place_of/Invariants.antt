use Rattle.std.proofs.Common.{◌≡◌, ◌++◌, take, drop}
use Rattle.check_evidence.specs.Joining.{put_in}
use Rattle.check_evidence.proofs.sorting.place_of.Given as goal

-- the node goes in after those that were passed
abbrev pub invariant-loop-place : goal.invariant-loop-place
invariant-loop-place l = put_in l.node l.values ≡ take l.place l.values ++ put_in l.node (drop l.place l.values)
