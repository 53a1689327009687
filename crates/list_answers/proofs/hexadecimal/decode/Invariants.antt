use Rattle.std.proofs.Common.{◌≡◌, ◌-◌, ◌≤◌, vec_len, vec_capacity}
use Rattle.list_answers.proofs.Decoding.{Decoded}
use Rattle.list_answers.proofs.hexadecimal.decode.Given as goal

-- the pairs so far are decoded, and there is room for the others
abbrev pub invariant-loop-done : goal.invariant-loop-done
invariant-loop-done l = record {
  within : l.done ≤ l.count;
  room : l.count ≤ vec_capacity l.octets;
  so_far : vec_len l.octets ≡ l.done;
  decoded : Decoded l.text l.octets.items l.done;
}

abbrev pub decreases-loop-done : goal.decreases-loop-done
decreases-loop-done l = l.count - l.done

abbrev pub invariant-loop-i : goal.invariant-loop-i
invariant-loop-i l = record {
  room : l.count ≤ vec_capacity l.octets;
  so_far : vec_len l.octets ≡ l.i;
  decoded : Decoded l.text l.octets.items l.i;
}
