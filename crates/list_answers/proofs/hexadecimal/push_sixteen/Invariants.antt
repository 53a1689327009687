use Rattle.std.proofs.Common.{◌≡◌, ◌+◌, ◌++◌, take, vec_len, vec_capacity}
use Rattle.list_answers.proofs.hexadecimal.push_sixteen.Given as goal

-- as many octets were appended as were taken, in their order
abbrev pub invariant-loop-octet : goal.invariant-loop-octet
invariant-loop-octet l = record {
  room : vec_capacity l.octets ≡ vec_capacity l.fn.octets;
  so_far : vec_len l.octets ≡ vec_len l.fn.octets + l.octet-index;
  items : l.octets.items ≡ l.fn.octets.items ++ take l.octet-index l.octet-items;
}
