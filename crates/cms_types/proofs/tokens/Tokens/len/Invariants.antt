use Rattle.std.proofs.Common.{◌≡◌, ◌+◌, ◌≤◌, length}
use Rattle.cms_types.proofs.tokens.Tokens.len.Given as goal

-- the tokens counted so far and those that are left are all the tokens, and no more than there are octets
abbrev pub invariant-loop-first : goal.invariant-loop-first
invariant-loop-first l = record {
  counted : l.count + length l.left ≡ length l.fn.self;
  room : length l.fn.self ≤ l.most;
}

abbrev pub decreases-loop-first : goal.decreases-loop-first
decreases-loop-first l = length l.left
