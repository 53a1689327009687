use Rattle.std.proofs.Common.{◌≡◌, ◌++◌, length}
use Rattle.cms_types.specs.Tokens.{tokens_in}
use Rattle.cms_types.proofs.tokens.Tokens.next.Given as goal

-- the tokens that are left in this attribute, followed by those of the attributes after it, are all the tokens
abbrev pub invariant-loop-token : goal.invariant-loop-token
invariant-loop-token l = l.self ≡ l.current ++ tokens_in l.left

abbrev pub decreases-loop-token : goal.decreases-loop-token
decreases-loop-token l = length l.left
