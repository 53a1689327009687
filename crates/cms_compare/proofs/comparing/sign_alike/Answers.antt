use Rattle.std.proofs.Common.{rules}
use Rattle.cms_compare.proofs.Judged.{alike_by_tails}
use Rattle.cms_compare.proofs.comparing.sign_alike.Goals as goal

pub returns-then-eq : goal.returns-then-eq
returns-then-eq c = alike_by_tails c.args.signer.now c.args.other.now c.in-Some-Some.tail.now c.in-Some-Some.others.now
    (search rules) (search rules)
    (search rules) c.is_same.result c.is_same.ensures
