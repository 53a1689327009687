use Rattle.std.proofs.Common.{take, List, Option, ℕ}
use Rattle.cli_renewing.specs.Records.{ArePut}
use Rattle.cli_renewing.specs.Renewing.{renewal}
use Rattle.cli_renewing.proofs.renew.put_records.Given as goal

-- the records so far are renewed, and were put, and no others
abbrev pub invariant-loop-path : goal.invariant-loop-path
invariant-loop-path g l = (news : List (Option (List ℕ)))
    × ArePut g.K.Keeps.ways (g.K.Keeps.put l.fn.keeps) (g.K.Keeps.put l.keeps)
    (renewal l.by.tree.now l.by.token.now l.by.moment) (take l.path-index l.paths) news
