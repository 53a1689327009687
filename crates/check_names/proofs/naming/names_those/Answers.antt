use Rattle.std.proofs.Common.{rules}
use Rattle.check_names.proofs.naming.names_those.Goals.{then-not-v1, else-not-v1}
use Rattle.check_names.proofs.naming.names_those.Goals as goal

pub returns-then-not-v2-clause-named : goal.returns-then-not-v2-clause-named
returns-then-not-v2-clause-named g c = elim c.if-not-v1.branch [
  | then-not-v1 w ↦ search rules
  | else-not-v1 w ↦ search rules
]
