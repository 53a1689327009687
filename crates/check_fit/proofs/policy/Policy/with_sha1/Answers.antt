use Rattle.std.proofs.Common.{ap}
use Rattle.digests.specs.declared.set.Algs.{Algs}
use Rattle.check_fit.specs.declared.policy.Policy.{Policy}
use Rattle.check_fit.specs.Fitting.{with_sha1}
use Rattle.check_fit.proofs.Policies.{same_set}
use Rattle.check_fit.proofs.policy.Policy.with_sha1.Goals as goal

abbrev allowing : Algs → Policy
allowing algs = record { allowed = algs }

pub returns : goal.returns
returns c = ap allowing (same_set c.with_sha1.result (with_sha1 c.args.sha1).allowed c.with_sha1.ensures)
