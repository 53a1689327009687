use Rattle.std.proofs.Common.{◌≡◌, Some}
use Rattle.judge_evidence.specs.Walking.{IsBegunBy}
use Rattle.judge_evidence.proofs.Judging.{begun_some, begun_none}
use Rattle.judge_evidence.proofs.walk.run_past.Goals as goal
use Rattle.judge_evidence.proofs.walk.run_past.Goals.{in-Some, in-None}

pub returns-clause-begun : goal.returns-clause-begun
returns-clause-begun c =
    let lists = c.args.place.now.stamp.lists in
    elim c.match-run.branch [
      | in-Some w ↦
          begun_some _ (Unit {0}) c.args.run.now.begun w.in-Some.begun c.match-run.begun w.in-Some.is w.begun-is
      | in-None w ↦
          begun_none (IsBegunBy lists c.args.fit.now.alg c.args.covered.now c.args.fit.now.moment c.args.alone)
          (λ b. Some c.match-run.begun ≡ Some b)
          c.args.run.now.begun c.match-run.begun w.begun-begun.result w.in-None.is w.begun-is w.begun-begun.ensures
    ]
