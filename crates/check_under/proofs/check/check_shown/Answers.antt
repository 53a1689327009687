use Rattle.std.proofs.Common.{subst}
use Rattle.check_verdict.specs.Checkers.{CheckerValue}
use Rattle.check_stream.specs.Promises.{Promised}
use Rattle.check_stream.specs.StreamVerdicts.{given, judge}
use Rattle.check_under.proofs.check.check_shown.Goals as goal

pub returns-clause-promised : goal.returns-clause-promised
returns-clause-promised g c = (
  c.policy_at.result,
  c.policy_at.ensures,
  subst (λ (k : CheckerValue). Promised
      (judge g.V.Verifier k.policy k.trust c.args.verifier.now c.check_stream_with.new.verifier)
      (given g.F.Source c.args.file.now c.check_stream_with.new.file c.args.buffer.now) g.S.Source c.args.content.now
      c.check_stream_with.new.content c.check_stream_with.result)
      c.beside-checker.ensures c.check_stream_with.ensures.promised,
)
