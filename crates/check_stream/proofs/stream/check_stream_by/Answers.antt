use Rattle.std.proofs.Common.{◌≡◌, [], length}
use Rattle.digests.specs.Selection.{FedWanted}
use Rattle.check_verdict.specs.Passing.{Terms}
use Rattle.check_verdict.specs.Checkers.{terms_for}
use Rattle.check_fit.specs.FileFitting.{facts_of}
use Rattle.check_stream.specs.StreamVerdicts.{ChecksStreamAsking, given, judge}
use Rattle.check_stream.proofs.Verdicts.{if_stream, early_or_end}
use Rattle.check_stream.proofs.Devices.{if_devices}
use Rattle.check_stream.proofs.Promises.{promised}
use Rattle.check_stream.proofs.stream.check_stream_by.Goals as goal

pub returns-clause-promised : goal.returns-clause-promised
returns-clause-promised g c =
    let u : Terms = terms_for c.args.checker.now (g.V.Verifier.vouches c.args.verifier.now) in
    promised (judge g.V.Verifier c.args.checker.now.policy c.args.checker.now.trust c.args.verifier.now
    c.judge_pass.new.verifier)
    (given g.F.Source c.args.file.now c.pass_over-pass.new.file c.args.buffer.now) g.S.Source c.args.content.now
    c.judge_pass.new.content
    (g.met.F.Source.octets c.args.file.now) c.judge_pass.result
    (if_stream (ChecksStreamAsking (facts_of g.S.Source.tells g.S.Source.rest g.S.Source.failures) u
    (λ test. g.V.Verifier.asked_only test c.args.verifier.now c.judge_pass.new.verifier)
    (g.F.Source.rest c.args.file.now) c.args.content.now
    c.judge_pass.new.content)
    (g.F.Source.tells c.args.file.now) (FedWanted c.pass_over-pass.result.1) (g.F.Source.rest c.args.file.now)
    (length c.args.buffer.now)
    (g.F.Source.failures c.args.file.now)
    (g.F.Source.failures c.pass_over-pass.new.file) c.pass_over-pass.result.0 c.args.content.now
    c.judge_pass.new.content c.judge_pass.result
    c.pass_over-pass.ensures.opens c.pass_over-pass.ensures.count c.judge_pass.ensures.stopped
    (λ told. c.judge_pass.ensures.asked (g.F.Source.rest c.args.file.now) (length c.args.buffer.now)
    (c.pass_over-pass.ensures.opens told)))
    (if_devices (facts_of g.S.Source.tells g.S.Source.rest g.S.Source.failures) (g.F.Source.failures c.args.file.now)
    (g.F.Source.failures c.pass_over-pass.new.file) c.pass_over-pass.result.0 c.args.content.now
    c.judge_pass.new.content c.judge_pass.result
    c.pass_over-pass.ensures.count c.judge_pass.ensures.stopped c.judge_pass.ensures.devices)
    c.judge_pass.ensures.asks.unasked

pub returns-clause-end : goal.returns-clause-end
returns-clause-end g c =
    λ told. early_or_end c.pass_over-pass.result.0 c.args.content.now c.judge_pass.new.content c.judge_pass.result
    (g.F.Source.rest c.pass_over-pass.new.file ≡ []) c.judge_pass.ensures.stopped (c.pass_over-pass.ensures.end told)
