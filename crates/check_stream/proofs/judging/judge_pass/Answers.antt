use Rattle.digests.specs.Selection.{FedWanted}
use Rattle.check_verdict.specs.Passing.{Terms}
use Rattle.check_verdict.specs.Checkers.{terms_for}
use Rattle.check_stream.specs.StreamVerdicts.{ChecksStreamAsking}
use Rattle.check_stream.proofs.Verdicts.{of_ok, of_stopped, is_stopped}
use Rattle.check_stream.proofs.judging.judge_pass.Goals as goal
use Rattle.check_fit.specs.FileFitting.{facts_of}

pub returns-in-Ok-clause-asked : goal.returns-in-Ok-clause-asked
returns-in-Ok-clause-asked g c = λ octets room opens.
    let u : Terms = terms_for c.args.checker.now (g.V.Verifier.vouches c.args.verifier.now) in
    of_ok (FedWanted c.args.hashers) octets room c.args.pass opens
    (ChecksStreamAsking (facts_of g.S.Source.tells g.S.Source.rest g.S.Source.failures) u
    (λ test. g.V.Verifier.asked_only test c.args.verifier.now c.judge_kept.new.verifier) octets c.args.content.now
    c.judge_kept.new.content)
    c.in-Ok.opened c.args.content.now c.judge_kept.new.content c.judge_kept.result c.in-Ok.is
    (c.judge_kept.ensures.asked octets room)

pub returns-in-Err-clause-asked : goal.returns-in-Err-clause-asked
returns-in-Err-clause-asked g c = λ octets room opens.
    let u : Terms = terms_for c.args.checker.now (g.V.Verifier.vouches c.args.verifier.now) in
    of_stopped (facts_of g.S.Source.tells g.S.Source.rest g.S.Source.failures) u
    (λ test. g.V.Verifier.asked_only test c.args.verifier.now c.args.verifier.now)
    octets c.args.content.now (FedWanted c.args.hashers) room c.args.pass c.in-Err.fault c.stopped_by.result opens
    c.in-Err.is c.stopped_by.ensures

pub returns-in-Err-clause-stopped : goal.returns-in-Err-clause-stopped
returns-in-Err-clause-stopped g c =
    is_stopped c.args.content.now c.args.pass c.in-Err.fault c.stopped_by.result c.in-Err.is c.stopped_by.ensures

pub returns-in-Ok-clause-devices : goal.returns-in-Ok-clause-devices
returns-in-Ok-clause-devices g c = rw (c.in-Ok.is) c.judge_kept.ensures.devices

pub returns-in-Err-clause-devices : goal.returns-in-Err-clause-devices
returns-in-Err-clause-devices g c = rw (c.in-Err.is) tt
