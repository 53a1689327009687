use Rattle.check_stream.proofs.Keeping.{handed_hashed, handed_failed}
use Rattle.check_stream.proofs.content.hash_wanted.Goals as goal
use Rattle.check_fit.specs.FileFitting.{facts_of}

pub returns-in-Ok : goal.returns-in-Ok
returns-in-Ok g c =
    handed_hashed (facts_of g.S.Source.tells g.S.Source.rest g.S.Source.failures) c.args.policy c.args.signers.now
    c.args.hashers c.wanted_by.result
    c.args.content.now c.in-Some.source c.digests_from.new.source c.in-Some.is c.in-Ok.digests c.wanted_by.ensures
    c.in-Ok.ensures

pub returns-in-Err : goal.returns-in-Err
returns-in-Err g c =
    handed_failed (facts_of g.S.Source.tells g.S.Source.rest g.S.Source.failures) c.args.policy c.args.signers.now
    c.args.hashers c.wanted_by.result
    c.args.content.now c.in-Some.source c.digests_from.new.source c.in-Some.is c.in-Err.fault c.in-Err.ensures
