use Rattle.evidence_making.proofs.StandsOn.{some_chains, last_found, last_is_stamp, last_due, last_stands, last_is_none}
use Rattle.evidence_making.proofs.StandsOn.{no_stamp_opened, malformed_opened}
use Rattle.evidence_making.proofs.leaves.last_stamp.Goals as goal

pub last_stamp_of-requires : goal.last_stamp_of-requires
last_stamp_of-requires c =
    some_chains c.args.octets.now c.in-Ok.record c.in-Ok.ensures c.chains.result.now c.chains.ensures

pub returns-in-Some-clause-found : goal.returns-in-Some-clause-found
returns-in-Some-clause-found c = last_found c.args.octets.now c.in-Ok.record c.in-Ok.ensures c.chains.result.now
    c.chains.ensures c.in-Some.last c.in-Some.ensures

pub returns-in-Some-clause-no_stamp : goal.returns-in-Some-clause-no_stamp
returns-in-Some-clause-no_stamp c = last_is_stamp c.args.octets.now c.in-Ok.record c.in-Ok.ensures c.chains.result.now
    c.chains.ensures c.in-Some.last c.in-Some.ensures

pub returns-in-Some-clause-due : goal.returns-in-Some-clause-due
returns-in-Some-clause-due c = last_due c.args.octets.now c.in-Ok.record c.in-Ok.ensures c.chains.result.now
    c.chains.ensures c.in-Some.last c.in-Some.ensures

pub returns-in-Some-clause-stands : goal.returns-in-Some-clause-stands
returns-in-Some-clause-stands c = last_stands c.args.octets.now c.in-Ok.record c.in-Ok.ensures c.chains.result.now
    c.chains.ensures c.in-Some.last c.in-Some.ensures

pub returns-in-None-clause-no_stamp : goal.returns-in-None-clause-no_stamp
returns-in-None-clause-no_stamp c = last_is_none c.args.octets.now c.in-Ok.record c.in-Ok.ensures c.chains.result.now
    c.chains.ensures c.in-None.ensures

pub returns-in-Err-clause-no_stamp : goal.returns-in-Err-clause-no_stamp
returns-in-Err-clause-no_stamp c = no_stamp_opened c.args.octets.now c.in-Err.fault c.in-Err.ensures

pub returns-in-Err-clause-malformed : goal.returns-in-Err-clause-malformed
returns-in-Err-clause-malformed c = malformed_opened c.args.octets.now c.in-Err.fault c.in-Err.ensures
