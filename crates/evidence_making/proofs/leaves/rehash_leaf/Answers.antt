use Rattle.evidence_making.proofs.StandsOn.{no_moment_opened}
use Rattle.evidence_making.proofs.Groups.{leaf_due, leaf_no_stamp, leaf_stands, leaf_unnamed, unnamed_opened}
use Rattle.evidence_making.proofs.leaves.rehash_leaf.Goals as goal

pub returns-in-Ok-clause-no_stamp : goal.returns-in-Ok-clause-no_stamp
returns-in-Ok-clause-no_stamp c = leaf_no_stamp c.args.octets.now c.in-Ok.record c.in-Ok.ensures c.chains.result.now
    c.chains.ensures c.args.alone c.args.alg c.args.digests.now c.requires.some c.new_leaf_of.result
    c.new_leaf_of.ensures

pub returns-in-Ok-clause-unnamed : goal.returns-in-Ok-clause-unnamed
returns-in-Ok-clause-unnamed c = leaf_unnamed c.args.octets.now c.in-Ok.record c.in-Ok.ensures c.chains.result.now
    c.chains.ensures c.args.alone c.args.alg c.args.digests.now c.requires.some c.new_leaf_of.result
    c.new_leaf_of.ensures

pub returns-in-Ok-clause-due : goal.returns-in-Ok-clause-due
returns-in-Ok-clause-due c = leaf_due c.args.octets.now c.in-Ok.record c.in-Ok.ensures c.chains.result.now
    c.chains.ensures c.args.alone c.args.alg c.args.digests.now c.requires.some c.new_leaf_of.result
    c.new_leaf_of.ensures

pub returns-in-Ok-clause-stands : goal.returns-in-Ok-clause-stands
returns-in-Ok-clause-stands c = leaf_stands c.args.octets.now c.in-Ok.record c.in-Ok.ensures c.chains.result.now
    c.chains.ensures c.args.alone c.args.alg c.args.digests.now c.requires.some c.new_leaf_of.result
    c.new_leaf_of.ensures

pub returns-in-Err-clause-no_stamp : goal.returns-in-Err-clause-no_stamp
returns-in-Err-clause-no_stamp c = no_moment_opened c.args.octets.now c.in-Err.fault c.in-Err.ensures

pub returns-in-Err-clause-unnamed : goal.returns-in-Err-clause-unnamed
returns-in-Err-clause-unnamed c =
    unnamed_opened c.args.octets.now c.args.alone c.args.digests.now c.in-Err.fault c.in-Err.ensures
