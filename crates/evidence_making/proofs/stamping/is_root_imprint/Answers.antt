use Rattle.evidence_making.proofs.RootStamps.{is_imprint, is_other}
use Rattle.evidence_making.proofs.stamping.is_root_imprint.Goals as goal

pub returns-then-not-names : goal.returns-then-not-names
returns-then-not-names c = is_other c.args.stated.now.imprint c.args.root.now c.algorithm.result.now c.alg.result
    c.names.result c.algorithm.ensures c.alg.ensures c.names.ensures c.if-not-names.true

pub returns : goal.returns
returns c = is_imprint c.args.stated.now.imprint c.args.root.now c.algorithm.result.now c.alg.result c.names.result
    c.algorithm.ensures c.alg.ensures c.names.ensures c.imprint.result.now c.is.result c.if-not-names.false
    c.imprint.ensures c.is.ensures
