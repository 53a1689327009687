use Rattle.std.proofs.lemmas.Result.{IfOk-weaker}
use Rattle.evidence_making.specs.Made.{lists_of}
use Rattle.evidence_making.proofs.Placed.{alone_filled, both_ok, encodes, nothing_before, nothing_good}
use Rattle.evidence_making.proofs.Made.{shows_leaf, of_leaf}
use Rattle.evidence_making.proofs.making.make_record.Goals as goal

pub returns-clause-made : goal.returns-clause-made
returns-clause-made c = both_ok c.record_of.result _ _ _
    (λ v is fits. encodes c.args.alg nothing_before (lists_of c.args.values.now) c.args.token.now v.items nothing_good
    c.requires (alone_filled c.args.values.now) is fits) c.record_of.ensures.octets c.record_of.ensures.fits

pub returns-clause-shows : goal.returns-clause-shows
returns-clause-shows c = IfOk-weaker c.record_of.result _ _
    (λ v h. shows_leaf c.args.alg c.args.values.now c.args.token.now v.items h) (returns-clause-made c)

pub returns-clause-leaf : goal.returns-clause-leaf
returns-clause-leaf c = IfOk-weaker c.record_of.result _ _
    (λ v h. of_leaf c.args.alg c.args.values.now c.args.token.now v.items h) (returns-clause-made c)
