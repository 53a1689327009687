use Rattle.std.proofs.Common.{List, ap, subst, ◌∙◌}
use Rattle.std.specs.List.{AllByRecursion}
use Rattle.evidence_types.specs.StampValue.{StampValue, GoodStamp}
use Rattle.evidence_types.specs.EvidenceValue.{chain_parts}
use Rattle.evidence_types.proofs.EvidenceReaders.{stamps_there}
use Rattle.evidence_types.proofs.chain.Chain.bytes.Goals as goal

pub returns-clause-joined : goal.returns-clause-joined
returns-clause-joined c =
    let there = stamps_there c.self.inside.list c.rest.ensures.octets c.self.invariant.0 in
    c.rest.ensures.rest ∙ there.0 ∙ ap (λ (ss : List StampValue). chain_parts ss) c.self.view_is

pub returns-clause-each : goal.returns-clause-each
returns-clause-each c = subst (AllByRecursion GoodStamp) c.self.view_is
    (stamps_there c.self.inside.list c.rest.ensures.octets c.self.invariant.0).1
