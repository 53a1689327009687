use Rattle.std.proofs.Common.{List, ap, subst, ◌∙◌}
use Rattle.std.specs.List.{AllByRecursion}
use Rattle.evidence_types.specs.StampValue.{StampValue}
use Rattle.evidence_types.specs.EvidenceValue.{chains_parts, GoodChain}
use Rattle.evidence_types.proofs.EvidenceReaders.{chains_there}
use Rattle.evidence_types.proofs.chains.Chains.bytes.Goals as goal

pub returns-clause-joined : goal.returns-clause-joined
returns-clause-joined c =
    let there = chains_there c.self.inside.list c.rest.ensures.octets c.self.invariant.0 in
    c.rest.ensures.rest ∙ there.0 ∙ ap (λ (cs : List (List StampValue)). chains_parts cs) c.self.view_is

pub returns-clause-each : goal.returns-clause-each
returns-clause-each c = subst (AllByRecursion GoodChain) c.self.view_is
    (chains_there c.self.inside.list c.rest.ensures.octets c.self.invariant.0).1
