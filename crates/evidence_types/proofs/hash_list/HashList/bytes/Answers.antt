use Rattle.std.proofs.Common.{ℕ, List, ap, ◌∙◌}
use Rattle.evidence_types.specs.StampValue.{hash_list_parts}
use Rattle.evidence_types.proofs.EvidenceReaders.{values_there}
use Rattle.evidence_types.proofs.hash_list.HashList.bytes.Goals as goal

pub returns : goal.returns
returns c = c.rest.ensures.rest ∙ values_there c.self.inside.list c.rest.ensures.octets c.self.invariant.0
    ∙ ap (λ (vs : List (List ℕ)). hash_list_parts vs) c.self.view_is
