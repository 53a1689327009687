use Rattle.std.proofs.Common.{ℕ, List, [], ◌∷◌, ◌++◌, refl, sym, ◌∙◌, append-nil, arith}
use Rattle.der_core.specs.Element.{el}
use Rattle.cms_types.specs.SignedDataValue.{algorithms_parts}
use Rattle.evidence_types.specs.EvidenceValue.{evidence_parts, chains_parts}
use Rattle.evidence_making.proofs.Parts.{others_of, front_of, parts_by_front}
use Rattle.evidence_making.proofs.kept.kept_of.Goals as goal

pub returns : goal.returns
returns c = λ v h n.
    let algorithms : List ℕ = algorithms_parts v.algorithms in
    let parts = c.first.ensures 0x30 (evidence_parts v) [] (record { identifier = refl; size = h.1.size })
    (h.0 ∙ sym (append-nil (el 0x30 (evidence_parts v)))) in
    let front = c.before_last.ensures (front_of v) 0x30 (chains_parts v.chains) h.1.chains.size n
    (parts.0 ∙ parts_by_front v) in
    let behind = c.first-2.ensures 0x02 (1 ∷ []) (el 0x30 algorithms ++ others_of v)
    (record { identifier = refl; size = omega arith }) front in
    c.first-3.ensures 0x30 algorithms (others_of v) (record { identifier = refl; size = h.1.algorithms_size }) behind.1
